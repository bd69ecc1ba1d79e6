-- Each edge of a star-shaped polygon has a triangle of the polygon on its left; and two edges along which one line lies are one edge.
use Rattle.std.proofs.Common.{◌≡◌, inl, inr, ℕ, zero, suc, ◌<◌, ◌≤◌, pos, [], ◌∷◌, length, map, refl, sym, ap, ap₂, ◌∙◌, subst, arith}
use Rattle.std.proofs.lemmas.Bool.{cases_lt, cases_eq}
use Rattle.std.specs.declared.cmp.Ordering.TheVariants.{Equal}
use Rattle.theory_ring.specs.Ring.{Ops, Laws, difference}
use Rattle.theory_ring.specs.Sign.{Signed, OrderLaws, IsPositive}
use Rattle.theory_plane.specs.Plane.{PlanePoint, TestPoint, orientation}
use Rattle.theory_plane.specs.Crossing.{count}
use Rattle.theory_plane.specs.Triangle.{corners}
use Rattle.theory_ring.proofs.Normaliser.{var, con, neg, ring_from, ◌⊕◌, ◌⊖◌, ◌⊗◌}
use Rattle.theory_ring.proofs.Signs.{pos_add_nonneg, nonneg_mul, pos_nonneg}
use Rattle.theory_plane.proofs.Linear.{cancel}
use Rattle.theory_plane.proofs.Triangle.{edge_sum, count-edge_sum}
use Rattle.theory_plane.proofs.Inside.{sum_rotated}
use Rattle.theory_substitution.specs.Plane.{plane_point}
use Rattle.theory_dissection.proofs.Ahead.{Ahead, ahead-turns}
use Rattle.theory_dissection.proofs.Around.{orientation-rotated, orientation-start, orientation-end, orientation-none}
use Rattle.theory_dissection.proofs.StarEdges.{next_of, Place, first, middle, last, at, from, to, fan-left, next-middle, next-last, middle-left}
use Rattle.theory_dissection.proofs.StarCount.{in_triangle, one_triangle}
use Rattle.theory_dissection.proofs.CommonPoint.{Shared, common_point}
use Rattle.theory_dissection.proofs.MovedStar.{MovedStar}

module _ (S : Signed) (L : Laws S.ops) (O : OrderLaws S) where
  abbrev R : Ops
  R = S.ops

  -- u→v lies along o→v1 and along v2→o: then it has no length, and neither has o→v1
  pub no_line : (o v1 v2 u v : PlanePoint R.carrier) → Ahead S o v1 u v → Ahead S v2 o u v → (v1.x ≡ o.x) × (v1.y ≡ o.y)
  no_line o v1 v2 u v h g = (
    same o.x v1.x v2.x u.x v.x h.run-x h.start-x g.run-x g.start-x,
    same o.y v1.y
        v2.y u.y v.y h.run-y h.start-y g.run-y g.start-y,
  )
    where
      weight : R.carrier
      weight = R.add (R.mul g.q (R.add h.s h.q)) (R.mul g.rest h.q)

      weight_pos : IsPositive S weight
      weight_pos =
          pos_add_nonneg S L O _ _ (O.sign-mul _ _ g.q_pos (ap S.sign (L.add_comm h.s h.q) ∙ pos_add_nonneg S L O h.q h.s h.q_pos h.s_nonneg))
          (nonneg_mul S L O _ _ g.rest_nonneg (pos_nonneg S L O _ h.q_pos))

      same : (o a b u v : R.carrier) → R.mul h.p (difference R v u) ≡ R.mul h.q (difference R a o)
          → R.mul h.p (difference R u o) ≡ R.mul h.s (difference R a o)
          → R.mul g.p (difference R v u) ≡ R.mul g.q (difference R o b) → R.mul g.p (difference R u b) ≡ R.mul g.s (difference R o b) → a ≡ o
      same o a b u v e1 e2 e3 e4 =
          cancel S L O (R.mul g.p weight) a o (O.sign-mul _ _ g.p_pos weight_pos) (
          ring_from R L (o ∷ (a ∷ (b ∷ (u ∷ (v ∷ (h.p ∷ (h.q ∷ (h.s ∷ (g.p ∷ (g.q ∷ (g.s ∷ (g.rest ∷ []))))))))))))
          ((var 8 ⊗ (var 9 ⊗ (var 7 ⊕ var 6) ⊕ var 11 ⊗ var 6)) ⊗ (var 1 ⊖ var 0)) (con (pos 0))
          ((neg (var 8 ⊗ var 9 ⊕ var 8 ⊗ var 11), var 5 ⊗ (var 4 ⊖ var 3), var 6 ⊗ (var 1 ⊖ var 0))
          ∷ ((neg (var 8 ⊗ var 9), var 5 ⊗ (var 3 ⊖ var 0), var 7 ⊗ (var 1 ⊖ var 0))
          ∷ ((var 5 ⊗ (var 9 ⊕ var 11), var 8 ⊗ (var 4 ⊖ var 3), var 9 ⊗ (var 0 ⊖ var 2))
          ∷ ((var 5 ⊗ var 9, var 8 ⊗ (var 3 ⊖ var 2), var 10 ⊗ (var 0 ⊖ var 2))
          ∷ ((neg (var 5 ⊗ (var 9 ⊗ (var 0 ⊖ var 2))), var 8, (var 10 ⊕ var 9) ⊕ var 11) ∷ [])))))
          (e1, (e2, (e3, (e4, (g.whole, tt))))) refl)

module _ (Q : MovedStar) where
  open Q use {points as P, laws as W, move as f, keeps, vertices as vs, star, three}

  abbrev S : Signed
  S = P.real

  abbrev at_vertex : ℕ → PlanePoint P.real.ops.carrier
  at_vertex = at Q

  abbrev start : ℕ → PlanePoint P.real.ops.carrier
  start = from Q

  abbrev end : ℕ → PlanePoint P.real.ops.carrier
  end = to Q

  -- the triangle of the fan on an edge, and the vertex that is its third
  pub record Apex (e : ℕ) : Type 0 where
    pub number : ℕ
    pub in_fan : suc (suc number) < length vs
    pub apex : PlanePoint P.real.ops.carrier
    pub left : IsPositive S (orientation P.real.ops (start e) (end e) apex)
    pub sum : (q : TestPoint P.real.ops.carrier)
        → edge_sum S (start e) (end e) apex q ≡ edge_sum S (at_vertex 0) (at_vertex (suc number))
        (at_vertex (suc (suc number))) q

  pub apex_of : (e : ℕ) → Place (length vs) e → Apex e
  apex_of e first = record {
    number = 0;
    in_fan = omega arith;
    apex = at_vertex 2;
    left = ap (λ j. S.sign (orientation P.real.ops (at_vertex 0) (at_vertex j) (at_vertex 2))) is ∙ fan-left Q 0 (omega arith);
    sum = λ q. ap (λ j. edge_sum S (at_vertex 0) (at_vertex j) (at_vertex 2) q) is;
  }
    where
      is : next_of (length vs) 0 ≡ 1
      is = next-middle Q 0 (omega arith)
  apex_of e (middle i h) = record {
    number = i;
    in_fan = h;
    apex = at_vertex 0;
    left = middle-left Q i h;
    sum = λ q. ap (λ j. edge_sum S (at_vertex (suc i)) (at_vertex j) (at_vertex 0) q) (next-middle Q (suc i) h)
        ∙ sum_rotated S W.of_real W.of_order (at_vertex 0) (at_vertex (suc i)) (at_vertex (suc (suc i))) q;
  }
  apex_of e (last zero h) = absurd (omega arith)
  apex_of e (last (suc i) h) = record {
    number = i;
    in_fan = omega arith;
    apex = at_vertex (suc i);
    left =
        ap (λ j. S.sign (orientation P.real.ops (at_vertex (suc (suc i))) (at_vertex j) (at_vertex (suc i)))) is
        ∙ ap S.sign (orientation-rotated S W.of_real W.of_order (at_vertex (suc i)) (at_vertex (suc (suc i))) (at_vertex 0))
        ∙ ap S.sign (orientation-rotated S W.of_real W.of_order (at_vertex 0) (at_vertex (suc i))
        (at_vertex (suc (suc i)))) ∙ fan-left Q i (omega arith);
    sum = λ q. ap (λ j. edge_sum S (at_vertex (suc (suc i))) (at_vertex j) (at_vertex (suc i)) q) is
        ∙ sum_rotated S W.of_real W.of_order (at_vertex (suc i)) (at_vertex (suc (suc i))) (at_vertex 0) q
        ∙ sum_rotated S W.of_real W.of_order (at_vertex 0) (at_vertex (suc i)) (at_vertex (suc (suc i))) q;
  }
    where
      is : next_of (length vs) (suc (suc i)) ≡ 0
      is = next-last Q (suc (suc i)) h

  -- the polygon holds the triangle's points
  pub apex-covers : (e : ℕ) (a : Apex e) (q : TestPoint P.real.ops.carrier) → IsPositive S q.d → edge_sum S (start e) (end e) a.apex q ≡ pos 1
      → count S (map (λ z. plane_point P (f z)) vs) q ≡ pos 1
  apex-covers e a q d_pos h =
      in_triangle Q q d_pos a.number a.in_fan
      (count-edge_sum S (record { a = at_vertex 0; b = at_vertex (suc a.number); c = at_vertex (suc (suc a.number)) }) q ∙ sym (a.sum q) ∙ h)

  -- an edge in the middle has the triangle of its number
  middle-number : (i j : ℕ) (k : suc (suc i) < length vs) (l : suc (suc j) < length vs)
      → (apex_of (suc i) (middle i k)).number ≡ (apex_of (suc j) (middle j l)).number → i ≡ j
  unfolding apex_of
  middle-number i j k l e = e

  -- ---- two edges along which one line lies
  -- their triangles are one
  one_number : (d e : ℕ) (a : Apex d) (b : Apex e) (u v : PlanePoint P.real.ops.carrier)
      → Ahead S (start d) (end d) u v → Ahead S (start e) (end e) u v → a.number ≡ b.number
  one_number d e a b u v h g = elim (cases_eq a.number b.number) [
    | inl same ↦ same
    | inr differ ↦ absurd (elim (cases_lt a.number b.number)
        [ inl lt ↦ below lt | inr ge ↦ above differ ge ])
  ]
    where
      c : Shared S W.of_real W.of_order (start d) (end d) a.apex (start e) (end e) b.apex
      c = common_point S W.of_real W.of_order (start d) (end d) a.apex (start e) (end e) b.apex u v a.left b.left h g

      in_a : count S (corners (record { a = at_vertex 0; b = at_vertex (suc a.number); c = at_vertex (suc (suc a.number)) })) c.point ≡ pos 1
      in_a = count-edge_sum S (record {
        a = at_vertex 0;
        b = at_vertex (suc a.number);
        c = at_vertex (suc (suc a.number));
      }) c.point ∙ sym (a.sum c.point) ∙ c.in_one

      in_b : count S (corners (record { a = at_vertex 0; b = at_vertex (suc b.number); c = at_vertex (suc (suc b.number)) })) c.point ≡ pos 1
      in_b = count-edge_sum S (record {
        a = at_vertex 0;
        b = at_vertex (suc b.number);
        c = at_vertex (suc (suc b.number));
      }) c.point ∙ sym (b.sum c.point) ∙ c.in_other

      below : a.number < b.number → ⊥
      below lt = one_triangle Q c.point c.d_pos a.number b.number lt b.in_fan in_a in_b

      above : (a.number ≡ b.number → ⊥) → b.number ≤ a.number → ⊥
      above differ ge = one_triangle Q c.point c.d_pos b.number a.number (omega arith) a.in_fan in_b in_a

  same_side : (d e : ℕ) (u v z : PlanePoint P.real.ops.carrier) → Ahead S (start d) (end d) u v → Ahead S (start e) (end e) u v
      → S.sign (orientation P.real.ops (start d) (end d) z) ≡ S.sign (orientation P.real.ops (start e) (end e) z)
  same_side d e u v z h g = ahead-turns S W.of_real W.of_order (start d) (end d) u v z h
      ∙ sym (ahead-turns S W.of_real W.of_order (start e) (end e) u v z g)

  -- one in the middle and one at vertex 0
  not_both_kinds : (i e : ℕ) (u v : PlanePoint P.real.ops.carrier) → suc (suc i) < length vs
      → S.sign (orientation P.real.ops (start e) (end e) (at_vertex 0)) ≡ Equal
      → Ahead S (start (suc i)) (end (suc i)) u v → Ahead S (start e) (end e) u v → ⊥
  not_both_kinds i e u v k flat h g = cc (sym (middle-left Q i k) ∙ same_side (suc i) e u v (at_vertex 0) h g ∙ flat)

  first-flat : S.sign (orientation P.real.ops (start 0) (end 0) (at_vertex 0)) ≡ Equal
  first-flat = orientation-start S W.of_real W.of_order (at_vertex 0) (end 0)

  last-flat : (i : ℕ) → suc (suc i) ≡ length vs → S.sign (orientation P.real.ops (start (suc i)) (end (suc i)) (at_vertex 0)) ≡ Equal
  last-flat i n = ap (λ j. S.sign (orientation P.real.ops (at_vertex (suc i)) (at_vertex j) (at_vertex 0)))
      (next-last Q (suc i) n) ∙ orientation-end S W.of_real W.of_order (at_vertex (suc i)) (at_vertex 0)

  -- the first and the last
  not_both_ends : (i : ℕ) (u v : PlanePoint P.real.ops.carrier) → suc (suc i) ≡ length vs
      → Ahead S (start 0) (end 0) u v → Ahead S (start (suc i)) (end (suc i)) u v → ⊥
  not_both_ends i u v n h g =
      let h' = subst (λ j. Ahead S (at_vertex 0) (at_vertex j) u v) (next-middle Q 0 (omega arith)) h in
      let g' = subst (λ j. Ahead S (at_vertex (suc i)) (at_vertex j) u v) (next-last Q (suc i) n) g in
      let same = no_line S W.of_real W.of_order (at_vertex 0) (at_vertex 1) (at_vertex (suc i)) u v h' g' in
      let one = ap₂ (λ x y. S.sign (orientation P.real.ops (at_vertex 0) (record { x = x; y = y }) (at_vertex 2))) same.0 same.1 in
      cc (sym (fan-left Q 0 (omega arith)) ∙ one ∙ orientation-none S W.of_real W.of_order (at_vertex 0) (at_vertex 2))

  pub one_edge : (d e : ℕ) (u v : PlanePoint P.real.ops.carrier) → Place (length vs) d → Place (length vs) e
      → Ahead S (start d) (end d) u v → Ahead S (start e) (end e) u v → d ≡ e
  one_edge d e u v first first h g = refl
  one_edge d e u v first (middle j k) h g = absurd (not_both_kinds j 0 u v k first-flat g h)
  one_edge d e u v first (last j n) h g = absurd (not_both_ends j u v n h g)
  one_edge d e u v (middle i k) first h g = absurd (not_both_kinds i 0 u v k first-flat h g)
  one_edge d e u v (middle i k) (middle j l) h g = ap suc
      (middle-number i j k l (one_number (suc i) (suc j) (apex_of (suc i) (middle i k))
      (apex_of (suc j) (middle j l)) u v h g))
  one_edge d e u v (middle i k) (last j n) h g = absurd (not_both_kinds i (suc j) u v k (last-flat j n) h g)
  one_edge d e u v (last i n) first h g = absurd (not_both_ends i u v n g h)
  one_edge d e u v (last i n) (middle j l) h g = absurd (not_both_kinds j (suc i) u v l (last-flat i n) g h)
  one_edge d e u v (last i n) (last j m) h g = omega arith
