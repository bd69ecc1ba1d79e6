-- No edge of a star-shaped polygon runs back along another, not even along a piece of it.
use Rattle.std.proofs.Common.{◌≡◌, ◌⊎◌, inl, inr, ℕ, suc, ◌-◌, ◌<◌, negsuc, [], ◌∷◌, length, refl, sym, ap, ◌∙◌, subst, arith}
use Rattle.std.specs.Ordering.{ordering_reverse, is_lt}
use Rattle.std.specs.declared.cmp.Ordering.{Ordering}
use Rattle.std.specs.declared.cmp.Ordering.TheVariants.{Less, Equal, Greater}
use Rattle.theory_ring.specs.Ring.{Ops, Laws, difference}
use Rattle.theory_ring.specs.Sign.{Signed, OrderLaws, IsPositive, IsNonNegative}
use Rattle.theory_plane.specs.Plane.{PlanePoint, orientation}
use Rattle.theory_plane.specs.Segment.{Between, on_segment}
use Rattle.theory_ring.proofs.Normaliser.{var, con, neg, ring, ring_from, ◌⊕◌, ◌⊖◌, ◌⊗◌}
use Rattle.theory_ring.proofs.Signs.{pos_nonneg, pos_add_nonneg, less_neg}
use Rattle.theory_plane.proofs.OnSegment.{on_segment-between}
use Rattle.theory_dissection.proofs.Ahead.{Ahead, ahead-turns}
use Rattle.theory_dissection.proofs.Around.{orientation-back}
use Rattle.theory_dissection.proofs.StarEdges.{Place, first, middle, last, spot_of, at, from, to, middle-left, left_of_edge, zero_of_edge, next-middle, next-last, open_first, open_last}
use Rattle.theory_dissection.proofs.MovedStar.{MovedStar}

module _ (S : Signed) (L : Laws S.ops) (O : OrderLaws S) where
  abbrev R : Ops
  R = S.ops

  -- u and v are ahead of o in one direction: β (u - o) = α (v - o)
  one_way : (o u v : PlanePoint R.carrier) (α β : R.carrier) → IsPositive S α → IsPositive S β
      → R.mul β (difference R u.x o.x) ≡ R.mul α (difference R v.x o.x) → R.mul β (difference R u.y o.y) ≡ R.mul α (difference R v.y o.y)
      → Between S o v u ⊎ Between S o u v
  one_way o u v α β α_pos β_pos ex ey = at_sign (S.sign (difference R α β)) refl
    where
      nearer : (o u v α β : R.carrier) → R.mul β (difference R u o) ≡ R.mul α (difference R v o)
          → R.mul (R.add (difference R α β) β) v ≡ R.add (R.mul (difference R α β) o) (R.mul β u)
      nearer o u v α β e =
          ring_from R L (o ∷ (u ∷ (v ∷ (α ∷ (β ∷ []))))) (((var 3 ⊖ var 4) ⊕ var 4) ⊗ var 2) ((var 3 ⊖ var 4) ⊗ var 0 ⊕ var 4 ⊗ var 1)
          ((con (negsuc 0), var 4 ⊗ (var 1 ⊖ var 0), var 3 ⊗ (var 2 ⊖ var 0)) ∷ []) (e, tt) refl

      between : (u v : PlanePoint R.carrier) (α β : R.carrier) → IsPositive S α → IsPositive S β → IsNonNegative S (difference R α β)
          → R.mul β (difference R u.x o.x) ≡ R.mul α (difference R v.x o.x)
          → R.mul β (difference R u.y o.y) ≡ R.mul α (difference R v.y o.y) → Between S o u v
      between u v α β a b g ex ey = record {
        i = difference R α β;
        j = β;
        i_nonneg = g;
        j_nonneg = pos_nonneg S L O β b;
        some = ap S.sign (ring R L (α ∷ (β ∷ [])) ((var 0 ⊖ var 1) ⊕ var 1) (var 0) refl) ∙ a;
        at_x = nearer o.x u.x v.x α β ex;
        at_y = nearer o.y u.y v.y α β ey;
      }

      at_sign : (s : Ordering) → S.sign (difference R α β) ≡ s → Between S o v u ⊎ Between S o u v
      at_sign Greater e = inr (between u v α β α_pos β_pos (ap is_lt e) ex ey)
      at_sign Equal e = inr (between u v α β α_pos β_pos (ap is_lt e) ex ey)
      at_sign Less e = inl (between v u β α β_pos α_pos
          (pos_nonneg S L O _ (ap S.sign (ring R L (α ∷ (β ∷ [])) (var 1 ⊖ var 0) (neg (var 0 ⊖ var 1)) refl)
          ∙ less_neg S L O _ e)) (sym ex) (sym ey))

  -- a→b along o→v, and b→a along u→o: v and u are ahead of o in one direction
  pub meets_back : (o u v a b : PlanePoint R.carrier) → Ahead S o v a b → Ahead S u o b a → Between S o v u ⊎ Between S o u v
  meets_back o u v a b h g =
      one_way o u v (R.mul g.p (R.add h.s h.q)) (R.mul h.p (R.add g.q g.rest))
      (O.sign-mul _ _ g.p_pos (ap S.sign (L.add_comm h.s h.q) ∙ pos_add_nonneg S L O h.q h.s h.q_pos h.s_nonneg))
      (O.sign-mul _ _ h.p_pos (pos_add_nonneg S L O g.q g.rest g.q_pos g.rest_nonneg))
      (same o.x u.x v.x a.x b.x h.run-x h.start-x g.run-x g.start-x) (same o.y u.y v.y a.y b.y h.run-y h.start-y g.run-y g.start-y)
    where
      same : (o u v a b : R.carrier) → R.mul h.p (difference R b a) ≡ R.mul h.q (difference R v o)
          → R.mul h.p (difference R a o) ≡ R.mul h.s (difference R v o)
          → R.mul g.p (difference R a b) ≡ R.mul g.q (difference R o u) → R.mul g.p (difference R b u) ≡ R.mul g.s (difference R o u)
          → R.mul (R.mul h.p (R.add g.q g.rest)) (difference R u o) ≡ R.mul (R.mul g.p (R.add h.s h.q)) (difference R v o)
      same o u v a b e1 e2 e3 e4 =
          ring_from R L (o ∷ (u ∷ (v ∷ (a ∷ (b ∷ (h.p ∷ (h.q ∷ (h.s ∷ (g.p ∷ (g.q ∷ (g.s ∷ (g.rest ∷ []))))))))))))
          ((var 5 ⊗ (var 9 ⊕ var 11)) ⊗ (var 1 ⊖ var 0)) ((var 8 ⊗ (var 7 ⊕ var 6)) ⊗ (var 2 ⊖ var 0))
          ((var 8, var 5 ⊗ (var 4 ⊖ var 3), var 6 ⊗ (var 2 ⊖ var 0)) ∷ ((var 8, var 5 ⊗ (var 3 ⊖ var 0), var 7 ⊗ (var 2 ⊖ var 0))
          ∷ ((neg (var 5), var 8 ⊗ (var 4 ⊖ var 1), var 10 ⊗ (var 0 ⊖ var 1))
          ∷ ((neg (var 5 ⊗ (var 1 ⊖ var 0)), var 8, (var 10 ⊕ var 9) ⊕ var 11) ∷ []))))
          (e1, (e2, (e4, (g.whole, tt)))) refl

module _ (Q : MovedStar) where
  open Q use {points as P, laws as W, move as f, keeps, vertices as vs, star, three}

  abbrev S : Signed
  S = P.real

  abbrev at_vertex : ℕ → PlanePoint P.real.ops.carrier
  at_vertex = at Q

  abbrev start : ℕ → PlanePoint P.real.ops.carrier
  start = from Q

  abbrev end : ℕ → PlanePoint P.real.ops.carrier
  end = to Q

  -- the two edges have opposite directions
  opposite : (d e : ℕ) (a b z : PlanePoint P.real.ops.carrier) → Ahead S (start d) (end d) a b → Ahead S (start e) (end e) b a
      → S.sign (orientation P.real.ops (start e) (end e) z) ≡ ordering_reverse (S.sign (orientation P.real.ops (start d) (end d) z))
  opposite d e a b z h g =
      ahead-turns S W.of_real W.of_order (start e) (end e) b a z g ∙ orientation-back S W.of_real W.of_order a b z
      ∙ ap ordering_reverse (sym (ahead-turns S W.of_real W.of_order (start d) (end d) a b z h))

  -- the first edge and the last
  at_ends : (i : ℕ) (a b : PlanePoint P.real.ops.carrier) → suc (suc i) ≡ length vs
      → Ahead S (start 0) (end 0) a b → Ahead S (start (suc i)) (end (suc i)) b a → ⊥
  at_ends i a b n h g = at_case (meets_back S W.of_real W.of_order (at_vertex 0) (at_vertex (suc i)) (at_vertex 1) a b h' g')
    where
      h' : Ahead S (at_vertex 0) (at_vertex 1) a b
      h' = subst (λ j. Ahead S (at_vertex 0) (at_vertex j) a b) (next-middle Q 0 (omega arith)) h

      g' : Ahead S (at_vertex (suc i)) (at_vertex 0) b a
      g' = subst (λ j. Ahead S (at_vertex (suc i)) (at_vertex j) b a) (next-last Q (suc i) n) g

      number : suc i ≡ length vs - 1
      number = omega arith

      at_case : Between S (at_vertex 0) (at_vertex 1) (at_vertex (suc i)) ⊎ Between S (at_vertex 0) (at_vertex (suc i)) (at_vertex 1) → ⊥
      at_case (inl k) =
          let t = ap (λ j. on_segment S (at_vertex 0) (at_vertex 1) (at_vertex j)) number in
          cc (sym (on_segment-between S W.of_real W.of_order (at_vertex 0) (at_vertex 1) (at_vertex (suc i)) k) ∙ t ∙ open_last Q)
      at_case (inr k) =
          let t = ap (λ j. on_segment S (at_vertex 0) (at_vertex j) (at_vertex 1)) number in
          cc (sym (on_segment-between S W.of_real W.of_order (at_vertex 0) (at_vertex (suc i)) (at_vertex 1) k) ∙ t ∙ open_first Q)

  -- an edge with itself
  itself : (e : ℕ) (a b : PlanePoint P.real.ops.carrier) → Place (length vs) e → Ahead S (start e) (end e) a b → Ahead S (start e) (end e) b a → ⊥
  itself e a b p h g =
      let z = left_of_edge Q e p in
      cc (sym z.1 ∙ opposite e e a b z.0 h g ∙ ap ordering_reverse z.1)

  -- one of the two in the middle: vertex 0 is strictly left of it, and so strictly right of the other
  with_middle : (d e : ℕ) (a b : PlanePoint P.real.ops.carrier) → Place (length vs) e
      → S.sign (orientation P.real.ops (start d) (end d) (at_vertex 0)) ≡ Greater
      → Ahead S (start d) (end d) a b → Ahead S (start e) (end e) b a → ⊥
  with_middle d e a b p left h g = at_case (zero_of_edge Q e p)
    where
      is : S.sign (orientation P.real.ops (start e) (end e) (at_vertex 0)) ≡ Less
      is = opposite d e a b (at_vertex 0) h g ∙ ap ordering_reverse left

      at_case : (S.sign (orientation P.real.ops (start e) (end e) (at_vertex 0)) ≡ Equal)
          ⊎ (S.sign (orientation P.real.ops (start e) (end e) (at_vertex 0)) ≡ Greater) → ⊥
      at_case (inl k) = cc (sym is ∙ k)
      at_case (inr k) = cc (sym is ∙ k)

  returns_not : (d e : ℕ) (a b : PlanePoint P.real.ops.carrier) → Place (length vs) d → Place (length vs) e
      → Ahead S (start d) (end d) a b → Ahead S (start e) (end e) b a → ⊥
  returns_not d e a b (middle i k) q h g = with_middle (suc i) e a b q (middle-left Q i k) h g
  returns_not d e a b first (middle i k) h g = with_middle (suc i) 0 b a first (middle-left Q i k) g h
  returns_not d e a b (last j n) (middle i k) h g = with_middle (suc i) (suc j) b a (last j n) (middle-left Q i k) g h
  returns_not d e a b first first h g = itself 0 a b first h g
  returns_not d e a b first (last i n) h g = at_ends i a b n h g
  returns_not d e a b (last i n) first h g = at_ends i b a n g h
  returns_not d e a b (last i n) (last j m) h g =
      let same : suc j ≡ suc i = omega arith in
      itself (suc i) a b (last i n) h (subst (λ k. Ahead S (start k) (end k) b a) same g)

  pub no_return : (d e : ℕ) (a b : PlanePoint P.real.ops.carrier) → d < length vs → e < length vs
      → Ahead S (start d) (end d) a b → Ahead S (start e) (end e) b a → ⊥
  no_return d e a b p q h g = returns_not d e a b (spot_of (length vs) d p) (spot_of (length vs) e q) h g
