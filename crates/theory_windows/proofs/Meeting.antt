-- A polygon meets an open box where one of its edges does.
use Rattle.std.proofs.Common.{◌≡◌, ◌⊎◌, inl, inr, ℕ, suc, ◌<◌, List, [], ◌∷◌, length, pos, ◌+ℤ◌, ◌*ℤ◌, ◌<ℤ◌, ◌≤ℤ◌, refl, sym, ap, ◌∙◌, subst, true, int_eq, is_gt, arith}
use Rattle.std.proofs.lemmas.Int.{ints}
use Rattle.std.proofs.lemmas.Bool.{and_parts, and_from}
use Rattle.theory_ring.specs.Ring.{Ops, Laws, difference}
use Rattle.theory_ring.specs.Sign.{Signed, OrderLaws, IsPositive}
use Rattle.theory_plane.specs.Plane.{PlanePoint, TestPoint}
use Rattle.theory_plane.specs.Segment.{Between}
use Rattle.theory_plane.specs.Triangle.{Triangle, corners, fan, turns_left}
use Rattle.theory_plane.specs.Box.{OpenBox, is_shorter, scaled}
use Rattle.theory_ring.proofs.Normaliser.{var, con, neg, ring, ◌⊕◌, ◌⊖◌, ◌⊗◌}
use Rattle.theory_ring.proofs.Booleans.{equal_numbers}
use Rattle.theory_ring.proofs.Squares.{mul_pos}
use Rattle.theory_plane.proofs.OnSegment.{between-on_segment}
use Rattle.theory_plane.proofs.BoxOverlap.{greater}
use Rattle.theory_plane.proofs.BoxPoints.{whole_positive, test_positive}
use Rattle.theory_plane.proofs.Triangle.{count-edge_sum}
use Rattle.theory_plane.proofs.Inside.{sum_rotated}
use Rattle.theory_plane.proofs.Fan.{count-fan}
use Rattle.std.specs.List.{AllByRecursion}
use Rattle.theory_addresses.specs.Search.{IsAmong}
use Rattle.theory_addresses.proofs.Lists.{AllByRecursion-among}
use Rattle.theory_windows.specs.Outlines.{edges, PlaneEdge, Polygon, MeetsBox}
use Rattle.theory_windows.specs.Meeting.{PolygonMeetsBox, IsLeftFan, TriangleMeets, PolygonMeets}
use Rattle.theory_windows.proofs.Multiples.{Steps, reaches, as_suc, all_reach}
use Rattle.theory_windows.proofs.MixedPoint.{mixed, mixed-inside}
use Rattle.theory_windows.proofs.FanEdges.{tri, Over, over-polygon, counts-one, must_be_one, all-good, turned-left}

module _ (S : Signed) (L : Laws S.ops) (O : OrderLaws S) where
  abbrev R : Ops
  R = S.ops

  -- ---- one coordinate: x/d and the sum m of three numbers
  abbrev below_steps : R.carrier → R.carrier → R.carrier → R.carrier → R.carrier → Steps S
  below_steps c w x d m = record {
    size = difference R (R.mul d w) (difference R x (R.mul d c));
    from = difference R (R.mul (R.int (pos 3)) w) (difference R m (R.mul (R.int (pos 3)) c));
  }

  abbrev above_steps : R.carrier → R.carrier → R.carrier → R.carrier → R.carrier → Steps S
  above_steps c w x d m = record {
    size = difference R (R.mul d w) (R.neg (difference R x (R.mul d c)));
    from = difference R (R.mul (R.int (pos 3)) w) (R.neg (difference R m (R.mul (R.int (pos 3)) c)));
  }

  mixed-below : (c w x d m k : R.carrier) → reaches S k (below_steps c w x d m) → reaches S k (above_steps c w x d m)
      → is_shorter S (difference R (R.add (R.mul k x) m) (R.mul (R.add (R.mul k d) (R.int (pos 3))) c))
      (R.mul (R.add (R.mul k d) (R.int (pos 3))) w) ≡ true
  mixed-below c w x d m k f g = and_from _ _
      (ap is_gt (ap S.sign (ring R L (c ∷ (w ∷ (x ∷ (d ∷ (m ∷ (k ∷ []))))))
      ((var 5 ⊗ var 3 ⊕ con (pos 3)) ⊗ var 1 ⊖ ((var 5 ⊗ var 2 ⊕ var 4) ⊖ (var 5 ⊗ var 3 ⊕ con (pos 3)) ⊗ var 0))
      (var 5 ⊗ (var 3 ⊗ var 1 ⊖ (var 2 ⊖ var 3 ⊗ var 0)) ⊕ (con (pos 3) ⊗ var 1 ⊖ (var 4 ⊖ con (pos 3) ⊗ var 0))) refl) ∙ f))
      (ap is_gt (ap S.sign (ring R L (c ∷ (w ∷ (x ∷ (d ∷ (m ∷ (k ∷ []))))))
      ((var 5 ⊗ var 3 ⊕ con (pos 3)) ⊗ var 1 ⊖ neg ((var 5 ⊗ var 2 ⊕ var 4) ⊖ (var 5 ⊗ var 3 ⊕ con (pos 3)) ⊗ var 0))
      (var 5 ⊗ (var 3 ⊗ var 1 ⊖ neg (var 2 ⊖ var 3 ⊗ var 0)) ⊕ (con (pos 3) ⊗ var 1 ⊖ neg (var 4 ⊖ con (pos 3) ⊗ var 0))) refl) ∙ g))

  mixed_whole : (n m : ℕ) → (r : ℕ) × (R.add (R.mul (R.int (pos (suc n))) (R.int (pos (suc m)))) (R.int (pos 3)) ≡ R.int (pos (suc r)))
  mixed_whole n m =
      let z : pos 0 <ℤ (pos (suc n) *ℤ pos (suc m)) = mul_pos (pos (suc n)) (pos (suc m)) (omega (arith, ints)) (omega (arith, ints)) in
      let r : (r : ℕ) × (pos (suc n) *ℤ pos (suc m) +ℤ pos 3 ≡ pos (suc r)) = as_suc S L O
      (pos (suc n) *ℤ pos (suc m) +ℤ pos 3) (omega (arith, ints)) in
      (r.0, sym (L.int_add _ _ ∙ ap (λ u. R.add u (R.int (pos 3))) (L.int_mul _ _)) ∙ ap R.int r.1)

  -- a number shorter than another is below it, and so is its negative
  pub below_parts : (r s : R.carrier) → is_shorter S r s ≡ true → IsPositive S (difference R s r) × IsPositive S (difference R s (R.neg r))
  below_parts r s h = let k = and_parts _ _ h in (greater _ k.0, greater _ k.1)

  -- ---- a triangle that turns left
  pub triangle_meets : TriangleMeets S
  triangle_meets box t is_left m = at_multiple (all_reach S L O steps sizes)
    where
      q : TestPoint R.carrier
      q = m.0

      x_sum : R.carrier
      x_sum = R.add (R.add t.a.x t.b.x) t.c.x

      y_sum : R.carrier
      y_sum = R.add (R.add t.a.y t.b.y) t.c.y

      w : R.carrier
      w = R.int (pos box.w)

      h : R.carrier
      h = R.int (pos box.h)

      steps : List (Steps S)
      steps = below_steps box.centre.x w q.x q.d x_sum
          ∷ (above_steps box.centre.x w q.x q.d x_sum
          ∷ (below_steps box.centre.y h q.y q.d y_sum ∷ (above_steps box.centre.y h q.y q.d y_sum ∷ [])))

      inside : (is_shorter S (difference R q.x (R.mul q.d box.centre.x)) (R.mul q.d w) ≡ true)
          × (is_shorter S (difference R q.y (R.mul q.d box.centre.y)) (R.mul q.d h) ≡ true)
      inside = and_parts (is_shorter S (difference R q.x (R.mul q.d box.centre.x)) (R.mul q.d w))
          (is_shorter S (difference R q.y (R.mul q.d box.centre.y)) (R.mul q.d h)) m.2

      sizes : AllByRecursion (λ g. IsPositive S g.size) steps
      sizes =
          let in_x = below_parts (difference R q.x (R.mul q.d box.centre.x)) (R.mul q.d w) inside.0 in
          let in_y = below_parts (difference R q.y (R.mul q.d box.centre.y)) (R.mul q.d h) inside.1 in
          (in_x.0, (in_x.1, (in_y.0, (in_y.1, tt))))

      on : Between S (scaled R q.d t.a) (scaled R q.d t.b) (record { x = q.x; y = q.y })
      on = between-on_segment S L O (scaled R q.d t.a) (scaled R q.d t.b) (record { x = q.x; y = q.y }) m.3

      at_multiple : (n : ℕ) × AllByRecursion (reaches S (R.int (pos (suc n)))) steps → PolygonMeetsBox S box (corners t)
      at_multiple n =
          let k : R.carrier = R.int (pos (suc n.0)) in
          let d : (r : ℕ) × (R.add (R.mul k (R.int (pos (suc m.1.0)))) (R.int (pos 3)) ≡ R.int (pos (suc r))) = mixed_whole n.0 m.1.0 in (
            mixed S L O t.a t.b t.c q k,
            (d.0, ap (λ e. R.add (R.mul k e) (R.int (pos 3))) m.1.1 ∙ d.1),
            and_from _ _ (mixed-below box.centre.x w q.x q.d x_sum k n.1.0 n.1.1.0)
                (mixed-below box.centre.y h q.y q.d y_sum k n.1.1.1.0 n.1.1.1.1.0),
            ap (λ z. int_eq z (pos 1)) (count-edge_sum S t (mixed S L O t.a t.b t.c q k)
                ∙ mixed-inside S L O t.a t.b t.c q k (test_positive S L O q m.1) (whole_positive S L O n.0) (greater _ is_left) on),
          )

  -- ---- the polygon
  -- a triangle of the fan meets the box, and so does the polygon
  by_triangle : (box : OpenBox R.carrier) (polygon : Polygon S) → IsLeftFan S polygon
      → (t : Triangle (PlanePoint R.carrier)) → IsAmong t (fan polygon)
      → PolygonMeetsBox S box (corners t) → PolygonMeetsBox S box polygon
  by_triangle box polygon star t i m = (
    m.0,
    m.1,
    m.2,
    ap (λ z. int_eq z (pos 1)) (must_be_one S L O _ (star.zero_or_one m.0 m.1) (subst (λ z. pos 1 ≤ℤ z) (sym (count-fan S L O m.0 polygon))
        (counts-one S L O m.0 t (fan polygon) i (equal_numbers _ _ m.3)
        (all-good S L O m.0 (test_positive S L O m.0 m.1) (fan polygon) star.turns_left)))),
  )

  turned-meets : (box : OpenBox R.carrier) (a b c : PlanePoint R.carrier)
      → PolygonMeetsBox S box (corners (tri b c a)) → PolygonMeetsBox S box (corners (tri a b c))
  turned-meets box a b c m = (
    m.0,
    m.1,
    m.2,
    ap (λ z. int_eq z (pos 1)) (count-edge_sum S (tri a b c) m.0 ∙ sym (sum_rotated S L O a b c m.0) ∙ sym (count-edge_sum S (tri b c a) m.0)) ∙ m.3,
  )

  edge_meets : (box : OpenBox R.carrier) (polygon : Polygon S) → IsLeftFan S polygon → (e : PlaneEdge S)
      → Over e (fan polygon) → MeetsBox S box e → PolygonMeetsBox S box polygon
  edge_meets box polygon star e o m = by_triangle box polygon star o.triangle o.among
      (at_case o.rotated (AllByRecursion-among _ o.triangle (fan polygon) o.among star.turns_left))
    where
      at_case : (o.triangle ≡ tri e.from e.to o.apex)
          ⊎ ((o.triangle ≡ tri o.apex e.from e.to) ⊎ (o.triangle ≡ tri e.to o.apex e.from))
          → turns_left S o.triangle ≡ true
          → PolygonMeetsBox S box (corners o.triangle)
      at_case (inl f) l =
          subst (λ t. PolygonMeetsBox S box (corners t)) (sym f)
          (triangle_meets box (tri e.from e.to o.apex) (subst (λ t. turns_left S t ≡ true) f l) m)
      at_case (inr (inl f)) l =
          subst (λ t. PolygonMeetsBox S box (corners t)) (sym f) (turned-meets box o.apex e.from e.to
          (triangle_meets box (tri e.from e.to o.apex) (turned-left S L O o.apex e.from e.to (subst (λ t. turns_left S t ≡ true) f l)) m))
      at_case (inr (inr f)) l =
          subst (λ t. PolygonMeetsBox S box (corners t)) (sym f) (turned-meets box e.to o.apex e.from (turned-meets box o.apex e.from e.to
          (triangle_meets box (tri e.from e.to o.apex)
          (turned-left S L O o.apex e.from e.to (turned-left S L O e.to o.apex e.from
          (subst (λ t. turns_left S t ≡ true) f l))) m)))

  pub polygon_meets : PolygonMeets S
  polygon_meets box polygon star e i m = edge_meets box polygon star e (over polygon star.corners i) m
    where
      over : (vs : Polygon S) → 2 < length vs → IsAmong e (edges vs) → Over e (fan vs)
      over [] l i = elim i [ ]
      over (a ∷ []) l i = absurd (omega arith)
      over (a ∷ (b ∷ [])) l i = absurd (omega arith)
      over (a ∷ (b ∷ (c ∷ vs))) l i = over-polygon a b c vs e i
