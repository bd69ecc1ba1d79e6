-- The count of a polygon as a sum over its edges, and at a test point written with another denominator.
use Rattle.std.proofs.Common.{◌≡◌, List, [], ◌∷◌, flat_map, ℤ, pos, ◌+ℤ◌, ◌-ℤ◌, refl, sym, ap, ap₂, ◌∙◌, subst, true, is_gt, arith}
use Rattle.std.proofs.lemmas.Int.{ints}
use Rattle.std.proofs.lemmas.Bool.{and_parts, and_from}
use Rattle.theory_ring.specs.Ring.{Ops, Laws, difference}
use Rattle.theory_ring.specs.Sign.{Signed, OrderLaws, IsPositive}
use Rattle.theory_plane.specs.Plane.{PlanePoint, TestPoint, side}
use Rattle.theory_plane.specs.Crossing.{crossing, crossing_of, count_from, count}
use Rattle.theory_plane.specs.Box.{is_shorter}
use Rattle.theory_ring.proofs.Normaliser.{var, neg, ring, ◌⊖◌, ◌⊗◌}
use Rattle.theory_ring.proofs.Signs.{sign-scale}
use Rattle.theory_dissection.specs.Sums.{sum_over}
use Rattle.theory_edge_to_edge.specs.Edges.{Edge}
use Rattle.theory_windows.specs.Outlines.{edges_from, edges, PlaneEdge, Polygon}
use Rattle.theory_windows.specs.ClosedChains.{total_count}
use Rattle.theory_dissection.proofs.Sums.{plus_zero, sum-ext, sum-append, sum-flat_map}

-- ---- a polygon's edges
telescope : (x y z : ℤ) → (y -ℤ x) +ℤ (z -ℤ y) ≡ z -ℤ x
telescope x y z = omega (arith, ints)

one_step : (x y : ℤ) → (y -ℤ x) +ℤ pos 0 ≡ y -ℤ x
one_step x y = omega (arith, ints)

no_change : (x : ℤ) → x -ℤ x ≡ pos 0
no_change x = omega (arith, ints)

-- the change of a number of vertices, from the start of an edge to its end
abbrev pub change : {A : Type 0} → (A → ℤ) → Edge A → ℤ
change h e = h e.to -ℤ h e.from

change-from : {A : Type 0} (h : A → ℤ) (first cur : A) (vs : List A) → sum_over (change h) (edges_from first cur vs) ≡ h first -ℤ h cur
change-from h first cur [] = one_step (h cur) (h first)
change-from h first cur (v ∷ vs) = ap (λ u. (h v -ℤ h cur) +ℤ u) (change-from h first v vs) ∙ telescope (h cur) (h v) (h first)

-- round a polygon it is 0
change-round : {A : Type 0} (h : A → ℤ) (vs : List A) → sum_over (change h) (edges vs) ≡ pos 0
change-round h [] = refl
change-round h (v ∷ vs) = change-from h v v vs ∙ no_change (h v)

pub change-all : {A : Type 0} (h : A → ℤ) (polygons : List (List A)) → sum_over (change h) (flat_map edges polygons) ≡ pos 0
change-all h [] = refl
change-all h (vs ∷ rest) = sum-append (change h) (edges vs) (flat_map edges rest) ∙ ap₂ (λ u v. u +ℤ v) (change-round h vs) (change-all h rest)

module _ (S : Signed) where
  abbrev pub edge_crossing : TestPoint S.ops.carrier → PlaneEdge S → ℤ
  edge_crossing p e = crossing S e.from e.to p

  count-from : (p : TestPoint S.ops.carrier) (first cur : PlanePoint S.ops.carrier) (vs : Polygon S)
      → sum_over (edge_crossing p) (edges_from first cur vs) ≡ count_from S p first cur vs
  count-from p first cur [] = plus_zero (crossing S cur first p)
  count-from p first cur (v ∷ vs) = ap (λ u. crossing S cur v p +ℤ u) (count-from p first v vs)

  count-edges : (p : TestPoint S.ops.carrier) (vs : Polygon S) → sum_over (edge_crossing p) (edges vs) ≡ count S vs p
  count-edges p [] = refl
  count-edges p (v ∷ vs) = count-from p v v vs

  pub total-edges : (p : TestPoint S.ops.carrier) (polygons : List (Polygon S))
      → sum_over (edge_crossing p) (flat_map edges polygons) ≡ total_count S polygons p
  total-edges p polygons = sum-flat_map (edge_crossing p) edges polygons ∙ sum-ext _ _ polygons (count-edges p)

module _ (S : Signed) (L : Laws S.ops) (O : OrderLaws S) where
  abbrev R : Ops
  R = S.ops

  -- ---- a test point written with another denominator
  module _ (k D : R.carrier) (p : TestPoint R.carrier) (k_pos : IsPositive S k) (denominator : R.mul k p.d ≡ D) where
    abbrev pub again : TestPoint R.carrier
    again = record { x = R.mul k p.x; y = R.mul k p.y; d = D }

    above-again : (v : PlanePoint R.carrier) → S.sign (difference R (R.mul D v.y) (R.mul k p.y)) ≡ S.sign (difference R (R.mul p.d v.y) p.y)
    above-again v =
        ap (λ d. S.sign (difference R (R.mul d v.y) (R.mul k p.y))) (sym denominator)
        ∙ ap S.sign (ring R L (k ∷ (p.d ∷ (p.y ∷ (v.y ∷ [])))) ((var 0 ⊗ var 1) ⊗ var 3 ⊖ var 0 ⊗ var 2) (var 0 ⊗ (var 1 ⊗ var 3 ⊖ var 2)) refl)
        ∙ sign-scale S L O k _ k_pos

    side-again : (a b : PlanePoint R.carrier) → S.sign (side R a b again) ≡ S.sign (side R a b p)
    side-again a b =
        ap (λ d. S.sign (side R a b (record { x = R.mul k p.x; y = R.mul k p.y; d = d }))) (sym denominator)
        ∙ ap S.sign (ring R L (a.x ∷ (a.y ∷ (b.x ∷ (b.y ∷ (p.x ∷ (p.y ∷ (p.d ∷ (k ∷ []))))))))
        ((var 2 ⊖ var 0) ⊗ (var 7 ⊗ var 5 ⊖ (var 7 ⊗ var 6) ⊗ var 1) ⊖ (var 3 ⊖ var 1) ⊗ (var 7 ⊗ var 4 ⊖ (var 7 ⊗ var 6) ⊗ var 0))
        (var 7 ⊗ ((var 2 ⊖ var 0) ⊗ (var 5 ⊖ var 6 ⊗ var 1) ⊖ (var 3 ⊖ var 1) ⊗ (var 4 ⊖ var 6 ⊗ var 0))) refl)
        ∙ sign-scale S L O k _ k_pos

    pub crossing-again : (a b : PlanePoint R.carrier) → crossing S a b again ≡ crossing S a b p
    crossing-again a b = λ i. crossing_of (is_gt (above-again a i)) (is_gt (above-again b i)) (side-again a b i)

    pub below-again : (x c w : R.carrier) → is_shorter S (difference R x (R.mul p.d c)) (R.mul p.d w) ≡ true
        → is_shorter S (difference R (R.mul k x) (R.mul D c)) (R.mul D w) ≡ true
    below-again x c w h =
        subst (λ d. is_shorter S (difference R (R.mul k x) (R.mul d c)) (R.mul d w) ≡ true) denominator
        (and_from _ _
        (ap is_gt (ap S.sign (ring R L these ((var 0 ⊗ var 1) ⊗ var 4 ⊖
        (var 0 ⊗ var 2 ⊖ (var 0 ⊗ var 1) ⊗ var 3)) (var 0 ⊗ (var 1 ⊗ var 4 ⊖ (var 2 ⊖ var 1 ⊗ var 3)))
        refl) ∙ sign-scale S L O k _ k_pos) ∙ (and_parts _ _ h).0)
        (ap is_gt (ap S.sign (ring R L these ((var 0 ⊗ var 1) ⊗ var 4 ⊖ neg
        (var 0 ⊗ var 2 ⊖ (var 0 ⊗ var 1) ⊗ var 3)) (var 0 ⊗ (var 1 ⊗ var 4 ⊖ neg (var 2 ⊖ var 1 ⊗ var 3)))
        refl) ∙ sign-scale S L O k _ k_pos) ∙ (and_parts _ _ h).1))
      where
        these : List R.carrier
        these = k ∷ (p.d ∷ (x ∷ (c ∷ (w ∷ []))))
