-- A polygon beyond one side of a box has no point in it; a polygon within it has its points in it.
use Rattle.std.proofs.Common.{◌≡◌, inl, inr, [], ◌∷◌, pos, List, Bool, true, false, is_gt, refl, sym, ap, ◌∙◌}
use Rattle.std.proofs.lemmas.Bool.{and_parts, and_from}
use Rattle.theory_ring.specs.Ring.{Ops, Laws, difference}
use Rattle.theory_ring.specs.Sign.{Signed, OrderLaws, IsPositive}
use Rattle.theory_plane.specs.Plane.{TestPoint, IsTestPoint}
use Rattle.theory_plane.specs.Crossing.{count}
use Rattle.theory_plane.specs.Box.{OpenBox, is_shorter, in_box}
use Rattle.theory_ring.proofs.Normaliser.{var, neg, ring, ◌⊕◌, ◌⊖◌, ◌⊗◌}
use Rattle.theory_ring.proofs.Booleans.{equal_numbers}
use Rattle.theory_ring.proofs.Signs.{pos_nonneg, not_pos, neg_not_pos, pos_add_nonneg, nonneg_mul}
use Rattle.theory_plane.proofs.BoxOverlap.{greater}
use Rattle.theory_plane.proofs.BoxPoints.{test_positive}
use Rattle.theory_addresses.proofs.Lists.{AllByRecursion-each}
use Rattle.theory_windows.specs.Outlines.{Polygon}
use Rattle.theory_descents.specs.Insets.{IsBeyondBox, IsWithinBox, BeyondMeetsNot, WithinIn}
use Rattle.theory_descents.proofs.Extents.{all-above, all-right, all-left}

module _ (S : Signed) (L : Laws S.ops) (O : OrderLaws S) where
  abbrev R : Ops
  R = S.ops

  -- ---- one coordinate: a point x/d of the box, and a number v
  module _ (c w x d v : R.carrier) (d_pos : IsPositive S d) where
    abbrev these : List R.carrier
    these = c ∷ (w ∷ (x ∷ (d ∷ (v ∷ []))))

    -- v is not below c + w, and x/d is
    passed_above : is_gt (S.sign (difference R w (difference R v c))) ≡ false → IsPositive S (difference R (R.mul d w) (difference R x (R.mul d c)))
        → IsPositive S (difference R (R.mul d v) x)
    passed_above h k =
        ap S.sign (ring R L these (var 3 ⊗ var 4 ⊖ var 2) ((var 3 ⊗ var 1 ⊖ (var 2 ⊖ var 3 ⊗ var 0)) ⊕ var 3 ⊗ neg (var 1 ⊖ (var 4 ⊖ var 0))) refl)
        ∙ pos_add_nonneg S L O _ _ k (nonneg_mul S L O _ _ (pos_nonneg S L O d d_pos) (not_pos S L O _ h))

    -- v is not above c - w, and x/d is
    passed_below : is_gt (S.sign (R.add w (difference R v c))) ≡ false → IsPositive S (difference R (R.mul d w) (R.neg (difference R x (R.mul d c))))
        → IsPositive S (R.neg (difference R (R.mul d v) x))
    passed_below h k =
        ap S.sign (ring R L these (neg (var 3 ⊗ var 4 ⊖ var 2)) ((var 3 ⊗ var 1 ⊖ neg (var 2 ⊖ var 3 ⊗ var 0)) ⊕ var 3 ⊗ neg
        (var 1 ⊕ (var 4 ⊖ var 0))) refl)
        ∙ pos_add_nonneg S L O _ _ k (nonneg_mul S L O _ _ (pos_nonneg S L O d d_pos) (not_pos S L O _ h))

    -- v is below c + w, and x/d is not
    kept_below : is_gt (S.sign (difference R w (difference R v c))) ≡ true → is_gt (S.sign (difference R (R.mul d w) (difference R x (R.mul d c))))
        ≡ false
        → IsPositive S (R.neg (difference R (R.mul d v) x))
    kept_below h k =
        ap S.sign (ring R L these (neg (var 3 ⊗ var 4 ⊖ var 2)) (var 3 ⊗ (var 1 ⊖ (var 4 ⊖ var 0)) ⊕ neg
        (var 3 ⊗ var 1 ⊖ (var 2 ⊖ var 3 ⊗ var 0))) refl)
        ∙ pos_add_nonneg S L O _ _ (O.sign-mul _ _ d_pos (greater _ h)) (not_pos S L O _ k)

    -- v is above c - w, and x/d is not
    kept_above : is_gt (S.sign (R.add w (difference R v c))) ≡ true → is_gt (S.sign (difference R (R.mul d w) (R.neg (difference R x (R.mul d c)))))
        ≡ false
        → IsPositive S (difference R (R.mul d v) x)
    kept_above h k =
        ap S.sign (ring R L these (var 3 ⊗ var 4 ⊖ var 2) (var 3 ⊗ (var 1 ⊕ (var 4 ⊖ var 0)) ⊕ neg
        (var 3 ⊗ var 1 ⊖ neg (var 2 ⊖ var 3 ⊗ var 0))) refl)
        ∙ pos_add_nonneg S L O _ _ (O.sign-mul _ _ d_pos (greater _ h)) (not_pos S L O _ k)

  -- a point whose height is not positive isn't above
  is_below : (x : R.carrier) → IsPositive S (R.neg x) → is_gt (S.sign x) ≡ false
  is_below x h = neg_not_pos S L O x (pos_nonneg S L O _ h)

  module _ (box : OpenBox R.carrier) (p : TestPoint R.carrier) (test : IsTestPoint S p) where
    abbrev w : R.carrier
    w = R.int (pos box.w)

    abbrev h : R.carrier
    h = R.int (pos box.h)

    abbrev d_pos : IsPositive S p.d
    d_pos = test_positive S L O p test

    abbrev right_of : R.carrier
    right_of = difference R (R.mul p.d w) (difference R p.x (R.mul p.d box.centre.x))

    abbrev left_of : R.carrier
    left_of = difference R (R.mul p.d w) (R.neg (difference R p.x (R.mul p.d box.centre.x)))

    abbrev under : R.carrier
    under = difference R (R.mul p.d h) (difference R p.y (R.mul p.d box.centre.y))

    abbrev upon : R.carrier
    upon = difference R (R.mul p.d h) (R.neg (difference R p.y (R.mul p.d box.centre.y)))

    -- ---- beyond one side
    module _ (x_in : is_shorter S (difference R p.x (R.mul p.d box.centre.x)) (R.mul p.d w) ≡ true)
        (y_in : is_shorter S (difference R p.y (R.mul p.d box.centre.y)) (R.mul p.d h) ≡ true) where
      none : (polygon : Polygon S) → IsBeyondBox S box polygon → count S polygon p ≡ pos 0
      none polygon (inl (inl out)) = all-right S L O p d_pos polygon (AllByRecursion-each _ _ polygon
          (λ v k. passed_above box.centre.x w p.x p.d v.x d_pos k (greater _ (and_parts _ _ x_in).0)) out)
      none polygon (inl (inr out)) = all-left S L O p d_pos polygon (AllByRecursion-each _ _ polygon
          (λ v k. passed_below box.centre.x w p.x p.d v.x d_pos k (greater _ (and_parts _ _ x_in).1)) out)
      none polygon (inr (inl out)) = all-above S L O p d_pos true polygon (AllByRecursion-each _ _ polygon
          (λ v k. ap is_gt (passed_above box.centre.y h p.y p.d v.y d_pos k (greater _ (and_parts _ _ y_in).0))) out)
      none polygon (inr (inr out)) = all-above S L O p d_pos false polygon (AllByRecursion-each _ _ polygon
          (λ v k. is_below _ (passed_below box.centre.y h p.y p.d v.y d_pos k (greater _ (and_parts _ _ y_in).1))) out)

    -- ---- within
    module _ (polygon : Polygon S) (within : IsWithinBox S box polygon) (counts : count S polygon p ≡ pos 1) where
      gone : count S polygon p ≡ pos 0 → ⊥
      gone e = cc (sym e ∙ counts)

      must : (b : Bool) → (b ≡ false → ⊥) → b ≡ true
      must true f = refl
      must false f = absurd (f refl)

      below_right : is_gt (S.sign right_of) ≡ true
      below_right = must _ (λ k. gone (all-left S L O p d_pos polygon (AllByRecursion-each _ _ polygon
          (λ v i. kept_below box.centre.x w p.x p.d v.x d_pos i.right k) within)))

      above_left : is_gt (S.sign left_of) ≡ true
      above_left = must _ (λ k. gone (all-right S L O p d_pos polygon (AllByRecursion-each _ _ polygon
          (λ v i. kept_above box.centre.x w p.x p.d v.x d_pos i.left k) within)))

      below_upper : is_gt (S.sign under) ≡ true
      below_upper = must _ (λ k. gone (all-above S L O p d_pos false polygon (AllByRecursion-each _ _ polygon
          (λ v i. is_below _ (kept_below box.centre.y h p.y p.d v.y d_pos i.upper k)) within)))

      above_lower : is_gt (S.sign upon) ≡ true
      above_lower = must _ (λ k. gone (all-above S L O p d_pos true polygon (AllByRecursion-each _ _ polygon
          (λ v i. ap is_gt (kept_above box.centre.y h p.y p.d v.y d_pos i.lower k)) within)))

      pub is_in : in_box S box p ≡ true
      is_in = and_from _ _ (and_from _ _ below_right above_left) (and_from _ _ below_upper above_lower)

  -- ---- the two laws
  pub beyond_meets_not : BeyondMeetsNot S
  beyond_meets_not box polygon out m =
      let i : (is_shorter S (difference R m.0.x (R.mul m.0.d box.centre.x)) (R.mul m.0.d (R.int (pos box.w))) ≡ true)
      × (is_shorter S (difference R m.0.y (R.mul m.0.d box.centre.y)) (R.mul m.0.d (R.int (pos box.h))) ≡ true) = and_parts _ _ m.2 in
      let e : pos 1 ≡ pos 0 = sym (equal_numbers _ _ m.3) ∙ none box m.0 m.1 i.0 i.1 polygon out in
      absurd (cc e)

  pub within_in : WithinIn S
  within_in box polygon within p test m = is_in box p test polygon within (equal_numbers _ _ m)
