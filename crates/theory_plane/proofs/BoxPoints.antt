-- An edge meets a box exactly where some mean of its ends lies in the four open half planes whose common part the box is.
use Rattle.std.proofs.Common.{◌≡◌, ℕ, zero, suc, List, [], ◌∷◌, pos, ◌+ℤ◌, negsuc, sym, ap, ◌∙◌, refl, true, arith}
use Rattle.std.specs.Ordering.{is_gt}
use Rattle.std.proofs.lemmas.Int.{ints}
use Rattle.std.proofs.lemmas.Bool.{and_parts, and_from}
use Rattle.theory_ring.specs.Ring.{Ops, Laws, difference}
use Rattle.theory_ring.specs.Sign.{Signed, OrderLaws}
use Rattle.theory_ring.specs.Divisor.{DividesWhole}
use Rattle.theory_ring.proofs.Normaliser.{var, con, neg, ring, ring_from, ◌⊕◌, ◌⊖◌, ◌⊗◌}
use Rattle.theory_ring.specs.Sign.{IsPositive, less}
use Rattle.theory_plane.specs.Plane.{PlanePoint, TestPoint, IsTestPoint}
use Rattle.theory_plane.specs.Segment.{Between}
use Rattle.theory_plane.specs.Box.{OpenBox, is_shorter, scaled, on_edge, EdgeMeetsBox}
use Rattle.theory_plane.specs.BoxTest.{depths_below, depths_above}
use Rattle.theory_ring.proofs.Signs.{sign-scale}
use Rattle.theory_plane.proofs.OnSegment.{between-on_segment, on_segment-between}
use Rattle.theory_plane.proofs.BoxHelly.{Weights}
use Rattle.theory_plane.proofs.BoxOverlap.{depth, Inside, greater}

module _ (S : Signed) (L : Laws S.ops) (O : OrderLaws S) where
  abbrev R : Ops
  R = S.ops

  -- a whole number, at least 1, is positive
  pub whole_positive : (n : ℕ) → IsPositive S (R.int (pos (suc n)))
  whole_positive zero = O.one_greater
  whole_positive (suc n) =
      let split : pos (suc (suc n)) ≡ pos 1 +ℤ pos (suc n) = omega (arith, ints) in
      ap S.sign (ap R.int split ∙ L.int_add (pos 1) (pos (suc n))) ∙ O.sign-add (R.int (pos 1)) (R.int (pos (suc n))) O.one_greater (whole_positive n)

  pub test_positive : (p : TestPoint R.carrier) → IsTestPoint S p → IsPositive S p.d
  test_positive p t = ap S.sign t.1 ∙ whole_positive t.0

  -- the points of the edge in the box, by coordinates: the depths of a→b in the two half planes of a coordinate
  abbrev pub Between_sides : R.carrier → R.carrier → R.carrier → R.carrier → Weights S → Type 0
  Between_sides c w a b u = Inside S (depths_below R c w a b) u × Inside S (depths_above R c w a b) u

  -- ---- from a test point of the edge to a mean of its ends, in one coordinate
  module _ (u : Weights S) (c w a b x d : R.carrier) where
    abbrev these : List R.carrier
    these = u.i ∷ (u.j ∷ (c ∷ (w ∷ (a ∷ (b ∷ (x ∷ (d ∷ [])))))))

    below_is : R.mul (R.add u.i u.j) x ≡ R.add (R.mul u.i (R.mul d a)) (R.mul u.j (R.mul d b))
        → R.mul d (depth S (depths_below R c w a b) u) ≡ R.mul (R.add u.i u.j) (difference R (R.mul d w) (difference R x (R.mul d c)))
    below_is e = ring_from R L these
        (var 7 ⊗ (var 0 ⊗ (var 3 ⊖ (var 4 ⊖ var 2)) ⊕ var 1 ⊗ (var 3 ⊖ (var 5 ⊖ var 2))))
        ((var 0 ⊕ var 1) ⊗ (var 7 ⊗ var 3 ⊖ (var 6 ⊖ var 7 ⊗ var 2)))
        ((con (pos 1), (var 0 ⊕ var 1) ⊗ var 6, var 0 ⊗ (var 7 ⊗ var 4) ⊕ var 1 ⊗ (var 7 ⊗ var 5)) ∷ []) (e, tt) refl

    above_is : R.mul (R.add u.i u.j) x ≡ R.add (R.mul u.i (R.mul d a)) (R.mul u.j (R.mul d b))
        → R.mul d (depth S (depths_above R c w a b) u) ≡ R.mul (R.add u.i u.j) (difference R (R.mul d w) (R.neg (difference R x (R.mul d c))))
    above_is e = ring_from R L these
        (var 7 ⊗ (var 0 ⊗ (var 3 ⊕ (var 4 ⊖ var 2)) ⊕ var 1 ⊗ (var 3 ⊕ (var 5 ⊖ var 2))))
        ((var 0 ⊕ var 1) ⊗ (var 7 ⊗ var 3 ⊖ neg (var 6 ⊖ var 7 ⊗ var 2)))
        ((con (negsuc 0), (var 0 ⊕ var 1) ⊗ var 6, var 0 ⊗ (var 7 ⊗ var 4) ⊕ var 1 ⊗ (var 7 ⊗ var 5)) ∷ []) (e, tt) refl

    sign_of_depth : (y z : R.carrier) → IsPositive S d → R.mul d y ≡ R.mul (R.add u.i u.j) z → IsPositive S z → IsPositive S y
    sign_of_depth y z d_pos e h = sym (sign-scale S L O d y d_pos) ∙ ap S.sign e ∙ sign-scale S L O (R.add u.i u.j) z u.some ∙ h

    inside_of_test : IsPositive S d → R.mul (R.add u.i u.j) x ≡ R.add (R.mul u.i (R.mul d a)) (R.mul u.j (R.mul d b))
        → is_shorter S (difference R x (R.mul d c)) (R.mul d w) ≡ true → Between_sides c w a b u
    inside_of_test d_pos e h =
        let k : (less S (difference R x (R.mul d c)) (R.mul d w) ≡ true)
        × (less S (R.neg (difference R x (R.mul d c))) (R.mul d w) ≡ true) = and_parts _ _ h in (
          sign_of_depth _ _ d_pos (below_is e) (greater _ k.0),
          sign_of_depth _ _ d_pos (above_is e) (greater _ k.1),
        )

  -- ---- and back: the mean of the ends with weights i and j, written with denominator s (i + j)
  module _ (u : Weights S) (s : R.carrier) (s_pos : IsPositive S s) where
    abbrev mean : R.carrier → R.carrier → R.carrier
    mean a b = R.mul s (R.add (R.mul u.i a) (R.mul u.j b))

    abbrev denominator : R.carrier
    denominator = R.mul s (R.add u.i u.j)

    test_of_inside : (c w a b : R.carrier) → Between_sides c w a b u
        → is_shorter S (difference R (mean a b) (R.mul denominator c)) (R.mul denominator w) ≡ true
    test_of_inside c w a b h = and_from _ _
        (ap is_gt (ap S.sign (ring R L these
        ((var 6 ⊗ (var 0 ⊕ var 1)) ⊗ var 3 ⊖ (var 6 ⊗ (var 0 ⊗ var 4 ⊕ var 1 ⊗ var 5) ⊖ (var 6 ⊗ (var 0 ⊕ var 1)) ⊗ var 2))
        (var 6 ⊗ (var 0 ⊗ (var 3 ⊖ (var 4 ⊖ var 2)) ⊕ var 1 ⊗ (var 3 ⊖ (var 5 ⊖ var 2)))) refl) ∙ O.sign-mul s _ s_pos h.0))
        (ap is_gt (ap S.sign (ring R L these
        ((var 6 ⊗ (var 0 ⊕ var 1)) ⊗ var 3 ⊖ neg (var 6 ⊗ (var 0 ⊗ var 4 ⊕ var 1 ⊗ var 5) ⊖ (var 6 ⊗ (var 0 ⊕ var 1)) ⊗ var 2))
        (var 6 ⊗ (var 0 ⊗ (var 3 ⊕ (var 4 ⊖ var 2)) ⊕ var 1 ⊗ (var 3 ⊕ (var 5 ⊖ var 2)))) refl) ∙ O.sign-mul s _ s_pos h.1))
      where
        these : List R.carrier
        these = u.i ∷ (u.j ∷ (c ∷ (w ∷ (a ∷ (b ∷ (s ∷ []))))))

    mean_is : (a b : R.carrier) → R.mul (R.add u.i u.j) (mean a b) ≡ R.add (R.mul u.i (R.mul denominator a)) (R.mul u.j (R.mul denominator b))
    mean_is a b = ring R L (u.i ∷ (u.j ∷ (a ∷ (b ∷ (s ∷ [])))))
        ((var 0 ⊕ var 1) ⊗ (var 4 ⊗ (var 0 ⊗ var 2 ⊕ var 1 ⊗ var 3)))
        (var 0 ⊗ ((var 4 ⊗ (var 0 ⊕ var 1)) ⊗ var 2) ⊕ var 1 ⊗ ((var 4 ⊗ (var 0 ⊕ var 1)) ⊗ var 3)) refl

    mean_on_edge : (a b : PlanePoint R.carrier) → on_edge S a b (record { x = mean a.x b.x; y = mean a.y b.y; d = denominator }) ≡ true
    mean_on_edge a b = on_segment-between S L O (scaled R denominator a) (scaled R denominator b)
        (record { x = mean a.x b.x; y = mean a.y b.y }) (record {
          i = u.i;
          j = u.j;
          i_nonneg = u.i_nonneg;
          j_nonneg = u.j_nonneg;
          some = u.some;
          at_x = mean_is a.x b.x;
          at_y = mean_is a.y b.y;
        })

  module _ (a b : PlanePoint R.carrier) (box : OpenBox R.carrier) where
    -- the mean of the ends with these weights is in the box
    abbrev pub MeanInBox : Weights S → Type 0
    MeanInBox u = Between_sides box.centre.x (R.int (pos box.w)) a.x b.x u × Between_sides box.centre.y (R.int (pos box.h)) a.y b.y u

    pub mean_of_test : EdgeMeetsBox S a b box → (u : Weights S) × MeanInBox u
    mean_of_test m = (u, (inside_of_test u _ _ _ _ p.x p.d d_pos on.at_x inside.0, inside_of_test u _ _ _ _ p.y p.d d_pos on.at_y inside.1))
      where
        p : TestPoint R.carrier
        p = m.0

        d_pos : IsPositive S p.d
        d_pos = test_positive p m.1

        inside : (is_shorter S (difference R p.x (R.mul p.d box.centre.x)) (R.mul p.d (R.int (pos box.w))) ≡ true)
            × (is_shorter S (difference R p.y (R.mul p.d box.centre.y)) (R.mul p.d (R.int (pos box.h))) ≡ true)
        inside = and_parts _ _ m.2

        on : Between S (scaled R p.d a) (scaled R p.d b) (record { x = p.x; y = p.y })
        on = between-on_segment S L O (scaled R p.d a) (scaled R p.d b) (record { x = p.x; y = p.y }) m.3

        u : Weights S
        u = record { i = on.i; j = on.j; i_nonneg = on.i_nonneg; j_nonneg = on.j_nonneg; some = on.some }

    pub test_of_mean : DividesWhole S → (u : Weights S) → MeanInBox u → EdgeMeetsBox S a b box
    test_of_mean whole u h = (
      record { x = mean u s s_pos a.x b.x; y = mean u s s_pos a.y b.y; d = denominator u s s_pos },
      whole_d.1,
      and_from _ _ (test_of_inside u s s_pos _ _ a.x b.x h.0) (test_of_inside u s s_pos _ _ a.y b.y h.1),
      mean_on_edge u s s_pos a b,
    )
      where
        whole_d : (s : R.carrier) × ((n : ℕ) × (R.mul s (R.add u.i u.j) ≡ R.int (pos (suc n))))
        whole_d = let w = whole (R.add u.i u.j) u.some in (w.0, (w.1, w.2))

        s : R.carrier
        s = whole_d.0

        s_pos : IsPositive S s
        s_pos = sym (sign-scale S L O (R.add u.i u.j) s u.some) ∙ ap S.sign (L.mul_comm (R.add u.i u.j) s ∙ whole_d.1.1) ∙ whole_positive whole_d.1.0
