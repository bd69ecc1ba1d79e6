-- How the crossing of an edge that avoids an open box changes from one point of the box to another above it: by the change of a number of its ends.
use Rattle.std.proofs.Common.{◌≡◌, [], ◌∷◌, ℤ, pos, neg_ℤ, ◌+ℤ◌, ◌-ℤ◌, refl, sym, ap, ◌∙◌, Bool, true, false, cond, not, ◌&&◌, ◌||◌, Ordering, is_gt, arith}
use Rattle.std.proofs.lemmas.Int.{ints}
use Rattle.theory_ring.specs.Ring.{Ops, Laws, difference}
use Rattle.theory_ring.specs.Sign.{Signed, OrderLaws}
use Rattle.theory_plane.specs.Plane.{PlanePoint, side}
use Rattle.theory_plane.specs.Crossing.{crossing, crossing_of}
use Rattle.theory_plane.specs.Box.{OpenBox}
use Rattle.theory_ring.proofs.Normaliser.{var, ring, ◌⊕◌, ◌⊖◌, ◌⊗◌}
use Rattle.theory_ring.proofs.Signs.{pos_add_nonneg}
use Rattle.theory_plane.proofs.Crossing.{above, crossing-turned}
use Rattle.theory_plane.proofs.BoxHelly.{Weights}
use Rattle.theory_plane.proofs.BoxOverlap.{greater}
use Rattle.theory_windows.proofs.Avoiding.{Avoids, over, level, at_level, side_sign, falls_low, rises_high, avoids-turned, Strip}
use Rattle.theory_windows.proofs.EdgeHeights.{lower, upper, AtHeight, same_right, at_start, at_end, over-start, over-end, start-height, end-height, lower-height, upper-height}

module _ (S : Signed) (L : Laws S.ops) (O : OrderLaws S) where
  abbrev R : Ops
  R = S.ops

  module _ (box : OpenBox R.carrier) where
    module _ (Z : Strip S L O box) where
      open Z use {x, y1, y2, d, d_pos, in_x, in1, in2, order}

      -- whether a vertex is right of both points
      abbrev pub right_of_line : PlanePoint R.carrier → Bool
      right_of_line v = is_gt (S.sign (difference R (R.mul d v.x) x))

      -- 1 for a vertex that is above the (lower S L O box Z) point, not above the (upper S L O box Z) one, and right of both
      abbrev pub passed : PlanePoint R.carrier → ℤ
      passed v = cond (above S L O v (lower S L O box Z) && not (above S L O v (upper S L O box Z)) && right_of_line v) (pos 1) (pos 0)

      -- a vertex above the (upper S L O box Z) point is above the (lower S L O box Z) one
      above_both : (v : PlanePoint R.carrier) → above S L O v (upper S L O box Z) ≡ true → above S L O v (lower S L O box Z) ≡ true
      above_both v e =
          ap is_gt (ap S.sign (ring R L (d ∷ (v.y ∷ (y1 ∷ (y2 ∷ [])))) (var 0 ⊗ var 1 ⊖ var 2) ((var 0 ⊗ var 1 ⊖ var 3) ⊕ (var 3 ⊖ var 2)) refl)
          ∙ pos_add_nonneg S L O _ _ (greater _ e) order)

      abbrev Changes : PlanePoint R.carrier → PlanePoint R.carrier → Type 0
      Changes a b = crossing S a b (lower S L O box Z) ≡ crossing S a b (upper S L O box Z) +ℤ (passed b -ℤ passed a)

      -- the change by three facts of each end
      abbrev BitsChange : Bool → Bool → Bool → Bool → Ordering → Ordering → Bool → Bool → Type 0
      BitsChange a1 a2 b1 b2 s1 s2 ra rb =
          crossing_of a1 b1 s1 ≡ crossing_of a2 b2 s2 +ℤ (cond (b1 && not b2 && rb) (pos 1) (pos 0) -ℤ cond (a1 && not a2 && ra) (pos 1) (pos 0))

      -- from a's height to b's the edge goes up, or stays between the points
      abbrev goes_up : Bool → Bool → Bool → Bool → Bool
      goes_up a1 a2 b1 b2 = (not a1 || b1) && (not a2 || b2)

      from_start : (r s : Bool) → r ≡ s → pos 0 ≡ pos 0 +ℤ (cond s (pos 1) (pos 0) -ℤ cond r (pos 1) (pos 0))
      from_start true true e = refl
      from_start true false e = absurd (cc e)
      from_start false true e = absurd (cc e)
      from_start false false e = refl

      into_strip : (r s : Bool) → r ≡ s → cond r (pos 1) (pos 0) ≡ pos 0 +ℤ (cond s (pos 1) (pos 0) -ℤ pos 0)
      into_strip true true e = refl
      into_strip true false e = absurd (cc e)
      into_strip false true e = absurd (cc e)
      into_strip false false e = refl

      out_of_strip : (r s : Bool) → r ≡ s → pos 0 ≡ cond s (pos 1) (pos 0) +ℤ (pos 0 -ℤ cond r (pos 1) (pos 0))
      out_of_strip true true e = refl
      out_of_strip true false e = absurd (cc e)
      out_of_strip false true e = absurd (cc e)
      out_of_strip false false e = refl

      through_strip : (r s : Bool) → r ≡ s → cond r (pos 1) (pos 0) ≡ cond s (pos 1) (pos 0) +ℤ (pos 0 -ℤ pos 0)
      through_strip true true e = refl
      through_strip true false e = absurd (cc e)
      through_strip false true e = absurd (cc e)
      through_strip false false e = refl

      module _ (a b : PlanePoint R.carrier) (avoids : Avoids S L O box a b) where
        -- the point of a rising edge at the (lower S L O box Z) height, and at the (upper S L O box Z) one
        at_lower : (low : above S L O a (lower S L O box Z) ≡ false) (high : above S L O b (lower S L O box Z) ≡ true)
            → (u : Weights S) × AtHeight S L O box Z a b u × (S.sign (over S L O x d a.x b.x u) ≡ S.sign (side R a b (lower S L O box Z)))
        at_lower low high =
            let low' = falls_low S L O a (lower S L O box Z) low in
            let high' = rises_high S L O b (lower S L O box Z) high in
            let u : Weights S = level S L O a b y1 d d_pos low' high' in
            (u, lower-height S L O box Z a b u (at_level S L O a b y1 d d_pos low' high'), side_sign S L O a b y1 d d_pos low' high' x)

        at_upper : (low : above S L O a (upper S L O box Z) ≡ false) (high : above S L O b (upper S L O box Z) ≡ true)
            → (u : Weights S) × AtHeight S L O box Z a b u × (S.sign (over S L O x d a.x b.x u) ≡ S.sign (side R a b (upper S L O box Z)))
        at_upper low high =
            let low' = falls_low S L O a (upper S L O box Z) low in
            let high' = rises_high S L O b (upper S L O box Z) high in
            let u : Weights S = level S L O a b y2 d d_pos low' high' in
            (u, upper-height S L O box Z a b u (at_level S L O a b y2 d d_pos low' high'), side_sign S L O a b y2 d d_pos low' high' x)

        start_right : is_gt (S.sign (over S L O x d a.x b.x (at_start S L O box Z))) ≡ right_of_line a
        start_right = ap (λ z. is_gt (S.sign z)) (over-start S L O box Z x a.x b.x)

        end_right : is_gt (S.sign (over S L O x d a.x b.x (at_end S L O box Z))) ≡ right_of_line b
        end_right = ap (λ z. is_gt (S.sign z)) (over-end S L O box Z x a.x b.x)

        strip_strip : above S L O a (lower S L O box Z) ≡ true → above S L O a (upper S L O box Z) ≡ false
            → above S L O b (lower S L O box Z) ≡ true → above S L O b (upper S L O box Z) ≡ false
            → right_of_line a ≡ right_of_line b
        strip_strip e f g h = sym start_right ∙ same_right S L O box Z a b avoids (at_start S L O box Z)
            (at_end S L O box Z) (start-height S L O box Z a b e f) (end-height S L O box Z a b g h)
            ∙ end_right

        below_strip : above S L O a (lower S L O box Z) ≡ false → above S L O b (lower S L O box Z) ≡ true
            → above S L O b (upper S L O box Z) ≡ false
            → is_gt (S.sign (side R a b (lower S L O box Z))) ≡ right_of_line b
        below_strip e g h =
            let u = at_lower e g in
            ap is_gt (sym u.2) ∙ same_right S L O box Z a b avoids u.0 (at_end S L O box Z) u.1 (end-height S L O box Z a b g h) ∙ end_right

        strip_over : above S L O a (lower S L O box Z) ≡ true → above S L O a (upper S L O box Z) ≡ false
            → above S L O b (upper S L O box Z) ≡ true
            → right_of_line a ≡ is_gt (S.sign (side R a b (upper S L O box Z)))
        strip_over e f h =
            let u = at_upper f h in
            sym start_right ∙ same_right S L O box Z a b avoids (at_start S L O box Z) u.0 (start-height S L O box Z a b e f) u.1 ∙ ap is_gt u.2

        below_over : above S L O a (lower S L O box Z) ≡ false → above S L O a (upper S L O box Z) ≡ false
            → above S L O b (lower S L O box Z) ≡ true → above S L O b (upper S L O box Z) ≡ true
            → is_gt (S.sign (side R a b (lower S L O box Z))) ≡ is_gt (S.sign (side R a b (upper S L O box Z)))
        below_over e f g h =
            let u = at_lower e g in
            let v = at_upper f h in
            ap is_gt (sym u.2) ∙ same_right S L O box Z a b avoids u.0 v.0 u.1 v.1 ∙ ap is_gt v.2

        up : (a1 a2 b1 b2 : Bool) → above S L O a (lower S L O box Z) ≡ a1
            → above S L O a (upper S L O box Z) ≡ a2 → above S L O b (lower S L O box Z) ≡ b1
            → above S L O b (upper S L O box Z) ≡ b2 → goes_up a1 a2 b1 b2 ≡ true
            → BitsChange a1 a2 b1 b2 (S.sign (side R a b (lower S L O box Z)))
            (S.sign (side R a b (upper S L O box Z))) (right_of_line a) (right_of_line b)
        up false true b1 b2 e f g h k = absurd (cc (sym e ∙ above_both a f))
        up a1 a2 false true e f g h k = absurd (cc (sym g ∙ above_both b h))
        up false false false false e f g h k = refl
        up false false true false e f g h k = into_strip _ _ (below_strip e g h)
        up false false true true e f g h k = through_strip _ _ (below_over e f g h)
        up true false false false e f g h k = absurd (cc k)
        up true false true false e f g h k = from_start _ _ (strip_strip e f g h)
        up true false true true e f g h k = out_of_strip _ _ (strip_over e f h)
        up true true false false e f g h k = absurd (cc k)
        up true true true false e f g h k = absurd (cc k)
        up true true true true e f g h k = refl

      other_way : (a1 a2 b1 b2 : Bool) → (a2 ≡ true → a1 ≡ true) → (b2 ≡ true → b1 ≡ true) → goes_up a1 a2 b1 b2 ≡ false → goes_up b1 b2 a1 a2 ≡ true
      other_way false true b1 b2 f g e = absurd (cc (f refl))
      other_way a1 a2 false true f g e = absurd (cc (g refl))
      other_way false false false false f g e = refl
      other_way false false true false f g e = absurd (cc e)
      other_way false false true true f g e = absurd (cc e)
      other_way true false false false f g e = refl
      other_way true false true false f g e = refl
      other_way true false true true f g e = absurd (cc e)
      other_way true true false false f g e = refl
      other_way true true true false f g e = refl
      other_way true true true true f g e = refl

      change_turned : (u v p q : ℤ) → u ≡ v +ℤ (p -ℤ q) → neg_ℤ u ≡ neg_ℤ v +ℤ (q -ℤ p)
      change_turned u v p q e = omega (arith, ints)

      -- the crossing at the (lower S L O box Z) point is that at the (upper S L O box Z) one and the change of `passed` along the edge
      pub crossing-passed : (a b : PlanePoint R.carrier) → Avoids S L O box a b → Changes a b
      crossing-passed a b avoids = at_way (goes_up (above S L O a (lower S L O box Z))
          (above S L O a (upper S L O box Z)) (above S L O b (lower S L O box Z))
          (above S L O b (upper S L O box Z))) refl
        where
          at_way : (t : Bool) → goes_up (above S L O a (lower S L O box Z))
              (above S L O a (upper S L O box Z)) (above S L O b (lower S L O box Z))
              (above S L O b (upper S L O box Z)) ≡ t → Changes a b
          at_way true e = up a b avoids (above S L O a (lower S L O box Z))
              (above S L O a (upper S L O box Z)) (above S L O b (lower S L O box Z))
              (above S L O b (upper S L O box Z)) refl refl refl refl e
          at_way false e =
              crossing-turned S L O b a (lower S L O box Z)
              ∙ change_turned (crossing S b a (lower S L O box Z)) (crossing S b a (upper S L O box Z)) (passed a) (passed b)
              (up b a (avoids-turned S L O box a b avoids) (above S L O b (lower S L O box Z))
              (above S L O b (upper S L O box Z)) (above S L O a (lower S L O box Z))
              (above S L O a (upper S L O box Z)) refl refl refl refl
              (other_way (above S L O a (lower S L O box Z)) (above S L O a (upper S L O box Z))
              (above S L O b (lower S L O box Z)) (above S L O b (upper S L O box Z)) (above_both a)
              (above_both b) e))
              ∙ ap (λ z. z +ℤ (passed b -ℤ passed a)) (sym (crossing-turned S L O b a (upper S L O box Z)))
