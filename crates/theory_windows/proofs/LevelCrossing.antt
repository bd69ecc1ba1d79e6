-- The crossing of an edge that avoids an open box is the same at points of the box of one height.
use Rattle.std.proofs.Common.{◌≡◌, pos, neg_ℤ, refl, sym, ap, ap₂, ◌∙◌, Bool, true, false, cond, is_gt}
use Rattle.theory_ring.specs.Ring.{Ops, Laws}
use Rattle.theory_ring.specs.Sign.{Signed, OrderLaws, IsPositive}
use Rattle.theory_plane.specs.Plane.{PlanePoint, TestPoint, side}
use Rattle.theory_plane.specs.Crossing.{crossing, crossing_of}
use Rattle.theory_plane.specs.Box.{OpenBox}
use Rattle.theory_ring.proofs.Signs.{pos_nonneg, not_pos}
use Rattle.theory_plane.proofs.Crossing.{above, crossing-turned}
use Rattle.theory_plane.proofs.BoxHelly.{Weights}
use Rattle.theory_plane.proofs.BoxOverlap.{greater}
use Rattle.theory_windows.proofs.Avoiding.{together, Avoids, between_inside, zero_nn, neg_zero_nn, level, at_level, side_sign, falls_low, rises_high, avoids-turned, InX, InY}

module _ (S : Signed) (L : Laws S.ops) (O : OrderLaws S) where
  abbrev R : Ops
  R = S.ops

  module _ (box : OpenBox R.carrier) where
    module _ (x1 x2 y d : R.carrier) (d_pos : IsPositive S d) (in1 : InX S L O box x1 d) (in2 : InX S L O box x2 d) (in_y : InY S L O box y d) where
      abbrev first : TestPoint R.carrier
      first = record { x = x1; y = y; d = d }

      abbrev second : TestPoint R.carrier
      second = record { x = x2; y = y; d = d }

      -- the first point strictly left of a rising edge and the second not
      no_pass : (a b : PlanePoint R.carrier) → Avoids S L O box a b → (x1 x2 : R.carrier) → InX S L O box x1 d → InX S L O box x2 d
          → above S L O a first ≡ false → above S L O b first ≡ true
          → is_gt (S.sign (side R a b (record { x = x1; y = y; d = d }))) ≡ true
          → is_gt (S.sign (side R a b (record { x = x2; y = y; d = d }))) ≡ false → ⊥
      no_pass a b avoids x1 x2 in1 in2 low high is_left not_left =
          let low' = falls_low S L O a first low in
          let high' = rises_high S L O b first high in
          let u : Weights S = level S L O a b y d d_pos low' high' in
          avoids u (
            between_inside S L O _ _ a.x b.x x1 x2 d u d_pos in1 in2
                (pos_nonneg S L O _ (side_sign S L O a b y d d_pos low' high' x1 ∙ greater _ is_left))
                (not_pos S L O _ (ap is_gt (side_sign S L O a b y d d_pos low' high' x2) ∙ not_left)),
            between_inside S L O _ _ a.y b.y y y d u d_pos in_y in_y
                (zero_nn S L O _ (at_level S L O a b y d d_pos low' high'))
                (neg_zero_nn S L O _ (at_level S L O a b y d d_pos low' high')),
          )

      same_left : (a b : PlanePoint R.carrier) → Avoids S L O box a b → above S L O a first ≡ false → above S L O b first ≡ true
          → is_gt (S.sign (side R a b first)) ≡ is_gt (S.sign (side R a b second))
      same_left a b avoids low high = together _ _ (no_pass a b avoids x1 x2 in1 in2 low high) (no_pass a b avoids x2 x1 in2 in1 low high)

      rising : (a b : PlanePoint R.carrier) → Avoids S L O box a b → (s t : Bool) → above S L O a first ≡ s → above S L O b first ≡ t → s ≡ false
          → crossing_of s t (S.sign (side R a b first)) ≡ crossing_of s t (S.sign (side R a b second))
      rising a b avoids true t e f g = absurd (cc g)
      rising a b avoids false false e f g = refl
      rising a b avoids false true e f g = ap (λ l. cond l (pos 1) (pos 0)) (same_left a b avoids e f)

      pub crossing-level : (a b : PlanePoint R.carrier) → Avoids S L O box a b → crossing S a b first ≡ crossing S a b second
      crossing-level a b avoids = at_start (above S L O a first) (above S L O b first) refl refl
        where
          at_start : (s t : Bool) → above S L O a first ≡ s → above S L O b first ≡ t → crossing S a b first ≡ crossing S a b second
          at_start false t e f = rising a b avoids (above S L O a first) (above S L O b first) refl refl e
          at_start true true e f =
              ap₂ (λ u v. crossing_of u v (S.sign (side R a b first))) e f ∙ sym (ap₂ (λ u v. crossing_of u v (S.sign (side R a b second))) e f)
          at_start true false e f =
              crossing-turned S L O b a first
              ∙ ap neg_ℤ (rising b a (avoids-turned S L O box a b avoids) (above S L O b first) (above S L O a first) refl refl f)
              ∙ sym (crossing-turned S L O b a second)
