-- The rhombs and squares of Ammann and Beenker, the square cut into two halves along a diagonal.
use Rattle.std.specs.Prelude.{ℕ, [], ◌∷◌}
use Rattle.theory_substitution.specs.Rule.{Rule}
use Rattle.cyclo_points.specs.declared.order.Order.TheVariants.{Eight}
use Rattle.cyclo_points.specs.declared.point.Point.{Point}
use Rattle.rule_model.specs.declared.edition.Edition.TheVariants.{One}
use Rattle.rule_model.specs.Tiling.{ListedRule}
use Rattle.builtin_rules.specs.Notation.{at, mated_type, child, prototile, -1, +0, +1, +2}

-- ζ is an eighth of a turn, and the factor is 1 + √2 = 1 + ζ - ζ³. The side s has length 1. The square's
-- diagonal h, of length √2, is glued. t- is the mate of t.
abbrev pub rhombs_and_halves_of_squares : (s s- h h- : ℕ) → Rule Point
rhombs_and_halves_of_squares s s- h h- = record {
  factor = at +1 +1 +0 -1;
  glue = h ∷ [];
  types =
      mated_type s- (s ∷ h ∷ []) ∷ mated_type s (h- ∷ s- ∷ [])
      ∷ mated_type h- (s ∷ h- ∷ s- ∷ []) ∷ mated_type h (s ∷ h ∷ s- ∷ []) ∷ [];
  -- the rhomb, and then the halves of the square
  kinds =
      prototile (at +0 +0 +0 +0 ∷ at +1 +0 +0 +0 ∷ at +1 +1 +0 +0 ∷ at +0 +1 +0 +0 ∷ [])
      (s ∷ s- ∷ s ∷ s- ∷ [])
      (child 0 0 (at +0 +0 +0 +0) ∷ child 1 0 (at +1 +0 +0 +0) ∷ child 2 5 (at +2 +1 +1 -1) ∷ child 0 4
      (at +2 +2 +1 -1) ∷ child 1 4 (at +1 +2 +1 -1)
      ∷ child 2 1 (at +0 +1 +0 +0) ∷ child 0 2 (at +1 +1 +0 -1) ∷ [])
      ∷ prototile (at +0 +0 +0 +0 ∷ at +0 +1 +0 -1 ∷ at +0 +1 +0 +0 ∷ []) (h ∷ s ∷ s ∷ [])
      (child 1 3 (at +2 +1 +0 +0) ∷ child 1 5 (at +1 +0 +1 +0) ∷ child 2 4 (at +1 +1 +0 -1) ∷ child 0 3
      (at +2 +1 +0 -1) ∷ child 0 1 (at +1 +0 +0 +0) ∷ [])
      ∷ prototile (at +0 +0 +0 +0 ∷ at +0 +0 +0 -1 ∷ at +0 +1 +0 -1 ∷ []) (s- ∷ s- ∷ h- ∷ [])
      (child 2 5 (at +2 +0 +0 -1) ∷ child 2 3 (at +1 +0 -1 +0) ∷ child 1 4 (at +1 +1 +0 -1) ∷ child 0 4
      (at +2 +1 +0 -1) ∷ child 0 6 (at +1 +0 +0 +0) ∷ [])
      ∷ [];
}

-- the rhombs and squares, the types s, s-, h and h- having the numbers 0 to 3
abbrev pub ammann_beenker : ListedRule
ammann_beenker = record { edition = One; order = Eight; rule = rhombs_and_halves_of_squares 0 1 2 3 }
