-- Penrose's rhombs, each cut into two halves: the thin one along its short diagonal, the thick one along its
-- long diagonal.
use Rattle.std.specs.Prelude.{ℕ, [], ◌∷◌}
use Rattle.theory_substitution.specs.Rule.{Rule}
use Rattle.cyclo_points.specs.declared.order.Order.TheVariants.{Ten}
use Rattle.cyclo_points.specs.declared.point.Point.{Point}
use Rattle.rule_model.specs.declared.edition.Edition.TheVariants.{One}
use Rattle.rule_model.specs.Tiling.{ListedRule}
use Rattle.builtin_rules.specs.Notation.{at, mated_type, child, prototile, -1, +0, +1}

-- ζ is a tenth of a turn, and the factor is φ = 1 + ζ² - ζ³. The sides u and v have length 1. The diagonals
-- w, of length 1/φ, and x, of length φ, are glued. t- is the mate of t.
abbrev pub halves_of_rhombs : (u u- v v- w w- x x- : ℕ) → Rule Point
halves_of_rhombs u u- v v- w w- x x- = record {
  factor = at +1 +0 +1 -1;
  glue = w ∷ x ∷ [];
  types =
      mated_type u- (v- ∷ w ∷ []) ∷ mated_type u (w- ∷ v ∷ [])
      ∷ mated_type v- (x- ∷ []) ∷ mated_type v (x ∷ [])
      ∷ mated_type w- (v- ∷ []) ∷ mated_type w (v ∷ [])
      ∷ mated_type x- (x- ∷ u- ∷ []) ∷ mated_type x (u ∷ x ∷ []) ∷ [];
  -- the halves of the thin rhomb, and then those of the thick one
  kinds =
      prototile (at +0 +0 +0 +0 ∷ at +1 +0 +0 +0 ∷ at +0 +1 +0 +0 ∷ []) (u ∷ w ∷ v- ∷ [])
      (child 0 7 (at +1 +0 +1 +0) ∷ child 2 2 (at +1 +0 +0 +0) ∷ [])
      ∷ prototile (at +0 +0 +0 +0 ∷ at +1 +0 +0 +0 ∷ at +0 +1 +0 +0 ∷ []) (v ∷ w- ∷ u- ∷ [])
      (child 1 3 (at +1 +0 +1 -1) ∷ child 3 6 (at +0 +1 +0 +0) ∷ [])
      ∷ prototile (at +0 +0 +0 +0 ∷ at +1 +0 +0 +0 ∷ at +0 +0 +0 +1 ∷ []) (u- ∷ x ∷ v- ∷ [])
      (child 2 4 (at +0 +0 +1 +0) ∷ child 3 0 (at +0 +0 +1 -1) ∷ child 1 7 (at +0 +0 +1 +0) ∷ [])
      ∷ prototile (at +0 +0 +0 +0 ∷ at +1 +0 +0 +0 ∷ at +0 +0 +0 +1 ∷ []) (v ∷ x- ∷ u ∷ [])
      (child 3 6 (at +0 +1 +0 +0) ∷ child 2 0 (at -1 +1 +0 +0) ∷ child 0 5 (at +0 +1 +0 +0) ∷ [])
      ∷ [];
}

-- Penrose's rhombs, the types u, u-, v, v-, w, w-, x and x- having the numbers 0 to 7
abbrev pub p3 : ListedRule
p3 = record { edition = One; order = Ten; rule = halves_of_rhombs 0 1 2 3 4 5 6 7 }
