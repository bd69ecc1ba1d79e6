-- Penrose's kites and darts, each cut into two halves along its axis.
use Rattle.std.specs.Prelude.{ℕ, [], ◌∷◌}
use Rattle.theory_substitution.specs.Rule.{Rule}
use Rattle.cyclo_points.specs.declared.order.Order.TheVariants.{Ten}
use Rattle.cyclo_points.specs.declared.point.Point.{Point}
use Rattle.rule_model.specs.declared.edition.Edition.TheVariants.{One}
use Rattle.rule_model.specs.Tiling.{ListedRule}
use Rattle.builtin_rules.specs.Notation.{at, mated_type, child, prototile, -1, +0, +1, +2}

-- ζ is a tenth of a turn, and the factor is φ = 1 + ζ² - ζ³. The long side a has length φ, and the short side
-- b length 1. The axes c of the kite, of length φ, and f of the dart, of length 1, are glued. t- is the mate
-- of t.
abbrev pub halves_of_kites_and_darts : (a a- b b- c c- f f- : ℕ) → Rule Point
halves_of_kites_and_darts a a- b b- c c- f f- = record {
  factor = at +1 +0 +1 -1;
  glue = c ∷ f ∷ [];
  types =
      mated_type a- (f- ∷ a- ∷ []) ∷ mated_type a (a ∷ f ∷ [])
      ∷ mated_type b- (a ∷ []) ∷ mated_type b (a- ∷ [])
      ∷ mated_type c- (a- ∷ b- ∷ []) ∷ mated_type c (b ∷ a ∷ [])
      ∷ mated_type f- (c- ∷ []) ∷ mated_type f (c ∷ []) ∷ [];
  -- the halves of the kite, and then those of the dart
  kinds =
      prototile (at +0 +0 +0 +0 ∷ at +1 +0 +1 -1 ∷ at +1 +0 +1 +0 ∷ []) (a ∷ b ∷ c- ∷ [])
      (child 2 2 (at +1 +0 +0 +0) ∷ child 1 4 (at +2 +0 +1 -1) ∷ child 0 3 (at +2 +0 +1 -1) ∷ [])
      ∷ prototile (at +0 +0 +0 +0 ∷ at +1 +0 +1 -1 ∷ at +1 +0 +1 +0 ∷ []) (c ∷ b- ∷ a- ∷ [])
      (child 3 6 (at +0 +1 +0 +0) ∷ child 0 6 (at +1 +1 +1 +0) ∷ child 1 7 (at +1 +1 +1 +0) ∷ [])
      ∷ prototile (at +0 +0 +0 +0 ∷ at +1 +0 +0 +0 ∷ at +0 +0 +0 +1 ∷ []) (b ∷ a ∷ f- ∷ [])
      (child 2 6 (at +0 +1 +0 +0) ∷ child 1 8 (at -1 +1 +0 +1) ∷ [])
      ∷ prototile (at +0 +0 +0 +0 ∷ at +1 +0 +0 +0 ∷ at +0 +0 +0 +1 ∷ []) (f ∷ a- ∷ b- ∷ [])
      (child 3 4 (at +0 +0 +1 +0) ∷ child 0 4 (at +1 +0 +1 -1) ∷ [])
      ∷ [];
}

-- Penrose's kites and darts, the types a, a-, b, b-, c, c-, f and f- having the numbers 0 to 7
abbrev pub p2 : ListedRule
p2 = record { edition = One; order = Ten; rule = halves_of_kites_and_darts 0 1 2 3 4 5 6 7 }
