-- The half-hex: half of a regular hexagon, cut into four of itself.
use Rattle.std.specs.Prelude.{[], ◌∷◌}
use Rattle.cyclo_points.specs.declared.order.Order.TheVariants.{Six}
use Rattle.rule_model.specs.declared.edition.Edition.TheVariants.{Two}
use Rattle.rule_model.specs.Tiling.{ListedRule}
use Rattle.builtin_rules.specs.Notation.{at, mated_type, child, prototile, +0, +1, +2, +4}

-- ζ is a sixth of a turn, and the factor is 2. The one edge type, number 0, has length 1, is its own mate and
-- is cut into two of itself. Nothing is glued.
abbrev pub half_hex : ListedRule
half_hex = record {
  edition = Two;
  order = Six;
  rule = record {
    factor = at +2 +0 +0 +0;
    glue = [];
    types = mated_type 0 (0 ∷ 0 ∷ []) ∷ [];
    -- a trapezoid, from the middle of its long side on, which is two edges; and a trapezoid on the middle of
    -- that side, and one along each other side
    kinds =
        prototile
        (at +1 +0 +0 +0 ∷ at +2 +0 +0 +0 ∷ at +1 +1 +0 +0 ∷ at +0 +1 +0 +0 ∷ at +0 +0 +0 +0 ∷ [])
        (0 ∷ 0 ∷ 0 ∷ 0 ∷ 0 ∷ [])
        (child 0 0 (at +1 +0 +0 +0)
        ∷ child 0 2 (at +4 +0 +0 +0)
        ∷ child 0 3 (at +2 +2 +0 +0)
        ∷ child 0 4 (at +0 +2 +0 +0) ∷ [])
        ∷ [];
  };
}
