-- The chair: an L of three unit squares, each leg two long, cut into four of itself.
use Rattle.std.specs.Prelude.{[], ◌∷◌}
use Rattle.cyclo_points.specs.declared.order.Order.TheVariants.{Four}
use Rattle.rule_model.specs.declared.edition.Edition.TheVariants.{One}
use Rattle.rule_model.specs.Tiling.{ListedRule}
use Rattle.builtin_rules.specs.Notation.{at, mated_type, child, prototile, +0, +1, +2, +4}

-- ζ is a quarter turn, and the factor is 2. The one edge type, number 0, has length 1, is its own mate and is
-- cut into two of itself. Nothing is glued.
abbrev pub chair : ListedRule
chair = record {
  edition = One;
  order = Four;
  rule = record {
    factor = at +2 +0 +0 +0;
    glue = [];
    types = mated_type 0 (0 ∷ 0 ∷ []) ∷ [];
    -- the L, from its inner corner on, and an L in its corner, one in the middle, and one at the end of each
    -- leg
    kinds =
        prototile
        (at +1 +1 +0 +0 ∷ at +1 +2 +0 +0 ∷ at +0 +2 +0 +0 ∷ at +0 +1 +0 +0 ∷ at +0 +0 +0 +0 ∷ at +1 +0 +0 +0 ∷
        at +2 +0 +0 +0 ∷ at +2 +1 +0 +0 ∷ [])
        (0 ∷ 0 ∷ 0 ∷ 0 ∷ 0 ∷ 0 ∷ 0 ∷ 0 ∷ [])
        (child 0 0 (at +0 +0 +0 +0)
        ∷ child 0 0 (at +1 +1 +0 +0)
        ∷ child 0 1 (at +4 +0 +0 +0)
        ∷ child 0 3 (at +0 +4 +0 +0) ∷ [])
        ∷ [];
  };
}
