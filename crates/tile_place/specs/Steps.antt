-- The digits of an address, in a tiling.
use Rattle.std.specs.Prelude.{◌<◌, length}
use Rattle.theory_substitution.specs.Rule.{children_of}
use Rattle.tile_shape.specs.declared.step.Step.{Step}
use Rattle.rule_model.specs.Tiling.{Tiling}

-- a digit names a child of a kind of the tiling
pub record HasStep (t : Tiling) (digit : Step) : Type 0 where
  pub parent_exists : digit.parent < length t.rule.kinds
  pub child_exists : digit.child < length (children_of t.rule digit.parent)
