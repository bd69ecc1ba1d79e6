use Rattle.std.proofs.Common.{◌≡◌, length}
use Rattle.tile_shape.specs.Views.{address_of}
use Rattle.addr_calc.specs.Level.{AgreeFrom}
use Rattle.addr_calc.proofs.level.common_level.Given as goal

-- the two addresses agree from the level on
abbrev pub invariant-loop-level : goal.invariant-loop-level
invariant-loop-level l = record {
  one_depth : length l.one.digits.items ≡ length l.other.digits.items;
  agree : AgreeFrom (address_of l.one) (address_of l.other) l.level;
}

abbrev pub decreases-loop-level : goal.decreases-loop-level
decreases-loop-level l = l.level
