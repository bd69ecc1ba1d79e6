use Rattle.std.proofs.Common.{◌≡◌, length, map, take}
use Rattle.rule_model.specs.declared.child.Child.{Child}
use Rattle.rule_model.specs.Views.{as_child}
use Rattle.c_values.specs.Rules.{child_as, padded}
use Rattle.c_values.specs.Tiles.{refused_as}
use Rattle.c_values.proofs.plain_kind.put_children.Given as goal

-- the children so far, and blanks behind them
abbrev pub invariant-loop-i : goal.invariant-loop-i
invariant-loop-i l = l.tiles ≡ padded (length l.fn.tiles) (refused_as 0) (map (λ (x : Child). child_as (as_child x)) (take l.i l.children))
