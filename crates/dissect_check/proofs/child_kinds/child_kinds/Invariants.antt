use Rattle.std.proofs.Common.{◌≡◌, map, take}
use Rattle.dissect_check.proofs.ChildKinds.{kinds_listed}
use Rattle.dissect_check.proofs.child_kinds.child_kinds.Given as goal

abbrev pub invariant-loop-row : goal.invariant-loop-row
invariant-loop-row l = map (λ list. list.items) l.lists.items ≡ map kinds_listed (take l.row-index l.rule.kinds.items)
