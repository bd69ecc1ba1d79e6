use Rattle.std.proofs.Common.{◌≡◌, map, take}
use Rattle.builtin_rules.proofs.contacts.kinds_of.Given as goal

abbrev pub invariant-loop-child : goal.invariant-loop-child
invariant-loop-child l = l.kinds.items ≡ map (λ child. child.kind) (take l.child-index l.children)
