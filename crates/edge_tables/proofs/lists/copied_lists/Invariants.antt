use Rattle.std.proofs.Common.{◌≡◌, map, take}
use Rattle.edge_tables.proofs.lists.copied_lists.Given as goal

abbrev pub invariant-loop-list : goal.invariant-loop-list
invariant-loop-list g l = map (λ list. list.items) l.copy.items ≡ map (λ list. list.items) (take l.list-index l.lists.items)
