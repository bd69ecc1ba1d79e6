use Rattle.std.proofs.Common.{◌≤◌, ◌-◌, length, map, take}
use Rattle.theory_addresses.specs.Search.{IsAmong}
use Rattle.pair_machine.specs.Nodes.{Node, IsNode, row_of}
use Rattle.pair_machine.specs.Numbers.{width_of}
use Rattle.pair_machine.specs.Searching.{IsSeen, first_nodes, row_nodes}
use Rattle.pair_machine.specs.Views.{as_node}
use Rattle.pair_machine.proofs.nodes.nodes_of.Given as goal

abbrev pub invariant-loop-next : goal.invariant-loop-next
invariant-loop-next l = record {
  within : l.next ≤ length l.found.list.items;
  seen : IsSeen (width_of l.tables) (map as_node l.found.list.items) l.found.seen.items;
  nodes : (n : Node) → IsAmong n (map as_node l.found.list.items) → IsNode l.tables n;
  firsts : (n : Node) → IsAmong n (first_nodes l.tables (length l.tables.kinds)) → IsAmong n (map as_node l.found.list.items);
  rows : (m n : Node) → IsAmong m (take l.next (map as_node l.found.list.items))
      → IsAmong n (row_nodes l.tables m (row_of l.tables m)) → IsAmong n (map as_node l.found.list.items);
}

abbrev pub decreases-loop-next : goal.decreases-loop-next
decreases-loop-next l = 36864 - l.next
