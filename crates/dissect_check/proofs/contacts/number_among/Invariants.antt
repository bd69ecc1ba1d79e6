use Rattle.std.proofs.Common.{◌≡◌, map, drop}
use Rattle.theory_edge_to_edge.specs.Contacts.{index_in}
use Rattle.edge_tables.specs.Views.{as_child_edge}
use Rattle.dissect_check.proofs.contacts.number_among.Given as goal

abbrev pub invariant-loop-number : goal.invariant-loop-number
invariant-loop-number l = index_in (as_child_edge l.name) l.number
    (map as_child_edge (drop l.number l.parts)) ≡ index_in (as_child_edge l.name) 0
    (map as_child_edge l.parts)
