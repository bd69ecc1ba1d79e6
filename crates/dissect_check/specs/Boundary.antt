-- The parts of an inflated edge, as the program finds them.
use Rattle.std.specs.Prelude.{ℕ, List, map, Result, Ok, Err, Vec}
use Rattle.std.specs.Global.{Global}
use Rattle.theory_addresses.specs.Contact as theory
use Rattle.theory_edge_to_edge.specs.Edges.{PlacedEdge}
use Rattle.theory_edge_to_edge.specs.Contacts.{edge_name}
use Rattle.edge_tables.specs.declared.child_edge.ChildEdge.{ChildEdge}
use Rattle.edge_tables.specs.Views.{as_child_edge}

-- the parts by their names, or the number of the first that fails
abbrev pub names_of : {A : Type 0} → Result (List (PlacedEdge A)) ℕ → Result (List theory.ChildEdge) ℕ
names_of (Ok ss) = Ok (map edge_name ss)
names_of (Err j) = Err j

-- the same from a result of the program
abbrev pub as_parts : Result (Vec ChildEdge Global) ℕ → Result (List theory.ChildEdge) ℕ
as_parts (Ok v) = Ok (map as_child_edge v.items)
as_parts (Err j) = Err j
