-- The tables of the program as tables of the theory.
use Rattle.std.specs.Prelude.{ℕ, map, Vec}
use Rattle.std.specs.Global.{Global}
use Rattle.theory_addresses.specs.Contact as theory
use Rattle.theory_addresses.specs.Tables.{Tables, KindTables}
use Rattle.edge_tables.specs.declared.contact.Contact.{Contact}
use Rattle.edge_tables.specs.declared.contact.Contact.TheVariants.{Inner, Outer}
use Rattle.edge_tables.specs.declared.child_edge.ChildEdge.{ChildEdge}
use Rattle.edge_tables.specs.declared.kind_rows.KindRows.{KindRows}

-- what an edge of a child is, with its numbers as they are
abbrev pub as_contact : Contact → theory.Contact
as_contact (Inner child edge) = theory.inner child edge
as_contact (Outer edge part) = theory.outer edge part

abbrev pub as_child_edge : ChildEdge → theory.ChildEdge
as_child_edge ce = record { child = ce.child; edge = ce.edge }

-- the lists that the vectors hold
abbrev pub as_kind_tables : KindRows → KindTables
as_kind_tables r = record {
  types = r.types.items;
  children = r.children.items;
  contacts = map (λ v. map as_contact v.items) r.contacts.items;
  parts = map (λ v. map as_child_edge v.items) r.parts.items;
}

abbrev pub as_tables : Vec ℕ Global → Vec (Vec ℕ Global) Global → Vec KindRows Global → Tables
as_tables mates subs rows = record {
  mates = mates.items;
  subs = map (λ v. v.items) subs.items;
  kinds = map as_kind_tables rows.items;
}
