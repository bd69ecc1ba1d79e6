-- The blocks of contact tables.
use Rattle.std.specs.Prelude.{List}
use Rattle.std.specs.List.{flat_map}
use Rattle.theory_addresses.specs.Contact.{Contact, ChildEdge}
use Rattle.theory_addresses.specs.Tables.{Tables, KindTables}

-- the contact block of each child of each kind: its contacts, in the order of the edges
abbrev pub contact_blocks : Tables → List (List Contact)
contact_blocks t = flat_map (λ (k : KindTables). k.contacts) t.kinds

-- the part block of each edge of each kind: the child edges that are its parts, in order
abbrev pub part_blocks : Tables → List (List ChildEdge)
part_blocks t = flat_map (λ (k : KindTables). k.parts) t.kinds
