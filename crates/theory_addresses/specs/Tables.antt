-- Contact tables: all that is known of a rule without geometry, as lists of numbers, and the look-ups in
-- them. A look-up gives None if a number that it is asked for does not exist.
use Rattle.std.specs.Prelude.{ℕ, List, [], Option, map, length, slice_get, unwrap_or}
use Rattle.std.specs.Option.{option_and_then}
use Rattle.theory_addresses.specs.Contact.{Contact, ChildEdge}

-- of one kind: the type of each edge, the kind of each child, the contact of each edge of each child, and the
-- child edges that are the parts of each edge, in order
pub record KindTables : Type 0 where
  pub types : List ℕ
  pub children : List ℕ
  pub contacts : List (List Contact)
  pub parts : List (List ChildEdge)

-- the mate of each edge type, the types into which each is cut, and the tables of each kind
pub record Tables : Type 0 where
  pub mates : List ℕ
  pub subs : List (List ℕ)
  pub kinds : List KindTables

-- the tables of a kind; beyond the last they are empty
unfoldable pub kind_tables : Tables → ℕ → KindTables
kind_tables t k = unwrap_or (slice_get t.kinds k)
    (record { types = []; children = []; contacts = []; parts = [] })

-- the kinds of each kind's children
abbrev pub child_kinds : Tables → List (List ℕ)
child_kinds t = map (λ k. k.children) t.kinds

-- the type of an edge of a kind
unfoldable pub type_of : Tables → ℕ → ℕ → Option ℕ
type_of t k e = slice_get (kind_tables t k).types e

-- the kind of a child
unfoldable pub child_kind_of : Tables → ℕ → ℕ → Option ℕ
child_kind_of t k c = slice_get (kind_tables t k).children c

-- what the edges of a child are, in the order of the edges
unfoldable pub contacts_of : Tables → ℕ → ℕ → List Contact
contacts_of t k c = unwrap_or (slice_get (kind_tables t k).contacts c) []

-- the child edges that are the parts of an edge, in order
unfoldable pub parts_of : Tables → ℕ → ℕ → List ChildEdge
parts_of t k e = unwrap_or (slice_get (kind_tables t k).parts e) []

-- what an edge of a child is
unfoldable pub contact_of : Tables → ℕ → ℕ → ℕ → Option Contact
contact_of t k c e = slice_get (contacts_of t k c) e

-- the child edge that is a part of an edge
unfoldable pub part_of : Tables → ℕ → ℕ → ℕ → Option ChildEdge
part_of t k e p = slice_get (parts_of t k e) p

-- into how many parts an edge is cut
unfoldable pub part_count : Tables → ℕ → ℕ → ℕ
part_count t k e = length (parts_of t k e)

-- the mate of a type, and the types into which a type is cut
unfoldable pub mate_of : Tables → ℕ → Option ℕ
mate_of t ty = slice_get t.mates ty

unfoldable pub subs_of : Tables → ℕ → List ℕ
subs_of t ty = unwrap_or (slice_get t.subs ty) []

-- the type of an edge of a child
unfoldable pub child_type_of : Tables → ℕ → ChildEdge → Option ℕ
child_type_of t k ce = option_and_then (λ kind. type_of t kind ce.edge) (child_kind_of t k ce.child)
