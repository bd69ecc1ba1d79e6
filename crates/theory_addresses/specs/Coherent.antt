-- When contact tables fit together.
use Rattle.std.specs.Prelude.{◌≡◌, ◌↔◌, ◌<◌, ◌≤◌, ℕ, Some, length, map, reverse, IsSome}
use Rattle.theory_addresses.specs.Contact.{inner, outer}
use Rattle.theory_addresses.specs.Tables.{Tables, kind_tables, type_of, child_kind_of, contacts_of, parts_of, contact_of, part_of, mate_of, subs_of, child_type_of}

-- The tables are within the limits, and each number in them exists. The mate of a mate is the type itself,
-- and a mate's subdivision is the type's read backwards. Inner contacts are mutual and between mates. Outer
-- contacts are the parts of the edges, which have the types of the subdivision.
pub record IsCoherent (t : Tables) : Type 0 where
  pub some_kind : 0 < length t.kinds
  pub at_most_16_kinds : length t.kinds ≤ 16
  pub some_child : (k : ℕ) → k < length t.kinds → 0 < length (kind_tables t k).children
  pub at_most_16_children : (k : ℕ) → k < length t.kinds → length (kind_tables t k).children ≤ 16
  pub at_least_3_edges : (k : ℕ) → k < length t.kinds → 3 ≤ length (kind_tables t k).types
  pub at_most_12_edges : (k : ℕ) → k < length t.kinds → length (kind_tables t k).types ≤ 12
  pub some_type : 0 < length t.mates
  pub at_most_32_types : length t.mates ≤ 32
  pub some_part : (ty : ℕ) → ty < length t.mates → 0 < length (subs_of t ty)
  pub at_most_8_parts : (ty : ℕ) → length (subs_of t ty) ≤ 8
  -- there is a subdivision for each type, contacts for each child, one for each edge of its kind, and parts
  -- for each edge
  pub sub_each : length t.subs ≡ length t.mates
  pub contacts_each : (k : ℕ) → length (kind_tables t k).contacts ≡ length (kind_tables t k).children
  pub contact_each : (k c kind : ℕ) → child_kind_of t k c ≡ Some kind
      → length (contacts_of t k c) ≡ length (kind_tables t kind).types
  pub parts_each : (k : ℕ) → k < length t.kinds
      → length (kind_tables t k).parts ≡ length (kind_tables t k).types
  -- the kind of each child exists, and so does each type and each mate
  pub child_exists : (k c kind : ℕ) → child_kind_of t k c ≡ Some kind → kind < length t.kinds
  pub type_exists : (k f ty : ℕ) → type_of t k f ≡ Some ty → ty < length t.mates
  pub mate_exists : (ty m : ℕ) → mate_of t ty ≡ Some m → m < length t.mates
  -- the mate's mate is the type, and the mate's subdivision is the type's reversed, each replaced by its mate
  pub mates_back : (ty m : ℕ) → mate_of t ty ≡ Some m → mate_of t m ≡ Some ty
  pub mirrored : (ty m : ℕ) → mate_of t ty ≡ Some m
      → map Some (subs_of t m) ≡ reverse (map (mate_of t) (subs_of t ty))
  -- an inner contact points back, and the two edges' types are mates
  pub points_back : (k a e b f : ℕ) → contact_of t k a e ≡ Some (inner b f)
      → contact_of t k b f ≡ Some (inner a e)
  pub mated : (k a e b f ty : ℕ) → contact_of t k a e ≡ Some (inner b f)
      → child_type_of t k (record { child = a; edge = e }) ≡ Some ty
      → child_type_of t k (record { child = b; edge = f }) ≡ mate_of t ty
  -- the contact of a child edge is outer {E, p} if and only if part p of E, which exists, is that child edge
  pub outer_part : (k c e f p : ℕ)
      → (contact_of t k c e ≡ Some (outer f p)) ↔ (part_of t k f p ≡ Some (record { child = c; edge = e }))
  pub outer_edge : (k c e f p : ℕ) → contact_of t k c e ≡ Some (outer f p) → IsSome (type_of t k f)
  -- the parts of an edge have the types of its type's subdivision, in order
  pub part_types : (k f ty : ℕ) → type_of t k f ≡ Some ty
      → map (child_type_of t k) (parts_of t k f) ≡ map Some (subs_of t ty)
