-- Coherence as a test that computes, so that tables written out are seen to be coherent.
use Rattle.std.specs.Prelude.{ℕ, Bool, true, ◌&&◌, ◌==◌, nat_lt, nat_le, Option, Some, None, length, map, reverse, is_some}
use Rattle.std.specs.Option.{option_and_then}
use Rattle.theory_addresses.specs.Contact.{Contact, ChildEdge, inner, outer}
use Rattle.theory_addresses.specs.Tables.{Tables, kind_tables, type_of, child_kind_of, contacts_of, parts_of, contact_of, part_of, mate_of, subs_of, child_type_of}
use Rattle.theory_addresses.specs.SameTests.{is_value, same_option, same_options, is_inner, is_outer, is_child_edge}
use Rattle.theory_addresses.specs.Search.{all_below}

-- a contact is mutual and between mates, or that part of an edge that exists
abbrev pub contact_test : Tables → ℕ → ℕ → ℕ → Option Contact → Bool
contact_test t k a e None = true
contact_test t k a e (Some (inner b f)) = is_inner (contact_of t k b f) a e
    && same_option (child_type_of t k (record { child = b; edge = f }))
    (option_and_then (mate_of t) (child_type_of t k (record { child = a; edge = e })))
contact_test t k a e (Some (outer f p)) = is_child_edge (part_of t k f p) a e && is_some (type_of t k f)

-- a part of an edge has an outer contact that says so
abbrev pub part_test : Tables → ℕ → ℕ → ℕ → Option ChildEdge → Bool
part_test t k f p None = true
part_test t k f p (Some ce) = is_outer (contact_of t k ce.child ce.edge) f p

-- a child's kind exists, and the child has a contact for each edge of it
abbrev pub child_test : Tables → ℕ → ℕ → Option ℕ → Bool
child_test t k c None = true
child_test t k c (Some kind) = nat_lt kind (length t.kinds)
    && (length (contacts_of t k c) == length (kind_tables t kind).types)

-- an edge's type exists, and its parts have the types of the subdivision
abbrev pub edge_test : Tables → ℕ → ℕ → Option ℕ → Bool
edge_test t k f None = true
edge_test t k f (Some ty) = nat_lt ty (length t.mates)
    && same_options (map (child_type_of t k) (parts_of t k f)) (map Some (subs_of t ty))

-- a type's mate exists, its mate is the type, and its subdivision the type's read backwards
abbrev pub type_test : Tables → ℕ → Option ℕ → Bool
type_test t ty None = true
type_test t ty (Some m) = nat_lt m (length t.mates)
    && (is_value (mate_of t m) ty
    && same_options (map Some (subs_of t m)) (reverse (map (mate_of t) (subs_of t ty))))

-- each contact, each part, each child and each edge of a kind passes
abbrev pub kind_links_test : Tables → ℕ → Bool
kind_links_test t k =
    (all_below (length (kind_tables t k).children) (λ c. child_test t k c (child_kind_of t k c))
    && all_below (length (kind_tables t k).types) (λ f. edge_test t k f (type_of t k f)))
    && (all_below (length (kind_tables t k).contacts)
    (λ a. all_below (length (contacts_of t k a)) (λ e. contact_test t k a e (contact_of t k a e)))
    && all_below (length (kind_tables t k).parts)
    (λ f. all_below (length (parts_of t k f)) (λ p. part_test t k f p (part_of t k f p))))

-- the lists of a kind have lengths within the limits, and those that belong together are equally long
abbrev pub kind_lengths_test : Tables → ℕ → Bool
kind_lengths_test t k =
    (nat_lt 0 (length (kind_tables t k).children) && nat_le (length (kind_tables t k).children) 16)
    && ((nat_le 3 (length (kind_tables t k).types) && nat_le (length (kind_tables t k).types) 12)
    && ((length (kind_tables t k).contacts == length (kind_tables t k).children)
    && (length (kind_tables t k).parts == length (kind_tables t k).types)))

-- so do the lists of the tables
abbrev pub lengths_test : Tables → Bool
lengths_test t =
    ((nat_lt 0 (length t.kinds) && nat_le (length t.kinds) 16)
    && (nat_lt 0 (length t.mates) && nat_le (length t.mates) 32))
    && ((length t.subs == length t.mates)
    && all_below (length t.mates)
    (λ ty. nat_lt 0 (length (subs_of t ty)) && nat_le (length (subs_of t ty)) 8))

-- whether tables are coherent
abbrev pub coherence_test : Tables → Bool
coherence_test t =
    (lengths_test t && all_below (length t.mates) (λ ty. type_test t ty (mate_of t ty)))
    && (all_below (length t.kinds) (kind_lengths_test t) && all_below (length t.kinds) (kind_links_test t))
