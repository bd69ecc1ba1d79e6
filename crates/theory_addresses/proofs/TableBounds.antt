-- What a look-up in contact tables finds stands within their lists.
use Rattle.std.proofs.Common.{◌≡◌, ℕ, ◌<◌, ◌≤◌, inl, inr, List, [], length, Option, Some, None, IsSome, sym, ap, ◌∙◌, arith, refl, unwrap_or}
use Rattle.std.specs.List.{slice_get}
use Rattle.std.specs.Option.{option_and_then, option_map}
use Rattle.std.proofs.lemmas.Option.{slice_get-map, slice_get_past, slice_get_cases}
use Rattle.std.proofs.lemmas.Bool.{cases_lt}
use Rattle.std.proofs.lemmas.List.{length-map}
use Rattle.theory_addresses.specs.Address.{child_kind}
use Rattle.theory_addresses.specs.Tables.{Tables, KindTables, kind_tables, child_kinds, type_of, child_kind_of, contacts_of, parts_of, contact_of, part_of, part_count, mate_of, subs_of, child_type_of}
use Rattle.theory_addresses.specs.Coherent.{IsCoherent}

-- what is there stands within the list
pub within : {X : Type 0} (xs : List X) (i : ℕ) → IsSome (slice_get xs i) → i < length xs
within xs i h = elim (cases_lt i (length xs)) [ inl lt ↦ lt | inr ge ↦ let h' = rw (slice_get_past xs i ge) at h in absurd cc ]

-- and so does the list that it stands in
pub block_within : {X : Type 0} (xs : List (List X)) (i j : ℕ) → IsSome (slice_get (unwrap_or (slice_get xs i) []) j) → i < length xs
block_within xs i j h = elim (cases_lt i (length xs)) [ inl lt ↦ lt | inr ge ↦ let h' = rw (slice_get_past xs i ge) at h in absurd cc ]

-- beyond the last kind the tables are empty
pub kind_tables-past : (t : Tables) (k : ℕ) → length t.kinds ≤ k → kind_tables t k ≡ record { types = []; children = []; contacts = []; parts = [] }
unfolding kind_tables
kind_tables-past t k h = rw (slice_get_past t.kinds k h) refl

pub contact_bounds : (t : Tables) (k c e : ℕ) → IsSome (contact_of t k c e) → (k < length t.kinds)
    × (c < length (kind_tables t k).contacts) × (e < length (contacts_of t k c))
unfolding contact_of contacts_of
contact_bounds t k c e h = (
  elim (cases_lt k (length t.kinds)) [ inl lt ↦ lt | inr ge ↦ let h' = rw (kind_tables-past t k ge) at h in absurd cc ],
  block_within (kind_tables t k).contacts c e h,
  within (unwrap_or (slice_get (kind_tables t k).contacts c) []) e h,
)

pub part_bounds : (t : Tables) (k e p : ℕ) → IsSome (part_of t k e p) → (k < length t.kinds)
    × (e < length (kind_tables t k).parts) × (p < length (parts_of t k e))
unfolding part_of parts_of
part_bounds t k e p h = (
  elim (cases_lt k (length t.kinds)) [ inl lt ↦ lt | inr ge ↦ let h' = rw (kind_tables-past t k ge) at h in absurd cc ],
  block_within (kind_tables t k).parts e p h,
  within (unwrap_or (slice_get (kind_tables t k).parts e) []) p h,
)

pub child_bounds : (t : Tables) (k c : ℕ) → IsSome (child_kind_of t k c) → (k < length t.kinds) × (c < length (kind_tables t k).children)
unfolding child_kind_of
child_bounds t k c h = (
  elim (cases_lt k (length t.kinds)) [ inl lt ↦ lt | inr ge ↦ let h' = rw (kind_tables-past t k ge) at h in absurd cc ],
  within (kind_tables t k).children c h,
)

pub type_bounds : (t : Tables) (k e : ℕ) → IsSome (type_of t k e) → (k < length t.kinds) × (e < length (kind_tables t k).types)
unfolding type_of
type_bounds t k e h = (
  elim (cases_lt k (length t.kinds)) [ inl lt ↦ lt | inr ge ↦ let h' = rw (kind_tables-past t k ge) at h in absurd cc ],
  within (kind_tables t k).types e h,
)

-- the value that is there
pub some_of : {X : Type 0} (o : Option X) → IsSome o → (x : X) × (o ≡ Some x)
some_of None h = absurd cc
some_of (Some x) h = (x, refl)

-- an index within a list finds its element
pub some_within : {X : Type 0} (xs : List X) (i : ℕ) → i < length xs → (x : X) × (slice_get xs i ≡ Some x)
some_within xs i h = elim ((slice_get_cases xs i).1) [ inl there ↦ (there.0, there.2) | inr past ↦ absurd (omega (arith, past.0, h)) ]

-- the kind of a child, in the lists of child kinds
pub child_kind-tables : (t : Tables) (k c : ℕ) → child_kind (child_kinds t) k c ≡ child_kind_of t k c
unfolding child_kind_of kind_tables
child_kind-tables t k c = rw (slice_get-map (λ (r : KindTables). r.children) t.kinds k) (go (slice_get t.kinds k)) where
  go : (o : Option KindTables) → option_and_then (λ row. slice_get row c)
      (option_map (λ (r : KindTables). r.children) o) ≡ slice_get
      (unwrap_or o (record { types = []; children = []; contacts = []; parts = [] })).children c
  go None = refl
  go (Some r) = refl

-- an edge is cut into one to eight parts
pub part_count-within : (t : Tables) (k e : ℕ) → IsCoherent t → IsSome (type_of t k e) → (0 < part_count t k e) × (part_count t k e ≤ 8)
unfolding part_count
part_count-within t k e coherent h =
    let ty = some_of (type_of t k e) h in
    let some = coherent.some_part ty.0 (coherent.type_exists k e ty.0 ty.1) in
    let few = coherent.at_most_8_parts ty.0 in
    let same : length (parts_of t k e) ≡ length (subs_of t ty.0) =
    sym (length-map (parts_of t k e) (child_type_of t k))
    ∙ ap (λ (l : List (Option ℕ)). length l) (coherent.part_types k e ty.0 ty.1)
    ∙ length-map (subs_of t ty.0) Some in
    (omega (arith, some, same), omega (arith, few, same))

-- the type of an edge has a mate
pub mate_there : (t : Tables) (k e ty : ℕ) → IsCoherent t → type_of t k e ≡ Some ty → IsSome (mate_of t ty)
unfolding mate_of
mate_there t k e ty coherent is = rw (some_within t.mates ty (coherent.type_exists k e ty is)).1 refl

-- a part below the number of parts is there
pub part_there : (t : Tables) (k e p : ℕ) → p < part_count t k e → IsSome (part_of t k e p)
unfolding part_of part_count
part_there t k e p inside = rw (some_within (parts_of t k e) p inside).1 refl
