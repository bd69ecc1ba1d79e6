-- Tables that pass the test are coherent.
use Rattle.std.proofs.Common.{◌≡◌, ℕ, suc, zero, ◌<◌, ◌≤◌, inl, inr, Bool, true, ◌&&◌, List, [], ◌∷◌, length, map, reverse, Option, Some, None, IsSome, subst, sym, ap, ◌∙◌, arith, refl, eqb, leb, ltb}
use Rattle.std.specs.Option.{option_and_then, is_some}
use Rattle.std.proofs.lemmas.Option.{slice_get_within, slice_get_past}
use Rattle.std.proofs.lemmas.Bool.{cases_lt, eqb-true, leb-true, ltb-true, and_parts}
use Rattle.theory_addresses.specs.Contact.{Contact, ChildEdge, inner, outer}
use Rattle.theory_addresses.specs.Tables.{Tables, kind_tables, type_of, child_kind_of, contacts_of, parts_of, contact_of, part_of, mate_of, subs_of, child_type_of}
use Rattle.theory_addresses.specs.Coherent.{IsCoherent}
use Rattle.theory_addresses.specs.SameTests.{is_value, same_option, same_options, is_inner, is_outer, is_child_edge}
use Rattle.theory_addresses.specs.Search.{all_below}
use Rattle.theory_addresses.specs.CoherenceTest.{contact_test, part_test, child_test, edge_test, type_test, kind_links_test, kind_lengths_test, lengths_test, coherence_test}
use Rattle.theory_addresses.proofs.TableBounds.{kind_tables-past, contact_bounds, part_bounds, child_bounds, type_bounds}

-- a test that passes below n passes for each number below n
pub all_below-at : (n : ℕ) (p : ℕ → Bool) → all_below n p ≡ true → (k : ℕ) → k < n → p k ≡ true
all_below-at zero p h k in_range = absurd (omega arith)
all_below-at (suc n) p h k in_range =
    let both = and_parts (p n) (all_below n p) h in
    elim (cases_lt k n) [ inl lt ↦ all_below-at n p both.1 k lt | inr ge ↦ let same : k ≡ n = omega arith in rw same both.0 ]

is_value-true : (o : Option ℕ) (b : ℕ) → is_value o b ≡ true → o ≡ Some b
is_value-true None b h = absurd cc
is_value-true (Some a) b h = ap Some (eqb-true a b h)

same_option-true : (o p : Option ℕ) → same_option o p ≡ true → o ≡ p
same_option-true None None h = refl
same_option-true None (Some b) h = absurd cc
same_option-true (Some a) p h = sym (is_value-true p a h)

same_options-true : (os ps : List (Option ℕ)) → same_options os ps ≡ true → os ≡ ps
same_options-true [] [] h = refl
same_options-true [] (p ∷ ps) h = absurd cc
same_options-true (o ∷ os) [] h = absurd cc
same_options-true (o ∷ os) (p ∷ ps) h =
    let both = and_parts (same_option o p) (same_options os ps) h in
    rw (same_option-true o p both.0, same_options-true os ps both.1) refl

is_inner-true : (o : Option Contact) (a e : ℕ) → is_inner o a e ≡ true → o ≡ Some (inner a e)
is_inner-true None a e h = absurd cc
is_inner-true (Some (inner b f)) a e h = let both = and_parts (eqb b a) (eqb f e) h in rw (eqb-true b a both.0, eqb-true f e both.1) refl
is_inner-true (Some (outer b f)) a e h = absurd cc

is_outer-true : (o : Option Contact) (a e : ℕ) → is_outer o a e ≡ true → o ≡ Some (outer a e)
is_outer-true None a e h = absurd cc
is_outer-true (Some (inner b f)) a e h = absurd cc
is_outer-true (Some (outer b f)) a e h = let both = and_parts (eqb b a) (eqb f e) h in rw (eqb-true b a both.0, eqb-true f e both.1) refl

is_child_edge-true : (o : Option ChildEdge) (a e : ℕ) → is_child_edge o a e ≡ true → o ≡ Some (record { child = a; edge = e })
is_child_edge-true None a e h = absurd cc
is_child_edge-true (Some ce) a e h =
    let both = and_parts (eqb ce.child a) (eqb ce.edge e) h in
    let go : (c f : ℕ) → c ≡ a → f ≡ e → ◌≡◌ {A = Option ChildEdge} (Some (record { child = c; edge = f }))
    (Some (record { child = a; edge = e })) = λ c f hc hf. rw (hc, hf) refl in
    go ce.child ce.edge (eqb-true ce.child a both.0) (eqb-true ce.edge e both.1)

module _ (t : Tables) (whole : coherence_test t ≡ true) where
  parts : (lengths_test t && all_below (length t.mates) (λ ty. type_test t ty (mate_of t ty)) ≡ true)
      × (all_below (length t.kinds) (kind_lengths_test t)
      && all_below (length t.kinds) (kind_links_test t) ≡ true)
  parts = and_parts _ _ whole

  lengths : ((ltb 0 (length t.kinds) && leb (length t.kinds) 16) && (ltb 0 (length t.mates) && leb (length t.mates) 32) ≡ true)
      × ((eqb (length t.subs) (length t.mates) && all_below (length t.mates)
      (λ ty. ltb 0 (length (subs_of t ty)) && leb (length (subs_of t ty)) 8)) ≡ true)
  lengths = and_parts _ _ (and_parts _ _ parts.0).0

  kind_lengths : (k : ℕ) → k < length t.kinds → kind_lengths_test t k ≡ true
  kind_lengths k r = all_below-at (length t.kinds) (kind_lengths_test t) (and_parts _ _ parts.1).0 k r

  kind_links : (k : ℕ) → k < length t.kinds → kind_links_test t k ≡ true
  kind_links k r = all_below-at (length t.kinds) (kind_links_test t) (and_parts _ _ parts.1).1 k r

  -- ---- lengths
  kinds_both : (0 < length t.kinds) × (length t.kinds ≤ 16)
  kinds_both = let a = and_parts (ltb 0 (length t.kinds)) (leb (length t.kinds) 16)
      (and_parts _ _ lengths.0).0 in (ltb-true 0 _ a.0, leb-true _ 16 a.1)

  types_both : (0 < length t.mates) × (length t.mates ≤ 32)
  types_both = let a = and_parts (ltb 0 (length t.mates)) (leb (length t.mates) 32)
      (and_parts _ _ lengths.0).1 in (ltb-true 0 _ a.0, leb-true _ 32 a.1)

  subs_same : length t.subs ≡ length t.mates
  subs_same = eqb-true _ _ (and_parts (eqb (length t.subs) (length t.mates)) _ lengths.1).0

  subs_both : (ty : ℕ) → ty < length t.mates → (0 < length (subs_of t ty)) × (length (subs_of t ty) ≤ 8)
  subs_both ty r =
      let here = all_below-at (length t.mates) (λ ty. ltb 0 (length (subs_of t ty))
      && leb (length (subs_of t ty)) 8) (and_parts (eqb (length t.subs) (length t.mates)) _ lengths.1).1
      ty r in
      let a = and_parts (ltb 0 (length (subs_of t ty))) (leb (length (subs_of t ty)) 8) here in
      (ltb-true 0 _ a.0, leb-true _ 8 a.1)

  few_parts : (ty : ℕ) → length (subs_of t ty) ≤ 8
  unfolding subs_of
  few_parts ty = elim (cases_lt ty (length t.mates)) [
    | inl lt ↦ (subs_both ty lt).1
    | inr ge ↦ rw (slice_get_past t.subs ty (omega (arith, subs_same, ge)))
        (omega arith)
  ]

  children_both : (k : ℕ) → k < length t.kinds → (0 < length (kind_tables t k).children) × (length (kind_tables t k).children ≤ 16)
  children_both k r =
      let a = and_parts (ltb 0 (length (kind_tables t k).children))
      (leb (length (kind_tables t k).children) 16) (and_parts _ _ (kind_lengths k r)).0 in
      (ltb-true 0 _ a.0, leb-true _ 16 a.1)

  edges_both : (k : ℕ) → k < length t.kinds → (3 ≤ length (kind_tables t k).types) × (length (kind_tables t k).types ≤ 12)
  edges_both k r =
      let a = and_parts (leb 3 (length (kind_tables t k).types)) (leb (length (kind_tables t k).types) 12)
      (and_parts _ _ (and_parts _ _ (kind_lengths k r)).1).0 in
      (leb-true 3 _ a.0, leb-true _ 12 a.1)

  lists_both : (k : ℕ) → k < length t.kinds → (length (kind_tables t k).contacts ≡ length
      (kind_tables t k).children) × (length (kind_tables t k).parts ≡ length (kind_tables t k).types)
  lists_both k r =
      let a = and_parts (eqb (length (kind_tables t k).contacts) (length (kind_tables t k).children))
      (eqb (length (kind_tables t k).parts) (length (kind_tables t k).types))
      (and_parts _ _ (and_parts _ _ (kind_lengths k r)).1).1 in
      (eqb-true _ _ a.0, eqb-true _ _ a.1)

  contacts_same : (k : ℕ) → length (kind_tables t k).contacts ≡ length (kind_tables t k).children
  contacts_same k = elim (cases_lt k (length t.kinds)) [ inl lt ↦ (lists_both k lt).0 | inr ge ↦ rw (kind_tables-past t k ge) refl ]

  -- ---- links
  type_at : (ty m : ℕ) → mate_of t ty ≡ Some m → (m < length t.mates) × (mate_of t m ≡ Some ty)
      × (map Some (subs_of t m) ≡ reverse (map (mate_of t) (subs_of t ty)))
  unfolding mate_of
  type_at ty m is =
      let here = rw is at (all_below-at (length t.mates) (λ ty. type_test t ty (mate_of t ty))
      (and_parts _ _ parts.0).1 ty (slice_get_within t.mates ty m is)) in
      let a = and_parts (ltb m (length t.mates)) _ here in
      let b = and_parts (is_value (mate_of t m) ty) (same_options (map Some (subs_of t m)) (reverse (map (mate_of t) (subs_of t ty)))) a.1 in
      (ltb-true m (length t.mates) a.0, is_value-true (mate_of t m) ty b.0, same_options-true _ _ b.1)

  child_at : (k c kind : ℕ) → child_kind_of t k c ≡ Some kind → (kind < length t.kinds)
      × (length (contacts_of t k c) ≡ length (kind_tables t kind).types)
  child_at k c kind is =
      let b = child_bounds t k c (rw is refl) in
      let all = (and_parts _ _ (and_parts _ _ (kind_links k b.0)).0).0 in
      let here = all_below-at (length (kind_tables t k).children) (λ c. child_test t k c (child_kind_of t k c)) all c b.1 in
      let a = and_parts (ltb kind (length t.kinds))
      (eqb (length (contacts_of t k c)) (length (kind_tables t kind).types))
      (subst (λ (o : Option ℕ). child_test t k c o ≡ true) is here) in
      (ltb-true kind _ a.0, eqb-true _ _ a.1)

  edge_at : (k f ty : ℕ) → type_of t k f ≡ Some ty → (ty < length t.mates) × (map (child_type_of t k) (parts_of t k f) ≡ map Some (subs_of t ty))
  edge_at k f ty is =
      let b = type_bounds t k f (rw is refl) in
      let all = (and_parts _ _ (and_parts _ _ (kind_links k b.0)).0).1 in
      let here = all_below-at (length (kind_tables t k).types) (λ f. edge_test t k f (type_of t k f)) all f b.1 in
      let a = and_parts (ltb ty (length t.mates))
      (same_options (map (child_type_of t k) (parts_of t k f)) (map Some (subs_of t ty)))
      (subst (λ (o : Option ℕ). edge_test t k f o ≡ true) is here) in
      (ltb-true ty _ a.0, same_options-true _ _ a.1)

  contact_at : (k a e : ℕ) (x : Contact) → contact_of t k a e ≡ Some x → contact_test t k a e (Some x) ≡ true
  contact_at k a e x is =
      let b = contact_bounds t k a e (rw is refl) in
      let all = (and_parts _ _ (and_parts _ _ (kind_links k b.0)).1).0 in
      let row = all_below-at (length (kind_tables t k).contacts)
      (λ a. all_below (length (contacts_of t k a)) (λ e. contact_test t k a e (contact_of t k a e))) all a
      b.1 in
      let here = all_below-at (length (contacts_of t k a)) (λ e. contact_test t k a e (contact_of t k a e)) row e b.2 in
      subst (λ (o : Option Contact). contact_test t k a e o ≡ true) is here

  part_at : (k f p : ℕ) (x : ChildEdge) → part_of t k f p ≡ Some x → part_test t k f p (Some x) ≡ true
  part_at k f p x is =
      let b = part_bounds t k f p (rw is refl) in
      let all = (and_parts _ _ (and_parts _ _ (kind_links k b.0)).1).1 in
      let row = all_below-at (length (kind_tables t k).parts)
      (λ f. all_below (length (parts_of t k f)) (λ p. part_test t k f p (part_of t k f p))) all f b.1 in
      let here = all_below-at (length (parts_of t k f)) (λ p. part_test t k f p (part_of t k f p)) row p b.2 in
      subst (λ (o : Option ChildEdge). part_test t k f p o ≡ true) is here

  inner_at : (k a e b f : ℕ) → contact_of t k a e ≡ Some (inner b f) → (contact_of t k b f ≡ Some (inner a e))
      × (child_type_of t k (record { child = b; edge = f }) ≡ option_and_then (mate_of t) (child_type_of t k (record { child = a; edge = e })))
  inner_at k a e b f is =
      let both = and_parts (is_inner (contact_of t k b f) a e)
      (same_option (child_type_of t k (record { child = b; edge = f }))
      (option_and_then (mate_of t) (child_type_of t k (record { child = a; edge = e }))))
      (contact_at k a e (inner b f) is) in
      (is_inner-true (contact_of t k b f) a e both.0, same_option-true _ _ both.1)

  outer_at : (k c e f p : ℕ) → contact_of t k c e ≡ Some (outer f p)
      → (part_of t k f p ≡ Some (record { child = c; edge = e })) × IsSome (type_of t k f)
  outer_at k c e f p is =
      let both = and_parts (is_child_edge (part_of t k f p) c e) (is_some (type_of t k f)) (contact_at k c e (outer f p) is) in
      (is_child_edge-true (part_of t k f p) c e both.0, both.1)

  pub coherent_from : IsCoherent t
  coherent_from = record {
    some_kind = kinds_both.0;
    at_most_16_kinds = kinds_both.1;
    some_child = λ k r. (children_both k r).0;
    at_most_16_children = λ k r. (children_both k r).1;
    at_least_3_edges = λ k r. (edges_both k r).0;
    at_most_12_edges = λ k r. (edges_both k r).1;
    some_type = types_both.0;
    at_most_32_types = types_both.1;
    some_part = λ ty r. (subs_both ty r).0;
    at_most_8_parts = few_parts;
    sub_each = subs_same;
    contacts_each = contacts_same;
    contact_each = λ k c kind is. (child_at k c kind is).1;
    parts_each = λ k r. (lists_both k r).1;
    child_exists = λ k c kind is. (child_at k c kind is).0;
    type_exists = λ k f ty is. (edge_at k f ty is).0;
    mate_exists = λ ty m is. (type_at ty m is).0;
    mates_back = λ ty m is. (type_at ty m is).1;
    mirrored = λ ty m is. (type_at ty m is).2;
    points_back = λ k a e b f is. (inner_at k a e b f is).0;
    mated = λ k a e b f ty is own. (inner_at k a e b f is).1 ∙ ap (λ (o : Option ℕ). option_and_then (mate_of t) o) own;
    outer_part = λ k c e f p. (
      λ is. (outer_at k c e f p is).0,
      λ is. is_outer-true (contact_of t k c e) f p
          (part_at k f p (record { child = c; edge = e }) is),
    );
    outer_edge = λ k c e f p is. (outer_at k c e f p is).1;
    part_types = λ k f ty is. (edge_at k f ty is).1;
  }

-- tables that pass the test are coherent
pub IsCoherent-test : (t : Tables) → coherence_test t ≡ true → IsCoherent t
IsCoherent-test t passes = coherent_from t passes
