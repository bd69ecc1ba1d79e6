-- The counts and the edge types in the contact tables that the geometry of an accepted rule gives.
use Rattle.std.proofs.Common.{◌≡◌, inl, inr, ℕ, suc, ◌<◌, ◌≤◌, Bool, List, [], ◌∷◌, length, map, reverse, get_or, Some, refl, sym, ap, ◌∙◌, subst, arith, eqb-true}
use Rattle.std.specs.Cmp.Lexicographic.{same_text}
use Rattle.std.proofs.lemmas.Bool.{cases_lt}
use Rattle.std.proofs.lemmas.List.{length-map}
use Rattle.std.proofs.lemmas.Simd.{map-map}
use Rattle.theory_substitution.specs.Points.{Points, PointLaws}
use Rattle.theory_addresses.specs.Search.{IsAmong}
use Rattle.theory_substitution.specs.Rule.{Rule, Child, children_of}
use Rattle.theory_substitution.specs.RuleParts.{mate, parts, edge_count, child_of}
use Rattle.theory_edge_to_edge.specs.Numbered.{IsNumbered}
use Rattle.theory_edge_to_edge.specs.Edition.{Edition}
use Rattle.theory_edge_to_edge.specs.EdgeToEdge.{IsEdgeToEdge}
use Rattle.theory_edge_to_edge.specs.Contacts.{edge_name, named_parts, contacts_of_child, tables_of}
use Rattle.theory_edge_to_edge.specs.Edges.{PlacedEdge, child_edge, edges_of_child, child_edges}
use Rattle.theory_addresses.specs.Tables.{Tables, kind_tables, type_of, child_kind_of, contacts_of, parts_of, mate_of, subs_of, child_type_of}
use Rattle.theory_addresses.proofs.Lists.{map-reverse}
use Rattle.theory_addresses.proofs.Ranges.{get_or-past, length-below}
use Rattle.theory_edge_to_edge.proofs.ChildEdges.{kind-with_child, kind-with_edge, among-child_edges}
use Rattle.theory_edge_to_edge.proofs.CutEdges.{cut_parts, boundary_edge, part-on_boundary, part-types}
use Rattle.theory_edge_to_edge.proofs.TablesOf.{length-kinds, kind_tables-is, type_of-found, length-mates, mate_of-at, mate_of-found, subs_of-is, child_kind_of-found, child_type_of-at, contacts_of-at, contact_at, parts_of-at}

-- maps that agree on each number of a list
map-each : {B : Type 0} (f g : ℕ → B) (xs : List ℕ) → ((i : ℕ) → i < length xs → f (get_or xs i 0) ≡ g (get_or xs i 0)) → map f xs ≡ map g xs
map-each f g [] h = refl
map-each f g (x ∷ xs) h =
    let first : f x ≡ g x = h 0 (omega arith) in
    let rest = map-each f g xs (λ i lt. h (suc i) (omega arith)) in
    rw (first, rest) refl

-- images that agree on each member
map-members : {A B C D : Type 0} (f : B → D) (g : A → B) (h : C → D) (j : A → C) (xs : List A)
    → ((x : A) → IsAmong x xs → f (g x) ≡ h (j x)) → map f (map g xs) ≡ map h (map j xs)
map-members f g h j [] e = refl
map-members f g h j (x ∷ xs) e =
    let first = e x (inl refl) in
    let rest = map-members f g h j xs (λ y i. e y (inr i)) in
    rw (first, rest) refl

module _ (P : Points) (W : PointLaws P) (edition : Edition) (refused : P.ring.carrier → Bool)
    (r : Rule P.ring.carrier) (N : IsNumbered P r) (D : IsEdgeToEdge P edition refused r) where
  abbrev A : Type 0
  A = P.ring.carrier

  abbrev t : Tables
  t = tables_of P r

  -- ---- counts
  pub kind_below : (k : ℕ) → k < length t.kinds → k < length r.kinds
  kind_below k h = subst (λ (n : ℕ). k < n) (length-kinds P r) h

  pub below_kinds : (k : ℕ) → k < length r.kinds → k < length t.kinds
  below_kinds k h = subst (λ (n : ℕ). k < n) (sym (length-kinds P r)) h

  pub type_below : (ty : ℕ) → ty < length t.mates → ty < length r.types
  type_below ty h = subst (λ (n : ℕ). ty < n) (length-mates P r) h

  below_types : (ty : ℕ) → ty < length r.types → ty < length t.mates
  below_types ty h = subst (λ (n : ℕ). ty < n) (sym (length-mates P r)) h

  pub length-children : (k : ℕ) → length (kind_tables t k).children ≡ length (children_of r k)
  length-children k = rw (kind_tables-is P r k) (length-map (children_of r k) (λ (c : Child A). c.kind))

  pub length-types : (k : ℕ) → length (kind_tables t k).types ≡ edge_count r k
  length-types k = rw (kind_tables-is P r k) refl

  pub length-contacts : (k : ℕ) → length (kind_tables t k).contacts ≡ length (children_of r k)
  length-contacts k = rw (kind_tables-is P r k) (length-below (contacts_of_child P r k) (length (children_of r k)))

  pub length-parts : (k : ℕ) → length (kind_tables t k).parts ≡ edge_count r k
  length-parts k = rw (kind_tables-is P r k) (length-below (named_parts P r k) (edge_count r k))

  pub contact-each : (k c kind : ℕ) → child_kind_of t k c ≡ Some kind → length (contacts_of t k c) ≡ length (kind_tables t kind).types
  contact-each k c kind h =
      let found = child_kind_of-found P r k c kind h in
      ap length (contacts_of-at P r k c found.0)
      ∙ length-map (edges_of_child P r k c) (contact_at P r k)
      ∙ length-below (child_edge P r k c) (edge_count r (child_of P r k c).kind)
      ∙ ap (edge_count r) (sym found.1) ∙ sym (length-types kind)

  pub few_parts : (ty : ℕ) → length (parts r ty) ≤ 8
  few_parts ty = elim (cases_lt ty (length r.types)) [
    | inl lt ↦ N.at_most_8_parts ty lt
    | inr ge ↦ let none : length (parts r ty) ≡ 0 = ap (λ u. length u.parts)
        (get_or-past r.types ty (record { mate = 0; parts = [] }) ge) in omega arith
  ]

  -- ---- edge types
  pub type-exists : (k f ty : ℕ) → type_of t k f ≡ Some ty → ty < length t.mates
  type-exists k f ty h =
      let found = type_of-found P r k f ty h in
      below_types ty (subst (λ (u : ℕ). u < length r.types) (sym found.1) (N.type_exists k f (kind-with_edge P r k f found.0) found.0))

  pub mate-exists : (ty m : ℕ) → mate_of t ty ≡ Some m → m < length t.mates
  mate-exists ty m h =
      let found = mate_of-found P r ty m h in
      below_types m (subst (λ (u : ℕ). u < length r.types) (sym found.1) (N.mate_exists ty found.0))

  pub mates-back : (ty m : ℕ) → mate_of t ty ≡ Some m → mate_of t m ≡ Some ty
  mates-back ty m h =
      let found = mate_of-found P r ty m h in
      subst (λ (u : ℕ). mate_of t u ≡ Some ty) (sym found.1)
      (mate_of-at P r (mate r ty) (N.mate_exists ty found.0) ∙ ap Some (eqb-true (mate r (mate r ty)) ty (D.mates_back ty found.0)))

  mates_of-parts : (ty : ℕ) → ty < length r.types → map (mate_of t) (parts r ty) ≡ map Some (map (mate r) (parts r ty))
  mates_of-parts ty h =
      map-each (mate_of t) (λ u. Some (mate r u)) (parts r ty) (λ i lt. mate_of-at P r (get_or (parts r ty) i 0) (N.part_exists ty i h lt))
      ∙ sym (map-map Some (mate r) (parts r ty))

  pub is-mirrored : (ty m : ℕ) → mate_of t ty ≡ Some m → map Some (subs_of t m) ≡ reverse (map (mate_of t) (subs_of t ty))
  is-mirrored ty m h =
      let found = mate_of-found P r ty m h in
      let same : parts r (mate r ty) ≡ map (mate r) (reverse (parts r ty)) = same_text (parts r (mate r ty))
      (map (mate r) (reverse (parts r ty))) (sym (D.mirrored ty found.0)) in
      ap (map Some) (subs_of-is P r m ∙ ap (parts r) found.1 ∙ same ∙ map-reverse (mate r) (parts r ty))
      ∙ map-reverse Some (map (mate r) (parts r ty))
      ∙ ap reverse (sym (mates_of-parts ty found.0) ∙ ap (map (mate_of t)) (sym (subs_of-is P r ty)))

  -- ---- child edges
  pub child-exists : (k c kind : ℕ) → child_kind_of t k c ≡ Some kind → kind < length t.kinds
  child-exists k c kind h =
      let found = child_kind_of-found P r k c kind h in
      below_kinds kind (subst (λ (u : ℕ). u < length r.kinds) (sym found.1) (N.child_exists k c (kind-with_child P r k c found.0) found.0))

  -- the type of a child edge by its name
  pub type-of_name : (k : ℕ) (s : PlacedEdge A) → IsAmong s (child_edges P r k) → child_type_of t k (edge_name s) ≡ Some s.type
  type-of_name k s i =
      let is = among-child_edges P r k s i in
      child_type_of-at P r k s.child s.edge is.has ∙ ap Some (sym (ap (λ (u : PlacedEdge A). u.type) is.is))

  pub types-of_parts : (k f ty : ℕ) → type_of t k f ≡ Some ty → map (child_type_of t k) (parts_of t k f) ≡ map Some (subs_of t ty)
  types-of_parts k f ty h =
      let found = type_of-found P r k f ty h in
      let cut = λ (e : ℕ) (lt : e < edge_count r k). D.boundary_cut k e (kind-with_edge P r k e lt) lt in
      ap (map (child_type_of t k)) (parts_of-at P r k f found.0)
      ∙ map-members (child_type_of t k) edge_name Some (λ (s : PlacedEdge A). s.type) (cut_parts P r k f)
      (λ s i. type-of_name k s (boundary_edge P W r k f s (part-on_boundary P W r k cut f found.0 s i)).0)
      ∙ ap (map Some) (part-types P W r k cut f found.0 ∙ ap (parts r) (sym found.1) ∙ sym (subs_of-is P r ty))
