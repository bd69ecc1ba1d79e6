-- The parts of an inflated edge, one after another: what is found so far, in front of what follows.
use Rattle.std.proofs.Common.{◌≡◌, ℕ, suc, ◌+◌, ◌<◌, ◌≤◌, Bool, true, false, ◌&&◌, List, [], ◌∷◌, ◌++◌, map, length, drop, get_or, Result, Ok, Err, nat_eq, refl, sym, ap, subst, ◌∙◌, arith, add-one}
use Rattle.std.specs.List.{All, filter}
use Rattle.std.proofs.lemmas.List.{append_assoc, append-nil, drop_more, at_drop_all}
use Rattle.theory_substitution.specs.Points.{Points}
use Rattle.theory_edge_to_edge.specs.Edges.{Edge, PlacedEdge}
use Rattle.theory_edge_to_edge.specs.Boundary.{in_front, parts_from, parts_along}
use Rattle.theory_addresses.specs.Contact.{ChildEdge}
use Rattle.theory_edge_to_edge.specs.Contacts.{edge_name}
use Rattle.dissect_check.specs.declared.few.Few.{Few}
use Rattle.dissect_check.specs.declared.few.Few.TheVariants.{None, One, Many}
use Rattle.dissect_check.specs.Few.{few_of}
use Rattle.dissect_check.specs.Boundary.{names_of}
use Rattle.dissect_check.proofs.LieAmong.{filter_of_map}

-- these names in front of those that follow, where none of these fails
abbrev pub in_front_all : {X : Type 0} → List X → Result (List X) ℕ → Result (List X) ℕ
in_front_all xs (Ok ys) = Ok (xs ++ ys)
in_front_all xs (Err j) = Err j

pub in_front_all-names : {A : Type 0} (xs : List ChildEdge) (s : PlacedEdge A) (r : Result (List (PlacedEdge A)) ℕ)
    → in_front_all xs (names_of (in_front s r)) ≡ in_front_all (xs ++ edge_name s ∷ []) (names_of r)
in_front_all-names xs s (Ok ss) = ap Ok (sym (append_assoc xs (edge_name s ∷ []) (map edge_name ss)))
in_front_all-names xs s (Err j) = refl

-- one edge, or not just one, under a view
module _ {A B : Type 0} (view : B → A) where
  few_view : Few B → Few A
  few_view None = None
  few_view (One x) = One (view x)
  few_view Many = Many

  few_of-view : (ys : List B) → few_of (map view ys) ≡ few_view (few_of ys)
  unfolding few_view
  few_of-view [] = refl
  few_of-view (x ∷ []) = refl
  few_of-view (x ∷ (y ∷ ys)) = refl

  few_of-filter : (test : A → Bool) (ys : List B) → few_of (filter test (map view ys)) ≡ few_view (few_of (filter (λ y. test (view y)) ys))
  few_of-filter test ys = ap few_of (filter_of_map view test ys) ∙ few_of-view (filter (λ y. test (view y)) ys)

  pub one_of : (test : A → Bool) (ys : List B) (y : B) → One y ≡ few_of (filter (λ y. test (view y)) ys)
      → few_of (filter test (map view ys)) ≡ One (view y)
  unfolding few_view
  one_of test ys y h = few_of-filter test ys ∙ ap few_view (sym h)

  not_one : (f : Few B) → ((y : B) → f ≡ One y → ⊥) → (x : A) → few_view f ≡ One x → ⊥
  unfolding few_view
  not_one None h x e = cc
  not_one (One y) h x e = h y refl
  not_one Many h x e = cc

  pub not_one_of : (test : A → Bool) (ys : List B) (f : Few B) → f ≡ few_of (filter (λ y. test (view y)) ys)
      → ((y : B) → f ≡ One y → ⊥) → (x : A) → few_of (filter test (map view ys)) ≡ One x → ⊥
  not_one_of test ys f e h x g = not_one f h x (ap few_view e ∙ sym (few_of-filter test ys) ∙ g)

pub few_of-all : {A : Type 0} (Q : A → Type 0) (xs : List A) (x : A) → One x ≡ few_of xs → All Q xs → Q x
few_of-all Q [] x h all = absurd (cc)
few_of-all Q (y ∷ []) x h all = let e : x ≡ y = cc in subst Q (sym e) (all 0 y (omega arith))
few_of-all Q (y ∷ (z ∷ zs)) x h all = absurd (cc)

-- the edge begins at the point
abbrev pub begins : (P : Points) → P.ring.carrier → PlacedEdge P.ring.carrier → Bool
begins P p s = P.same s.line.from p

module _ (P : Points) (on : List (PlacedEdge P.ring.carrier)) (end : P.ring.carrier) (count : ℕ) where
  -- the first part and those after it, by the edges that begin at the point
  abbrev by_begun : ℕ → List ℕ → ℕ → List (PlacedEdge P.ring.carrier) → Result (List (PlacedEdge P.ring.carrier)) ℕ
  by_begun ty types j begun =
      elim begun [
        | [] ↦ Err j
        | s ∷ ss ↦ elim ss [
          | [] ↦ elim (nat_eq s.type ty)
              [ true ↦ in_front s (parts_from P on end count types (suc j) s.line.to) | false ↦ Err j ]
          | t
              ∷ ts ↦ Err j
        ]
      ]

  next_of : (ty : ℕ) (types : List ℕ) (j : ℕ) (s : PlacedEdge P.ring.carrier)
      (begun : List (PlacedEdge P.ring.carrier)) → few_of begun ≡ One s → nat_eq s.type ty ≡ true
      → by_begun ty types j begun ≡ in_front s (parts_from P on end count types (suc j) s.line.to)
  next_of ty types j s [] h t = absurd (cc)
  next_of ty types j s (x ∷ []) h t = let e : x ≡ s = cc in ap (λ y. by_begun ty types j (y ∷ [])) e ∙ ap (by_type s) t
    where
      by_type : PlacedEdge P.ring.carrier → Bool → Result (List (PlacedEdge P.ring.carrier)) ℕ
      by_type s b = elim b [ true ↦ in_front s (parts_from P on end count types (suc j) s.line.to) | false ↦ Err j ]
  next_of ty types j s (x ∷ (y ∷ ys)) h t = absurd (cc)

  none_of : (ty : ℕ) (types : List ℕ) (j : ℕ) (begun : List (PlacedEdge P.ring.carrier))
      → ((s : PlacedEdge P.ring.carrier) → few_of begun ≡ One s → ⊥)
      → by_begun ty types j begun ≡ Err j
  none_of ty types j [] h = refl
  none_of ty types j (x ∷ []) h = absurd (h x refl)
  none_of ty types j (x ∷ (y ∷ ys)) h = refl

  wrong_of : (ty : ℕ) (types : List ℕ) (j : ℕ) (s : PlacedEdge P.ring.carrier)
      (begun : List (PlacedEdge P.ring.carrier)) → few_of begun ≡ One s → nat_eq s.type ty ≡ false
      → by_begun ty types j begun ≡ Err j
  wrong_of ty types j s [] h t = absurd (cc)
  wrong_of ty types j s (x ∷ []) h t = let e : x ≡ s = cc in ap (λ y. by_begun ty types j (y ∷ [])) e ∙ ap (by_type s) t
    where
      by_type : PlacedEdge P.ring.carrier → Bool → Result (List (PlacedEdge P.ring.carrier)) ℕ
      by_type s b = elim b [ true ↦ in_front s (parts_from P on end count types (suc j) s.line.to) | false ↦ Err j ]
  wrong_of ty types j s (x ∷ (y ∷ ys)) h t = absurd (cc)

  -- the last part is found
  pub no_more : (j : ℕ) (p : P.ring.carrier) (b : Bool) → (P.same p end && nat_eq (length on) count) ≡ b
      → parts_from P on end count [] j p ≡ elim b [ true ↦ Ok [] | false ↦ Err j ]
  no_more j p b h = ap at_end h
    where
      at_end : Bool → Result (List (PlacedEdge P.ring.carrier)) ℕ
      at_end b = elim b [ true ↦ Ok [] | false ↦ Err j ]

module _ (P : Points) (on : List (PlacedEdge P.ring.carrier)) (whole : Edge P.ring.carrier) (types : List ℕ) where
  abbrev pub from_part : ℕ → P.ring.carrier → Result (List (PlacedEdge P.ring.carrier)) ℕ
  from_part j p = parts_from P on whole.to (length types) (drop j types) j p

  -- these names are found, and part number j begins at p
  abbrev pub IsFound : List ChildEdge → ℕ → P.ring.carrier → Type 0
  IsFound names j p = in_front_all names (names_of (from_part j p)) ≡ names_of (parts_along P on whole types)

  from_part-at : (j : ℕ) (p : P.ring.carrier) → j < length types
      → from_part j p ≡ parts_from P on whole.to (length types) (get_or types j 0 ∷ drop (j + 1) types) j p
  from_part-at j p l = ap (λ ts. parts_from P on whole.to (length types) ts j p) (drop_more types j 0 l)

  pub IsFound-next : (names : List ChildEdge) (j : ℕ) (p : P.ring.carrier) (s : PlacedEdge P.ring.carrier)
      → j < length types → few_of (filter (begins P p) on) ≡ One s
      → nat_eq s.type (get_or types j 0) ≡ true → IsFound names j p → IsFound (names ++ edge_name s ∷ []) (j + 1) s.line.to
  IsFound-next names j p s l h t found =
      sym (in_front_all-names names s (from_part (j + 1) s.line.to))
      ∙ ap (λ k. in_front_all names (names_of (in_front s (parts_from P on whole.to (length types) (drop (j + 1) types) k s.line.to)))) (add-one j)
      ∙ ap (λ r. in_front_all names (names_of r))
      (sym (from_part-at j p l ∙ next_of P on whole.to (length types) (get_or types j 0)
      (drop (j + 1) types) j s (filter (begins P p) on) h t))
      ∙ found

  -- part number j fails
  fails : (names : List ChildEdge) (j : ℕ) (p : P.ring.carrier) → from_part j p ≡ Err j → IsFound names j p
      → Err j ≡ names_of (parts_along P on whole types)
  fails names j p h found = ap (λ r. in_front_all names (names_of r)) (sym h) ∙ found

  pub none-fails : (names : List ChildEdge) (j : ℕ) (p : P.ring.carrier) → j < length types
      → ((s : PlacedEdge P.ring.carrier) → few_of (filter (begins P p) on) ≡ One s → ⊥) → IsFound names j p
      → Err j ≡ names_of (parts_along P on whole types)
  none-fails names j p l h found = fails names j p
      (from_part-at j p l ∙ none_of P on whole.to (length types) (get_or types j 0) (drop (j + 1) types) j
      (filter (begins P p) on) h) found

  pub wrong-fails : (names : List ChildEdge) (j : ℕ) (p : P.ring.carrier) (s : PlacedEdge P.ring.carrier)
      → j < length types → few_of (filter (begins P p) on) ≡ One s
      → nat_eq s.type (get_or types j 0) ≡ false → IsFound names j p → Err j ≡ names_of (parts_along P on whole types)
  wrong-fails names j p s l h t found = fails names j p
      (from_part-at j p l ∙ wrong_of P on whole.to (length types) (get_or types j 0) (drop (j + 1) types) j s
      (filter (begins P p) on) h t) found

  at_end : (j : ℕ) (p : P.ring.carrier) (b : Bool) → length types ≤ j
      → (P.same p whole.to && nat_eq (length on) (length types)) ≡ b
      → from_part j p ≡ elim b [ true ↦ Ok [] | false ↦ Err j ]
  at_end j p b l h = at_drop_all (λ ts. parts_from P on whole.to (length types) ts j p) types j l ∙ no_more P on whole.to (length types) j p b h

  -- all parts are found
  pub all-found : (names : List ChildEdge) (j : ℕ) (p : P.ring.carrier) → length types ≤ j
      → (P.same p whole.to && nat_eq (length on) (length types)) ≡ true → IsFound names j p
      → Ok names ≡ names_of (parts_along P on whole types)
  all-found names j p l h found = ap Ok (sym (append-nil names)) ∙ ap (λ r. in_front_all names (names_of r)) (sym (at_end j p true l h)) ∙ found

  -- the parts don't end with the whole, or there are other boundary edges
  pub end-fails : (names : List ChildEdge) (j : ℕ) (p : P.ring.carrier) → length types ≤ j
      → (P.same p whole.to && nat_eq (length on) (length types)) ≡ false → IsFound names j p
      → Err j ≡ names_of (parts_along P on whole types)
  end-fails names j p l h found = fails names j p (at_end j p false l h) found
