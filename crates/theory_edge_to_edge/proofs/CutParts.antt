-- The parts of an inflated edge: what the search for them finds, that no two of them begin at one point, and
-- that there is no other child edge along it.
use Rattle.std.proofs.Common.{◌≡◌, ℕ, suc, Bool, true, false, ◌&&◌, List, [], ◌∷◌, length, nat_eq, Result, Ok, Err, refl, sym, ap, ◌∙◌, subst, eqb-true}
use Rattle.std.specs.List.{filter, AllByRecursion}
use Rattle.std.proofs.lemmas.Bool.{and_parts, false_from_ne_true}
use Rattle.theory_plane.specs.Segment.{Between}
use Rattle.theory_substitution.specs.Points.{Points, PointLaws}
use Rattle.theory_substitution.specs.Plane.{plane_point}
use Rattle.theory_addresses.specs.Search.{IsAmong}
use Rattle.theory_edge_to_edge.specs.Edges.{PlacedEdge}
use Rattle.theory_edge_to_edge.specs.Boundary.{in_front, parts_from}
use Rattle.theory_addresses.proofs.Lists.{AllByRecursion-each, AllByRecursion-among}
use Rattle.theory_addresses.proofs.Filters.{kept_one, AreApart, all_taken}
use Rattle.theory_substitution.proofs.Betweenness.{between-trans, between-antisym}

module _ (P : Points) where
  abbrev A : Type 0
  A = P.ring.carrier

  abbrev pub begins_at : A → PlacedEdge A → Bool
  begins_at p s = P.same s.line.from p

  -- one of the edges `on` begins at p and has the first type, the next part begins at its end, and the last ends at `end`
  abbrev pub AreParts : List (PlacedEdge A) → A → List ℕ → A → List (PlacedEdge A) → Type 0
  AreParts on end [] p [] = p ≡ end
  AreParts on end [] p (s ∷ ss) = ⊥
  AreParts on end (ty ∷ types) p [] = ⊥
  AreParts on end (ty ∷ types) p (s ∷ ss) = (filter (begins_at p) on ≡ s ∷ []) × (s.type ≡ ty) × AreParts on end types s.line.to ss

  -- what the search answers are parts, as many as there are edges
  pub record Found (on : List (PlacedEdge A)) (end : A) (count : ℕ) (types : List ℕ) (p : A) (ss : List (PlacedEdge A)) : Type 0 where
    pub parts : AreParts on end types p ss
    pub count_is : length on ≡ count

  -- x begins where s does
  abbrev pub from_of : PlacedEdge A → PlacedEdge A → Bool
  from_of s x = P.same x.line.from s.line.from

  abbrev BetweenPoints : A → A → A → Type 0
  BetweenPoints a b c = Between P.real (plane_point P a) (plane_point P b) (plane_point P c)

  -- an edge that leads away from a: its ends differ, and its start is between a and its end
  pub record LeadsAway (a : A) (s : PlacedEdge A) : Type 0 where
    pub ends_differ : s.line.from ≡ s.line.to → ⊥
    pub start_between : BetweenPoints a s.line.to s.line.from

  module _ (W : PointLaws P) where
    pub parts_from-found : (on : List (PlacedEdge A)) (end : A) (count : ℕ) (types : List ℕ) (j : ℕ) (p : A) (ss : List (PlacedEdge A))
        → parts_from P on end count types j p ≡ Ok ss → Found on end count types p ss
    parts_from-found on end count [] j p ss h = at_end (P.same p end && nat_eq (length on) count) refl h
      where
        at_end : (b : Bool) → P.same p end && nat_eq (length on) count ≡ b
            → (elim b as (λ _. Result (List (PlacedEdge A)) ℕ) [ true ↦ Ok [] | false ↦ Err j ]) ≡ Ok ss
            → Found on end count [] p ss
        at_end true e h =
            let both = and_parts (P.same p end) (nat_eq (length on) count) e in
            let none : ◌≡◌ {A = List (PlacedEdge A)} [] ss = cc in
            subst (λ (l : List (PlacedEdge A)). Found on end count [] p l) none
            (record { parts = W.same-is p end both.0; count_is = eqb-true (length on) count both.1 })
        at_end false e h = absurd cc
    parts_from-found on end count (ty ∷ types) j p ss h =
        at_first (filter (begins_at p) on) refl h (λ s rest k. parts_from-found on end count types (suc j) s.line.to rest k)
      where
        at_rest : (s : PlacedEdge A) → filter (begins_at p) on ≡ s ∷ [] → s.type ≡ ty
            → (r : Result (List (PlacedEdge A)) ℕ) → parts_from P on end count types (suc j) s.line.to ≡ r
            → in_front s r ≡ Ok ss → ((rest : List (PlacedEdge A))
            → parts_from P on end count types (suc j) s.line.to ≡ Ok rest
            → Found on end count types s.line.to rest)
            → Found on end count (ty ∷ types) p ss
        at_rest s first type (Ok rest) is h next =
            let f = next rest is in
            let all : ◌≡◌ {A = List (PlacedEdge A)} (s ∷ rest) ss = cc in
            subst (λ (l : List (PlacedEdge A)). Found on end count (ty ∷ types) p l) all
            (record { parts = (first, type, f.parts); count_is = f.count_is })
        at_rest s first type (Err i) is h next = absurd cc

        at_type : (s : PlacedEdge A) → filter (begins_at p) on ≡ s ∷ [] → (b : Bool) → nat_eq s.type ty ≡ b
            → (elim b as (λ _. Result (List (PlacedEdge A)) ℕ)
            [ true ↦ in_front s (parts_from P on end count types (suc j) s.line.to) | false ↦ Err j ])
            ≡ Ok ss
            → ((rest : List (PlacedEdge A)) → parts_from P on end count types (suc j) s.line.to ≡ Ok rest → Found on end count types s.line.to rest)
            → Found on end count (ty ∷ types) p ss
        at_type s first true e h next = at_rest s first (eqb-true s.type ty e) (parts_from P on end count types (suc j) s.line.to) refl h next
        at_type s first false e h next = absurd cc

        at_first : (fs : List (PlacedEdge A)) → filter (begins_at p) on ≡ fs
            → (elim fs as (λ _. Result (List (PlacedEdge A)) ℕ) [
              | [] ↦ Err j
              | s ∷ ss ↦ elim ss as (λ _. Result (List (PlacedEdge A)) ℕ) [
                | [] ↦ elim (nat_eq s.type ty) as (λ _. Result (List (PlacedEdge A)) ℕ)
                    [ true ↦ in_front s (parts_from P on end count types (suc j) s.line.to) | false ↦ Err j ]
                | t ∷ ts ↦ Err j
              ]
            ]) ≡ Ok ss
            → ((s : PlacedEdge A) (rest : List (PlacedEdge A))
            → parts_from P on end count types (suc j) s.line.to ≡ Ok rest
            → Found on end count types s.line.to rest)
            → Found on end count (ty ∷ types) p ss
        at_first [] is h next = absurd cc
        at_first (s ∷ []) is h next = at_type s is (nat_eq s.type ty) refl h (next s)
        at_first (s ∷ (t ∷ ts)) is h next = absurd cc

    pub AreParts-length : (on : List (PlacedEdge A)) (end : A) (types : List ℕ) (p : A)
        (ss : List (PlacedEdge A)) → AreParts on end types p ss → length ss ≡ length types
    AreParts-length on end [] p [] h = refl
    AreParts-length on end [] p (s ∷ ss) h = absurd h
    AreParts-length on end (ty ∷ types) p [] h = absurd h
    AreParts-length on end (ty ∷ types) p (s ∷ ss) h = ap suc (AreParts-length on end types s.line.to ss h.2)

    pub begins : (on : List (PlacedEdge A)) (p : A) (s : PlacedEdge A) → filter (begins_at p) on ≡ s ∷ [] → s.line.from ≡ p
    begins on p s h = W.same-is s.line.from p (kept_one (begins_at p) s on h).1

    pub AreParts-alone : (on : List (PlacedEdge A)) (end : A) (types : List ℕ) (p : A) (ss : List (PlacedEdge A)) → AreParts on end types p ss
        → AllByRecursion (λ s. filter (from_of s) on ≡ s ∷ []) ss
    AreParts-alone on end [] p [] h = tt
    AreParts-alone on end [] p (s ∷ ss) h = absurd h
    AreParts-alone on end (ty ∷ types) p [] h = absurd h
    AreParts-alone on end (ty ∷ types) p (s ∷ ss) h =
        (subst (λ (q : A). filter (begins_at q) on ≡ s ∷ []) (sym (begins on p s h.0)) h.0, AreParts-alone on end types s.line.to ss h.2)

    module _ (a : A) (on : List (PlacedEdge A)) (away : (s : PlacedEdge A) → IsAmong s on → LeadsAway a s) where
      one_point : (p q : A) → BetweenPoints a q p → BetweenPoints a p q → p ≡ q
      one_point p q h g =
          let z = between-antisym P.real W.of_real W.of_order (plane_point P a) (plane_point P q) (plane_point P p) h g in
          W.separate p q z.0 z.1

      -- behind q, and so behind p, nothing begins at p
      later : (p q : A) (end : A) (types : List ℕ) (ss : List (PlacedEdge A)) → BetweenPoints a q p → (p ≡ q → ⊥) → AreParts on end types q ss
          → AllByRecursion (λ u. u.line.from ≡ p → ⊥) ss
      later p q end [] [] h ne parts = tt
      later p q end [] (s ∷ ss) h ne parts = absurd parts
      later p q end (ty ∷ types) [] h ne parts = absurd parts
      later p q end (ty ∷ types) (s ∷ ss) h ne parts =
          let at_q = begins on q s parts.0 in
          let next : BetweenPoints a s.line.to q = subst (λ (z : A). BetweenPoints a s.line.to z) at_q
          (away s (kept_one (begins_at q) s on parts.0).0).start_between in (
            (λ e. ne (sym e ∙ at_q)),
            later p s.line.to end types ss (between-trans P.real W.of_real W.of_order (plane_point P a)
                (plane_point P q) (plane_point P p) h (plane_point P s.line.to) next)
                (λ e. ne (one_point p q h (subst (λ (z : A). BetweenPoints a z q) (sym e) next))) parts.2,
          )

      -- the parts begin at different points
      pub AreParts-apart : (end : A) (types : List ℕ) (p : A) (ss : List (PlacedEdge A)) → AreParts on end types p ss → AreApart from_of ss
      AreParts-apart end [] p [] parts = tt
      AreParts-apart end [] p (s ∷ ss) parts = absurd parts
      AreParts-apart end (ty ∷ types) p [] parts = absurd parts
      AreParts-apart end (ty ∷ types) p (s ∷ ss) parts =
          let here = away s (kept_one (begins_at p) s on parts.0).0 in (
            AllByRecursion-each (λ u. u.line.from ≡ s.line.from → ⊥) (λ u. (x : PlacedEdge A) → from_of s x ≡ true → from_of u x ≡ false) ss
                (λ u f x e. false_from_ne_true (from_of u x)
                (λ g. f (sym (W.same-is x.line.from u.line.from g)
                ∙ W.same-is x.line.from s.line.from e)))
                (later s.line.from s.line.to end types ss here.start_between here.ends_differ parts.2),
            AreParts-apart end types s.line.to ss parts.2,
          )

      -- and are all the edges
      pub AreParts-all : (end : A) (types : List ℕ) (p : A) (ss : List (PlacedEdge A)) → AreParts on end types p ss → length on ≡ length types
          → (x : PlacedEdge A) → IsAmong x on → IsAmong x ss
      AreParts-all end types p ss parts count x i =
          all_taken from_of ss on (AreParts-alone on end types p ss parts) (AreParts-apart end types p ss parts)
          (count ∙ sym (AreParts-length on end types p ss parts)) x i

      pub AreParts-among : (end : A) (types : List ℕ) (p : A) (ss : List (PlacedEdge A))
          → AreParts on end types p ss → (x : PlacedEdge A) → IsAmong x ss → IsAmong x on
      AreParts-among end types p ss parts x i = (kept_one (from_of x) x on
          (AllByRecursion-among (λ s. filter (from_of s) on ≡ s ∷ []) x ss i
          (AreParts-alone on end types p ss parts))).0
