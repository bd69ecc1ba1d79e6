-- The edges of one child among those of all.
use Rattle.std.proofs.Common.{◌≡◌, ℕ, zero, suc, ◌<◌, ◌≤◌, Bool, true, false, cond, List, [], ◌∷◌, ◌++◌, length, nat_eq, refl, sym, ap, ap₂, ◌∙◌, arith, inl, inr, eq-eqb}
use Rattle.std.specs.List.{filter, flat_map}
use Rattle.std.proofs.lemmas.Bool.{ne_eqb}
use Rattle.std.proofs.lemmas.List.{flat_map_more, append-nil}
use Rattle.std.proofs.lemmas.List.Elements.{filter-append}
use Rattle.theory_substitution.specs.Points.{Points}
use Rattle.theory_substitution.specs.Rule.{Rule, children_of}
use Rattle.theory_substitution.specs.RuleParts.{edge_count, child_of}
use Rattle.theory_addresses.specs.Search.{below}
use Rattle.theory_edge_to_edge.specs.Edges.{PlacedEdge, child_edge, edges_of_child, child_edges}
use Rattle.theory_addresses.proofs.Searches.{below_or_at}

module _ {A : Type 0} (p : A → Bool) (f : ℕ → A) where
  all_pass : (n : ℕ) → ((i : ℕ) → p (f i) ≡ true) → filter p (below f n) ≡ below f n
  all_pass zero h = refl
  all_pass (suc n) h = filter-append p (below f n) (f n ∷ []) ∙ ap₂ (λ xs b. xs ++ cond b (f n ∷ []) []) (all_pass n h) (h n)

  none_passes : (n : ℕ) → ((i : ℕ) → p (f i) ≡ false) → filter p (below f n) ≡ []
  none_passes zero h = refl
  none_passes (suc n) h = filter-append p (below f n) (f n ∷ []) ∙ ap₂ (λ xs b. xs ++ cond b (f n ∷ []) []) (none_passes n h) (h n)

module _ (P : Points) (r : Rule P.ring.carrier) (k c : ℕ) where
  abbrev pub is_of_child : PlacedEdge P.ring.carrier → Bool
  is_of_child s = nat_eq s.child c

  -- those of the first n children
  abbrev front : ℕ → List (PlacedEdge P.ring.carrier)
  front n = filter is_of_child (flat_map (edges_of_child P r k) (below (λ d. d) n))

  front-more : (n : ℕ) → front (suc n) ≡ front n ++ filter is_of_child (edges_of_child P r k n)
  front-more n =
      ap (filter is_of_child) (sym (flat_map_more (edges_of_child P r k) [] (below (λ d. d) n) n))
      ∙ filter-append is_of_child (flat_map (edges_of_child P r k) (below (λ d. d) n)) (edges_of_child P r k n)

  its_own : filter is_of_child (edges_of_child P r k c) ≡ edges_of_child P r k c
  its_own = all_pass is_of_child (child_edge P r k c) (edge_count r (child_of P r k c).kind) (λ i. eq-eqb c c refl)

  of_others : (d : ℕ) → (d ≡ c → ⊥) → filter is_of_child (edges_of_child P r k d) ≡ []
  of_others d ne = none_passes is_of_child (child_edge P r k d) (edge_count r (child_of P r k d).kind) (λ i. ne_eqb d c ne)

  not_yet : (n : ℕ) → n ≤ c → front n ≡ []
  not_yet zero l = refl
  not_yet (suc n) l = front-more n ∙ ap₂ (λ xs ys. xs ++ ys) (not_yet n (omega arith)) (of_others n (λ e. omega arith))

  once : (n : ℕ) → c < n → front n ≡ edges_of_child P r k c
  once zero l = absurd (omega arith)
  once (suc n) l =
      elim (below_or_at c n l) [
        | inl q ↦ front-more n ∙ ap₂ (λ xs ys. xs ++ ys) (once n q) (of_others n (λ e. omega arith)) ∙ append-nil (edges_of_child P r k c)
        | inr q ↦ front-more n ∙ ap₂ (λ xs ys. xs ++ ys) (not_yet n (omega arith))
            (ap (λ d. filter is_of_child (edges_of_child P r k d)) (sym q) ∙ its_own)
      ]

  -- those of child number c
  pub own_edges : c < length (children_of r k) → filter is_of_child (child_edges P r k) ≡ edges_of_child P r k c
  own_edges l = once (length (children_of r k)) l
