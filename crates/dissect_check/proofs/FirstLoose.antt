-- The first loose child edge, as a loop over the edges finds it.
use Rattle.std.proofs.Common.{◌≡◌, ℕ, ◌+◌, ◌<◌, false, List, [], ◌∷◌, map, length, drop, get_or, Option, Some, None, refl, sym, ap, ◌∙◌, arith}
use Rattle.std.proofs.lemmas.List.{length-map, at_drop_more}
use Rattle.std.proofs.lemmas.List as lists
use Rattle.theory_addresses.specs.Search.{first_some}
use Rattle.theory_edge_to_edge.specs.Lying.{is_loose}
use Rattle.dissect_check.specs.declared.lie.Lie.{Lie}
use Rattle.dissect_check.specs.declared.lie.Lie.TheVariants.{Inner, Boundary, Loose}
use Rattle.dissect_check.specs.Views.{as_lie}

-- two lists that look alike do so at each place
pub same_at : {A B C D : Type 0} (f : A → D) (g : C → D) (view : B → C) (xs : List A) (ys : List B) (i : ℕ) (d : A) (e : B) (none : D)
    → map f xs ≡ map g (map view ys) → i < length ys → f (get_or xs i d) ≡ g (view (get_or ys i e))
same_at f g view xs ys i d e none h l =
    let long : length xs ≡ length ys = sym (length-map xs f) ∙ ap length h ∙ length-map (map view ys) g ∙ length-map ys view in
    sym (lists.get_or-map f xs i d none (omega arith))
    ∙ ap (λ zs. get_or zs i none) h
    ∙ lists.get_or-map g (map view ys) i (view e) none (omega (arith, length-map ys view))
    ∙ ap g (lists.get_or-map view ys i e (view e) l)

module _ {A B F : Type 0} (f : A → Option F) (view : B → A) where
  pub first_some-here : (xs : List B) (i : ℕ) (d : B) (e : F) → i < length xs
      → f (view (get_or xs i d)) ≡ Some e → first_some (map f (map view (drop i xs))) ≡ Some e
  first_some-here xs i d e l h =
      at_drop_more (λ ys. first_some (map f (map view ys))) xs i d l ∙ ap (λ o. first_some (o ∷ map f (map view (drop (i + 1) xs)))) h

  pub first_some-later : (xs : List B) (i : ℕ) → i < length xs → ((d : B) → f (view (get_or xs i d)) ≡ None)
      → first_some (map f (map view (drop i xs))) ≡ first_some (map f (map view (drop (i + 1) xs)))
  first_some-later [] i l h = absurd (omega arith)
  first_some-later (x ∷ xs) i l h =
      at_drop_more (λ ys. first_some (map f (map view ys))) (x ∷ xs) i x l ∙ ap (λ o. first_some (o ∷ map f (map view (drop (i + 1) (x ∷ xs))))) (h x)

pub not_loose : (lie : Lie) → (lie ≡ Loose → ⊥) → is_loose (as_lie lie) ≡ false
not_loose (Inner c e) h = refl
not_loose (Boundary e) h = refl
not_loose Loose h = absurd (h refl)
