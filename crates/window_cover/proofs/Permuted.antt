-- Distinct elements in another order.
use Rattle.std.proofs.Common.{◌≡◌, ◌⊎◌, inl, inr, ◌≤◌, List, [], ◌∷◌, ◌++◌, map, length, refl, sym, ap, ap₂, ◌∙◌, subst, arith, append_assoc}
use Rattle.std.proofs.Common.{length-append}
use Rattle.std.specs.List.Sorted.{IsPermutation}
use Rattle.std.proofs.lemmas.List.Sorted.{length_permutation}
use Rattle.theory_addresses.specs.Search.{IsAmong}
use Rattle.theory_addresses.proofs.Lists.{IsAmong-append_left, IsAmong-append_right}
use Rattle.theory_addresses.proofs.Ranges.{among-append}
use Rattle.theory_windows.specs.Distinct.{AreDistinct}
use Rattle.theory_windows.proofs.Members.{no-more}
use Rattle.window_cover.proofs.Shuffled.{permuted-members}

-- lists that are one where they have the same elements by number
pub map-on : {A B : Type 0} (f g : A → B) (xs : List A) → ((x : A) → IsAmong x xs → f x ≡ g x) → map f xs ≡ map g xs
map-on f g [] h = refl
map-on {A} {B} f g (x ∷ xs) h = ap₂ (λ (y : B) (ys : List B). y ∷ ys) (h x (inl refl)) (map-on f g xs (λ y i. h y (inr i)))

module _ {A : Type 0} (xs : List A) (distinct : AreDistinct xs) where
  -- without one that is there again
  without : (x y : A) (zs ys : List A) → IsAmong y ys → IsAmong x (zs ++ y ∷ ys) → IsAmong x (zs ++ ys)
  without x y zs ys again i = at_case (among-append x zs (y ∷ ys) i)
    where
      at_case : IsAmong x zs ⊎ IsAmong x (y ∷ ys) → IsAmong x (zs ++ ys)
      at_case (inl j) = IsAmong-append_left x zs ys j
      at_case (inr (inl e)) = IsAmong-append_right x zs ys (subst (λ z. IsAmong z ys) (sym e) again)
      at_case (inr (inr j)) = IsAmong-append_right x zs ys j

  too_few : (y : A) (zs ys : List A) → length (zs ++ y ∷ ys) ≡ length xs → length xs ≤ length (zs ++ ys) → ⊥
  too_few y zs ys long few =
      let a = length-append zs (y ∷ ys) in
      let b = length-append zs ys in
      omega (arith, a, b, long, few)

  go : (zs ys : List A) → length (zs ++ ys) ≡ length xs → ((x : A) → IsAmong x xs → IsAmong x (zs ++ ys)) → AreDistinct ys
  go zs [] long all = tt
  go zs (y ∷ ys) long all = (
    λ again. absurd (too_few y zs ys long (no-more xs (zs ++ ys) distinct (λ x i. without x y zs ys again (all x i)))),
    go (zs ++ y ∷ []) ys (ap (λ (us : List A). length us) (append_assoc zs (y ∷ []) ys) ∙ long)
        (λ x i. subst (IsAmong x) (sym (append_assoc zs (y ∷ []) ys)) (all x i)),
  )

  pub distinct-permuted : (ys : List A) → IsPermutation xs ys → AreDistinct ys
  distinct-permuted ys p = go [] ys (length_permutation xs ys p) (λ x i. (permuted-members xs ys p x).0 i)
