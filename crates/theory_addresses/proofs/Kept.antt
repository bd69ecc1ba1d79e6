-- What a loop over a list keeps of it: the views of the elements that pass a test, one element further, and what a copy of it keeps.
use Rattle.std.proofs.Common.{◌≡◌, ℕ, ◌+◌, ◌<◌, Bool, true, false, cond, List, [], ◌∷◌, ◌++◌, map, length, take, get_or, sym, ap, ap₂, ◌∙◌}
use Rattle.std.specs.List.{filter}
use Rattle.std.proofs.lemmas.List.{map_more, append-nil, take_more, map-append}
use Rattle.std.proofs.lemmas.List.Elements.{filter-append}

module _ {A B : Type 0} (f : A → B) (p : B → Bool) where
  -- the next element by itself
  one_more : (xs : List A) (n : ℕ) (d : A) → n < length xs
      → filter p (map f (take (n + 1) xs)) ≡ filter p (map f (take n xs))
      ++ cond (p (f (get_or xs n d))) (f (get_or xs n d) ∷ []) []
  one_more xs n d l = ap (filter p) (map_more f xs n d l) ∙ filter-append p (map f (take n xs)) (f (get_or xs n d) ∷ [])

  -- it passes
  pub kept : (xs : List A) (n : ℕ) (x : A) (ys : List B) → n < length xs → x ≡ get_or xs n x → p (f x) ≡ true
      → ys ≡ filter p (map f (take n xs)) → ys ++ f x ∷ [] ≡ filter p (map f (take (n + 1) xs))
  kept xs n x ys l e h i =
      ap₂ (λ zs b. zs ++ cond b (f x ∷ []) []) i (sym h)
      ∙ ap (λ z. filter p (map f (take n xs)) ++ cond (p (f z)) (f z ∷ []) []) e
      ∙ sym (one_more xs n x l)

  -- it doesn't
  pub left_out : (xs : List A) (n : ℕ) (x : A) (ys : List B) → n < length xs → x ≡ get_or xs n x
      → p (f x) ≡ false → ys ≡ filter p (map f (take n xs)) → ys ≡ filter p (map f (take (n + 1) xs))
  left_out xs n x ys l e h i =
      i
      ∙ sym (append-nil (filter p (map f (take n xs))))
      ∙ ap (λ b. filter p (map f (take n xs)) ++ cond b (f x ∷ []) []) (sym h)
      ∙ ap (λ z. filter p (map f (take n xs)) ++ cond (p (f z)) (f z ∷ []) []) e
      ∙ sym (one_more xs n x l)

-- one element more is kept of each list, and they still look the same
pub kept_more : {X Y : Type 0} (f : X → Y) (own xs : List X) (kept x : X) (i : ℕ)
    → map f own ≡ map f (take i xs) → f kept ≡ f x → i < length xs → get_or xs i x ≡ x
    → map f (own ++ kept ∷ []) ≡ map f (take (i + 1) xs)
kept_more f own xs kept x i so same within here =
    map-append f own (kept ∷ [])
    ∙ ap (λ ys. ys ++ f kept ∷ []) so
    ∙ ap (λ y. map f (take i xs) ++ y ∷ []) same
    ∙ sym (map-append f (take i xs) (x ∷ []))
    ∙ ap (λ y. map f (take i xs ++ y ∷ [])) (sym here)
    ∙ sym (ap (map f) (take_more xs i x within))
