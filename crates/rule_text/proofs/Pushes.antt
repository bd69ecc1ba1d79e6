-- Pushing what each item of a list is written as.
use Rattle.std.proofs.Common.{◌≡◌, ◌∙◌, ℕ, ◌+◌, ◌<◌, ◌≤◌, List, [], ◌∷◌, ◌++◌, All, length, get_or, take, map, sym, ap, subst}
use Rattle.std.proofs.lemmas.List.{take_more, take_all, map_push}
use Rattle.std.proofs.lemmas.List.Elements.{All-push}

pub map-more : {A B C : Type 0} (seen : C → B) (f : A → B) (xs : List A) (i : ℕ) (d : A) (done more : List C)
    (v : C) → i < length xs → more ≡ done ++ v ∷ [] → seen v ≡ f (get_or xs i d)
    → map seen done ≡ map f (take i xs) → map seen more ≡ map f (take (i + 1) xs)
map-more seen f xs i d done more v lt pushed e so_far =
    ap (map seen) pushed ∙ map_push seen done v ∙ ap (λ ys. ys ++ seen v ∷ []) so_far ∙ ap (λ y. map f (take i xs) ++ y ∷ []) e
    ∙ sym (map_push f (take i xs) (get_or xs i d)) ∙ ap (map f) (sym (take_more xs i d lt))

pub All-more : {A : Type 0} (P : A → Type 0) (xs : List A) (i : ℕ) (d : A) → i < length xs → P (get_or xs i d)
    → All P (take i xs) → All P (take (i + 1) xs)
All-more P xs i d lt h so_far = subst (All P) (sym (take_more xs i d lt)) (All-push P (take i xs) (get_or xs i d) so_far h)

pub All-whole : {A : Type 0} (P : A → Type 0) (xs : List A) (i : ℕ) → length xs ≤ i → All P (take i xs) → All P xs
All-whole P xs i le h = subst (All P) (take_all i xs le) h
