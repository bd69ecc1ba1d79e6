-- Taking a list item by item, as a loop does: what is done, and what the rest gives.
use Rattle.std.proofs.Common.{◌≡◌, ◌∙◌, ℕ, ◌+◌, ◌<◌, ◌≤◌, List, [], ◌∷◌, ◌++◌, length, get_or, drop, Option, Some, None, option_map, refl, sym, ap, append_assoc}
use Rattle.std.specs.Prelude.{option_and_then}
use Rattle.std.proofs.lemmas.List.{drop_more, drop_all, append-nil}
use Rattle.rule_text.specs.Forms.{each}

-- what was found before, and what is still found
abbrev pub behind : {B : Type 0} → List B → Option (List B) → Option (List B)
behind done rest = option_map (λ ys. done ++ ys) rest

pub behind-nothing : {B : Type 0} (rest : Option (List B)) → behind [] rest ≡ rest
behind-nothing None = refl
behind-nothing (Some ys) = refl

regroup : {B : Type 0} (done : List B) (y : B) (rest : Option (List B)) → behind done (option_map (λ ys. y ∷ ys) rest) ≡ behind (done ++ y ∷ []) rest
regroup done y None = refl
regroup done y (Some ys) = ap (λ zs. Some zs) (sym (append_assoc done (y ∷ []) ys))

found-more : {B : Type 0} (y : B) (rest : Option (List B)) → option_and_then (λ ys. Some (y ∷ ys)) rest ≡ option_map (λ ys. y ∷ ys) rest
found-more y None = refl
found-more y (Some ys) = refl

each-found : {A B : Type 0} (f : A → Option B) (x : A) (xs : List A) (y : B) → f x ≡ Some y → each f (x ∷ xs) ≡ option_map (λ ys. y ∷ ys) (each f xs)
each-found f x xs y e = rw e (found-more y (each f xs))

each-lost : {A B : Type 0} (f : A → Option B) (x : A) (xs : List A) → f x ≡ None → each f (x ∷ xs) ≡ None
each-lost f x xs e = rw e refl

-- an item at number i is found
pub each-more : {A B : Type 0} (f : A → Option B) (xs : List A) (i : ℕ) (x : A) (y : B) (done : List B)
    → i < length xs → x ≡ get_or xs i x → f x ≡ Some y
    → behind done (each f (drop i xs)) ≡ each f xs → behind (done ++ y ∷ []) (each f (drop (i + 1) xs)) ≡ each f xs
each-more f xs i x y done lt is e so_far =
    let front : drop i xs ≡ x ∷ drop (i + 1) xs = drop_more xs i x lt ∙ ap (λ (z : _). z ∷ drop (i + 1) xs) (sym is) in
    sym (ap (λ zs. behind done (each f zs)) front ∙ ap (behind done) (each-found f x (drop (i + 1) xs) y e)
    ∙ regroup done y (each f (drop (i + 1) xs))) ∙ so_far

-- an item at number i is not
pub each-stop : {A B : Type 0} (f : A → Option B) (xs : List A) (i : ℕ) (x : A) (done : List B) → i < length xs → x ≡ get_or xs i x → f x ≡ None
    → behind done (each f (drop i xs)) ≡ each f xs → None ≡ each f xs
each-stop f xs i x done lt is e so_far =
    let front : drop i xs ≡ x ∷ drop (i + 1) xs = drop_more xs i x lt ∙ ap (λ (z : _). z ∷ drop (i + 1) xs) (sym is) in
    sym (ap (λ zs. behind done (each f zs)) front ∙ ap (behind done) (each-lost f x (drop (i + 1) xs) e)) ∙ so_far

-- all items are found
pub each-end : {A B : Type 0} (f : A → Option B) (xs : List A) (i : ℕ) (done : List B) → length xs ≤ i
    → behind done (each f (drop i xs)) ≡ each f xs → Some done ≡ each f xs
each-end f xs i done le so_far =
    sym (ap (λ zs. behind done (each f zs)) (drop_all i xs le) ∙ ap (λ zs. Some zs) (append-nil done)) ∙ so_far
