-- Reading the entries of a list in order, as a loop does.
use Rattle.std.proofs.Common.{◌≡◌, ◌∙◌, ℕ, suc, ◌+◌, ◌<◌, ◌≤◌, List, [], ◌∷◌, ◌++◌, length, get_or, drop, map, Result, Ok, Err, refl, sym, ap, append_assoc, add-one}
use Rattle.std.proofs.lemmas.List.{drop_more, drop_all, append-nil}
use Rattle.rule_text.specs.declared.text_fault.TextFault.{TextFault}
use Rattle.rule_text.specs.Steps.{◌>>=◌, in_order}

-- what was read before, and what is still read
abbrev pub onward : {B : Type 0} → List B → Result (List B) TextFault → Result (List B) TextFault
onward done rest = rest >>= λ ys. Ok (done ++ ys)

regroup : {B : Type 0} (done : List B) (y : B) (rest : Result (List B) TextFault)
    → onward done (rest >>= λ ys. Ok (y ∷ ys)) ≡ onward (done ++ y ∷ []) rest
regroup done y (Ok ys) = ap (λ zs. Ok zs) (sym (append_assoc done (y ∷ []) ys))
regroup done y (Err e) = refl

front : {A : Type 0} (xs : List A) (i : ℕ) (x : A) → i < length xs → x ≡ get_or xs i x → drop i xs ≡ x ∷ drop (i + 1) xs
front xs i x lt is = drop_more xs i x lt ∙ ap (λ (z : _). z ∷ drop (i + 1) xs) (sym is)

-- entry number i is read
pub in_order-more : {A B : Type 0} (f : ℕ → A → Result B TextFault) (xs : List A) (i : ℕ) (x : A) (y : B)
    (done : List B) (whole : Result (List B) TextFault) → i < length xs → x ≡ get_or xs i x
    → f i x ≡ Ok y → onward done (in_order f i (drop i xs)) ≡ whole → onward (done ++ y ∷ []) (in_order f (i + 1) (drop (i + 1) xs)) ≡ whole
in_order-more f xs i x y done whole lt is e so_far =
    let at : in_order f i (drop i xs) ≡ (in_order f (i + 1) (drop (i + 1) xs) >>= λ ys. Ok (y ∷ ys)) = rw (front xs i x lt is, e, add-one) refl in
    sym (ap (onward done) at ∙ regroup done y (in_order f (i + 1) (drop (i + 1) xs))) ∙ so_far

-- entry number i has a fault
pub in_order-stop : {A B : Type 0} (f : ℕ → A → Result B TextFault) (xs : List A) (i : ℕ) (x : A)
    (fault : TextFault) (done : List B) (whole : Result (List B) TextFault) → i < length xs
    → x ≡ get_or xs i x
    → f i x ≡ Err fault → onward done (in_order f i (drop i xs)) ≡ whole → whole ≡ Err fault
in_order-stop f xs i x fault done whole lt is e so_far =
    let at : in_order f i (drop i xs) ≡ Err fault = rw (front xs i x lt is, e) refl in
    sym so_far ∙ ap (onward done) at

-- all entries are read
pub in_order-end : {A B : Type 0} (f : ℕ → A → Result B TextFault) (xs : List A) (i : ℕ) (done : List B)
    (whole : Result (List B) TextFault) → length xs ≤ i
    → onward done (in_order f i (drop i xs)) ≡ whole → whole ≡ Ok done
in_order-end f xs i done whole le so_far =
    let at : in_order f i (drop i xs) ≡ Ok [] = rw (drop_all i xs le) refl in
    sym so_far ∙ ap (onward done) at ∙ ap (λ zs. Ok zs) (append-nil done)

pub in_order-map : {A B C : Type 0} (f : ℕ → B → Result C TextFault) (g : A → B) (n : ℕ) (xs : List A)
    → in_order f n (map g xs) ≡ in_order (λ i x. f i (g x)) n xs
in_order-map f g n [] = refl
in_order-map f g n (x ∷ xs) = rw (in_order-map f g (suc n) xs) refl
