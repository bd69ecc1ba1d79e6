-- Places in lists: what is written at one, and what is read there.
use Rattle.std.proofs.Common.{◌≡◌, ◌⊎◌, inl, inr, ℕ, zero, suc, ◌+◌, ◌<◌, List, [], ◌∷◌, ◌++◌, length, map, take, set, get_or, Some, refl, sym, ap, ◌∙◌, arith}
use Rattle.std.specs.List.{slice_get}
use Rattle.std.proofs.lemmas.List.{take_more}
use Rattle.theory_addresses.specs.Search.{IsAmong}
use Rattle.theory_addresses.proofs.Lists.{IsAmong-map, get_or-among}
use Rattle.std.proofs.lemmas.Option.{slice_get-get_or}
use Rattle.theory_addresses.proofs.Ranges.{among-append, slice_get-image}
use Rattle.transducer_core.specs.Once.{HasNoneTwice}

pub slice_get-set_same : {A : Type 0} (xs : List A) (i : ℕ) (x : A) → i < length xs → slice_get (set xs i x) i ≡ Some x
slice_get-set_same [] i x h = absurd (omega arith)
slice_get-set_same (y ∷ ys) zero x h = refl
slice_get-set_same (y ∷ ys) (suc i) x h = slice_get-set_same ys i x (omega arith)

pub slice_get-set_other : {A : Type 0} (xs : List A) (i j : ℕ) (x : A) → (j ≡ i → ⊥) → slice_get (set xs i x) j ≡ slice_get xs j
slice_get-set_other [] i j x h = refl
slice_get-set_other (y ∷ ys) zero zero x h = absurd (h refl)
slice_get-set_other (y ∷ ys) zero (suc j) x h = refl
slice_get-set_other (y ∷ ys) (suc i) zero x h = refl
slice_get-set_other (y ∷ ys) (suc i) (suc j) x h = slice_get-set_other ys i j x (λ e. h (ap suc e))

-- the first of a list
pub among-take : {A : Type 0} (x : A) (xs : List A) (i : ℕ) → IsAmong x (take i xs) → IsAmong x xs
among-take x [] zero j = elim j [ ]
among-take x [] (suc i) j = elim j [ ]
among-take x (y ∷ ys) zero j = elim j [ ]
among-take x (y ∷ ys) (suc i) (inl e) = inl e
among-take x (y ∷ ys) (suc i) (inr j) = inr (among-take x ys i j)

pub among-take_more : {A : Type 0} (xs : List A) (i : ℕ) (d x : A) → i < length xs
    → IsAmong x (take (i + 1) xs) → IsAmong x (take i xs) ⊎ (x ≡ get_or xs i d)
among-take_more xs i d x h j =
    let k : IsAmong x (take i xs ++ get_or xs i d ∷ []) = rw (take_more xs i d h) at j in
    elim (among-append x (take i xs) (get_or xs i d ∷ []) k) [ inl a ↦ inl a | inr b ↦ elim b [ inl e ↦ inr e | inr n ↦ elim n [ ] ] ]

-- what is made of what is read is a member
pub read-among : {A B : Type 0} (f : A → B) (xs : List A) (i : ℕ) (d : A) → i < length xs → IsAmong (f (get_or xs i d)) (map f xs)
read-among f xs i d h = IsAmong-map f (get_or xs i d) xs (get_or-among xs i d h)

-- a new member behind members that stand once each
pub none_twice_more : {A : Type 0} (xs : List A) (x : A) → HasNoneTwice xs → (IsAmong x xs → ⊥) → HasNoneTwice (xs ++ x ∷ [])
none_twice_more [] x h new = (λ i. elim i [ ], tt)
none_twice_more (y ∷ ys) x h new = (
  λ i. elim (among-append y ys (x ∷ []) i) [ inl j ↦ h.0 j | inr j ↦ elim j [ inl e ↦ new (inl (sym e)) | inr k ↦ elim k [ ] ] ],
  none_twice_more ys x h.1 (λ i. new (inr i)),
)

-- what stands in a list that is one longer
pub place_more : {A : Type 0} (xs : List A) (x y : A) (k : ℕ) → slice_get (xs ++ x ∷ []) k ≡ Some y
    → (slice_get xs k ≡ Some y) ⊎ ((k ≡ length xs) × (y ≡ x))
place_more [] x y zero h = inr (refl, let one : x ≡ y = cc in sym one)
place_more [] x y (suc k) h = absurd cc
place_more (z ∷ zs) x y zero h = inl h
place_more (z ∷ zs) x y (suc k) h = elim (place_more zs x y k h) [ inl a ↦ inl a | inr b ↦ inr (ap suc b.0, b.1) ]

-- what is read at a place
pub read_at : {A : Type 0} (xs : List A) (i j : ℕ) (value x : A) → i < length xs → j ≡ i
    → value ≡ get_or xs j value → value ≡ x → slice_get xs i ≡ Some x
read_at {A} xs i j value x inside at read is = slice_get-get_or xs i value inside
    ∙ ap (λ (k : ℕ). Some (get_or xs k value)) (sym at) ∙ ap (λ (y : A). Some y) (sym read ∙ is)

pub image_at : {A B : Type 0} (f : A → B) (xs : List A) (i j : ℕ) (x : A) → j ≡ i → i < length xs
    → x ≡ get_or xs j x → slice_get (map f xs) i ≡ Some (f x)
image_at f xs i j x at inside read = slice_get-image f x xs i (read_at xs i j x x inside at read refl)
