-- Searches through the numbers below a bound, from 0 upwards, and through the members of a list.
use Rattle.std.specs.Prelude.{◌≡◌, ◌⊎◌, ℕ, zero, suc, Bool, true, false, ◌&&◌, ◌||◌, cond, List, [], ◌∷◌, ◌++◌, Option, Some, None}

-- the fault, if the test fails
abbrev pub unless : {F : Type 0} → Bool → F → Option F
unless true e = None
unless false e = Some e

-- the fault a, or b if there is none
abbrev pub or_else : {F : Type 0} → Option F → Option F → Option F
or_else (Some e) b = Some e
or_else None b = b

-- the first fault of a list
abbrev pub first_some : {F : Type 0} → List (Option F) → Option F
first_some [] = None
first_some (Some e ∷ fs) = Some e
first_some (None ∷ fs) = first_some fs

-- the first of f 0, f 1, .. f (n - 1) that there is
abbrev pub first_below : {F : Type 0} → (ℕ → Option F) → ℕ → Option F
first_below f zero = None
first_below f (suc n) = or_else (first_below f n) (f n)

-- whether a number below n passes
abbrev pub some_below : ℕ → (ℕ → Bool) → Bool
some_below zero p = false
some_below (suc n) p = some_below n p || p n

-- each number below n passes
abbrev pub all_below : ℕ → (ℕ → Bool) → Bool
all_below zero p = true
all_below (suc n) p = p n && all_below n p

-- f 0, f 1, .. f (n - 1)
abbrev pub below : {A : Type 0} → (ℕ → A) → ℕ → List A
below f zero = []
below f (suc n) = below f n ++ f n ∷ []

-- of these those whose numbers pass
abbrev pub chosen_below : {A : Type 0} → (ℕ → Bool) → (ℕ → A) → ℕ → List A
chosen_below p f zero = []
chosen_below p f (suc n) = chosen_below p f n ++ cond (p n) (f n ∷ []) []

-- x is in the list
abbrev pub IsAmong : {A : Type 0} → A → List A → Type 0
IsAmong x [] = ⊥
IsAmong x (y ∷ ys) = (x ≡ y) ⊎ IsAmong x ys
