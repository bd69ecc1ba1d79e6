-- One item more of an array that is filled from the front, and items that are changed in place.
use Rattle.std.proofs.Common.{◌≡◌, ℕ, ◌+◌, ◌<◌, ◌≤◌, List, length, get_or, slice_set, inl, inr, sym, ◌∙◌, subst, arith}
use Rattle.std.proofs.lemmas.Bool.{cases_lt}
use Rattle.std.proofs.lemmas.List.{get_or-set_same, get_or-set_other}

-- each item so far is right, and so is the one that is put
pub item_more : {A : Type 0} (d : A) (Q : ℕ → A → Type 0) (xs : List A) (i : ℕ) (y : A) → i < length xs
    → ((j : ℕ) → j < i → Q j (get_or xs j d)) → Q i y
    → (j : ℕ) → j < i + 1 → Q j (get_or (slice_set xs i y) j d)
item_more d Q xs i y inside before last j below = elim (cases_lt j i) [
  | inl h ↦ subst (Q j) (sym (get_or-set_other xs i j y d (λ e. absurd (omega (arith, h, e))))) (before j h)
  | inr h ↦ let same : j ≡ i = omega (arith, h, below) in
      subst (λ n. Q n (get_or (slice_set xs i y) n d)) (sym same) (subst (Q i) (sym (get_or-set_same xs i y d inside)) last)
]

-- the same of two arrays
pub items_more : {A B : Type 0} (d : A) (e : B) (Q : ℕ → A → B → Type 0) (xs : List A) (ys : List B) (i : ℕ)
    (x : A) (y : B) → i < length xs → i < length ys
    → ((j : ℕ) → j < i → Q j (get_or xs j d) (get_or ys j e)) → Q i x y → (j : ℕ) → j < i + 1
    → Q j (get_or (slice_set xs i x) j d) (get_or (slice_set ys i y) j e)
items_more d e Q xs ys i x y in_xs in_ys before last j below = elim (cases_lt j i) [
  | inl h ↦ subst (Q j (get_or (slice_set xs i x) j d)) (sym (get_or-set_other ys i j y e (λ s. absurd (omega (arith, h, s)))))
      (subst (λ a. Q j a (get_or ys j e)) (sym (get_or-set_other xs i j x d (λ s. absurd (omega (arith, h, s))))) (before j h))
  | inr h ↦ let same : j ≡ i = omega (arith, h, below) in
      subst (λ n. Q n (get_or (slice_set xs i x) n d) (get_or (slice_set ys i y) n e)) (sym same)
      (subst (Q i (get_or (slice_set xs i x) i d)) (sym (get_or-set_same ys i y e in_ys))
      (subst (λ a. Q i a y) (sym (get_or-set_same xs i x d in_xs)) last))
]

-- the items from there on are as they were
pub rest_more : {A : Type 0} (d : A) (xs old : List A) (i : ℕ) (y : A) → ((j : ℕ) → i ≤ j → get_or xs j d ≡ get_or old j d)
    → (j : ℕ) → i + 1 ≤ j → get_or (slice_set xs i y) j d ≡ get_or old j d
rest_more d xs old i y same j above =
    get_or-set_other xs i j y d (λ s. absurd (omega (arith, above, s))) ∙ same j (omega (arith, above))
