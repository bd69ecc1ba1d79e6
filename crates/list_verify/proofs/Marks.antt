-- Marks in a list, one of which is set.
use Rattle.std.proofs.Common.{◌≡◌, ◌⊎◌, inl, inr, ◌↔◌, ℕ, zero, suc, ◌<◌, Bool, true, List, [], ◌∷◌, ◌++◌, length, slice_get, slice_set, Some, refl, sym, ap, ◌∙◌, subst, arith}
use Rattle.theory_addresses.specs.Search.{IsAmong}
use Rattle.theory_addresses.proofs.Ranges.{among-append}

pub set-length : {A : Type 0} (xs : List A) (i : ℕ) (v : A) → length (slice_set xs i v) ≡ length xs
set-length [] i v = refl
set-length (x ∷ xs) zero v = refl
set-length (x ∷ xs) (suc i) v = ap suc (set-length xs i v)

set-same : {A : Type 0} (xs : List A) (i : ℕ) (v : A) → i < length xs → slice_get (slice_set xs i v) i ≡ Some v
set-same [] i v l = absurd (omega arith)
set-same (x ∷ xs) zero v l = refl
set-same (x ∷ xs) (suc i) v l = set-same xs i v (omega arith)

pub set-other : {A : Type 0} (xs : List A) (i j : ℕ) (v : A) → (¬ (j ≡ i)) → slice_get (slice_set xs i v) j ≡ slice_get xs j
set-other [] i j v n = refl
set-other (x ∷ xs) zero zero v n = absurd (n refl)
set-other (x ∷ xs) zero (suc j) v n = refl
set-other (x ∷ xs) (suc i) zero v n = refl
set-other (x ∷ xs) (suc i) (suc j) v n = set-other xs i j v (λ e. absurd (n (ap suc e)))

pub same_or : (i j : ℕ) → (j ≡ i) ⊎ (¬ (j ≡ i))
same_or zero zero = inl refl
same_or zero (suc j) = inr (λ e. absurd (cc e))
same_or (suc i) zero = inr (λ e. absurd (cc e))
same_or (suc i) (suc j) = at (same_or i j)
  where
    at : (j ≡ i) ⊎ (¬ (j ≡ i)) → (suc j ≡ suc i) ⊎ (¬ (suc j ≡ suc i))
    at (inl e) = inl (ap suc e)
    at (inr n) = inr (λ e. absurd (n (less e)))
      where
        less : suc j ≡ suc i → j ≡ i
        less e = omega arith

among-left : (j : ℕ) (xs ys : List ℕ) → IsAmong j xs → IsAmong j (xs ++ ys)
among-left j [] ys i = elim i [ ]
among-left j (x ∷ xs) ys (inl e) = inl e
among-left j (x ∷ xs) ys (inr i) = inr (among-left j xs ys i)

among-right : (j : ℕ) (xs ys : List ℕ) → IsAmong j ys → IsAmong j (xs ++ ys)
among-right j [] ys i = i
among-right j (x ∷ xs) ys i = inr (among-right j xs ys i)

-- marks of these numbers, and of one more
pub marked-more : (marks : List Bool) (numbers : List ℕ) (i : ℕ) → i < length marks → ((j : ℕ) → (slice_get marks j ≡ Some true) ↔ IsAmong j numbers)
    → (j : ℕ) → (slice_get (slice_set marks i true) j ≡ Some true) ↔ IsAmong j (numbers ++ i ∷ [])
marked-more marks numbers i l h j = at (same_or i j)
  where
    at : (j ≡ i) ⊎ (¬ (j ≡ i)) → (slice_get (slice_set marks i true) j ≡ Some true) ↔ IsAmong j (numbers ++ i ∷ [])
    at (inl e) = (
      λ m. among-right j numbers (i ∷ []) (inl e),
      λ a. subst (λ k. slice_get (slice_set marks i true) k ≡ Some true) (sym e) (set-same marks i true l),
    )
    at (inr n) = (
      λ m. among-left j numbers (i ∷ []) ((h j).0 (sym (set-other marks i j true n) ∙ m)),
      λ a. set-other marks i j true n ∙ (h j).1 (only (among-append j numbers (i ∷ []) a)),
    )
      where
        only : IsAmong j numbers ⊎ IsAmong j (i ∷ []) → IsAmong j numbers
        only (inl k) = k
        only (inr (inl e)) = absurd (n e)
        only (inr (inr k)) = elim k [ ]
