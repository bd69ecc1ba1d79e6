-- Tests of each number below a bound and of each element of a list, as loops find them.
use Rattle.std.proofs.Common.{◌≡◌, ℕ, zero, suc, ◌+◌, ◌<◌, ◌≤◌, Bool, true, false, ◌&&◌, ◌||◌, List, length, get_or, take, refl, sym, ap, ap₂, ◌∙◌, subst, arith, add-one, inl, inr}
use Rattle.std.specs.List.{list_any}
use Rattle.std.proofs.lemmas.List.{take_all}
use Rattle.std.proofs.lemmas.List.Folds.{list_any_more}
use Rattle.theory_addresses.specs.Search.{some_below, all_below}
use Rattle.theory_addresses.proofs.Searches.{below_or_at}

pub or_true : (b : Bool) → b || true ≡ true
or_true true = refl
or_true false = refl

-- one number that passes
pub some_below-found : (p : ℕ → Bool) (i n : ℕ) → p i ≡ true → i < n → some_below n p ≡ true
some_below-found p i zero h l = absurd (omega arith)
some_below-found p i (suc n) h l =
    elim (below_or_at i n l) [
      | inl q ↦ ap (λ b. b || p n) (some_below-found p i n h q)
      | inr q ↦ ap (λ b. some_below n p || b) (subst (λ j. p j ≡ true) q h) ∙ or_true (some_below n p)
    ]

-- one number more
pub some_below-more : (p : ℕ → Bool) (n : ℕ) → some_below n p ≡ false → p n ≡ false → some_below (n + 1) p ≡ false
some_below-more p n h k = ap (λ m. some_below m p) (add-one n) ∙ ap (λ b. b || p n) h ∙ k

and_false : (b : Bool) → b && false ≡ false
and_false true = refl
and_false false = refl

-- one number that fails
pub all_below-stop : (p : ℕ → Bool) (i n : ℕ) → p i ≡ false → i < n → false ≡ all_below n p
all_below-stop p i zero h l = absurd (omega arith)
all_below-stop p i (suc n) h l =
    elim (below_or_at i n l) [
      | inl q ↦ sym (ap (λ b. p n && b) (sym (all_below-stop p i n h q)) ∙ and_false (p n))
      | inr q ↦ sym (ap (λ b. b && all_below n p) (subst (λ j. p j ≡ false) q h))
    ]

-- one number more
pub all_below-more : (p : ℕ → Bool) (n : ℕ) → all_below n p ≡ true → p n ≡ true → all_below (n + 1) p ≡ true
all_below-more p n h k = ap (λ m. all_below m p) (add-one n) ∙ ap₂ ◌&&◌ k h

module _ {X : Type 0} (p : X → Bool) (xs : List X) (i : ℕ) where
  -- none of the first i elements passes, nor does the next one; none of all
  pub list_any-step : (d : X) → i < length xs → list_any p (take i xs) ≡ false → p (get_or xs i d) ≡ false → list_any p (take (i + 1) xs) ≡ false
  list_any-step d l h k = list_any_more p xs i d l ∙ ap₂ ◌||◌ h k

  pub list_any-end : length xs ≤ i → list_any p (take i xs) ≡ false → list_any p xs ≡ false
  list_any-end l h = sym (ap (list_any p) (take_all i xs l)) ∙ h
