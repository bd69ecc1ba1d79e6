-- Sums of values that cancel in pairs.
use Rattle.std.proofs.Common.{◌≡◌, ◌⊎◌, inl, inr, ℕ, zero, suc, ℤ, pos, ◌+ℤ◌, neg_ℤ, Bool, true, false, cond, List, [], ◌∷◌, refl, sym, ap, ◌∙◌}
use Rattle.std.specs.List.{AllByRecursion}
use Rattle.theory_addresses.proofs.Lists.{AllByRecursion-among}
use Rattle.theory_dissection.specs.Sums.{sum_over, number_of}
use Rattle.theory_dissection.proofs.Sums.{zero_plus, plus_zero, sum-ext_on, pairs_cancel}

-- v added n times
abbrev times : ℤ → ℕ → ℤ
times v zero = pos 0
times v (suc n) = v +ℤ times v n

-- v for each that passes a test
sum-test : {A : Type 0} (t : A → Bool) (v : ℤ) (xs : List A) → sum_over (λ x. cond (t x) v (pos 0)) xs ≡ times v (number_of t xs)
sum-test t v [] = refl
sum-test t v (x ∷ xs) = at_test (t x) (sum-test t v xs)
  where
    at_test : (b : Bool) → sum_over (λ x. cond (t x) v (pos 0)) xs ≡ times v (number_of t xs)
        → cond b v (pos 0) +ℤ sum_over (λ x. cond (t x) v (pos 0)) xs ≡ times v (cond b (suc (number_of t xs)) (number_of t xs))
    at_test true e = ap (λ u. v +ℤ u) e
    at_test false e = ap (λ u. pos 0 +ℤ u) e ∙ zero_plus (times v (number_of t xs))

once : (v : ℤ) (n : ℕ) → n ≡ 1 → times v n ≡ v
once v n e = ap (times v) e ∙ plus_zero v

times_zero : (n : ℕ) → times (pos 0) n ≡ pos 0
times_zero zero = refl
times_zero (suc n) = ap (λ u. pos 0 +ℤ u) (times_zero n)

-- a value that the other has negative, where each place has value 0 or just one other: the sum is 0
module _ {A : Type 0} (f : A → ℤ) (meets : A → A → Bool)
    (turned : (x y : A) → meets x y ≡ true → f y ≡ neg_ℤ (f x)) (both : (x y : A) → meets x y ≡ meets y x)
  where
    each_other : (x : A) (xs : List A) → (f x ≡ pos 0) ⊎ (number_of (meets x) xs ≡ 1) → f x ≡ sum_over (λ y. cond (meets x y) (f x) (pos 0)) xs
    each_other x xs (inl e) = e ∙ sym (sum-test (meets x) (f x) xs
        ∙ ap (λ v. times v (number_of (meets x) xs)) e ∙ times_zero (number_of (meets x) xs))
    each_other x xs (inr e) = sym (sum-test (meets x) (f x) xs ∙ once (f x) _ e)

    pub sum-paired : (xs : List A) → AllByRecursion (λ x. (f x ≡ pos 0) ⊎ (number_of (meets x) xs ≡ 1)) xs → sum_over f xs ≡ pos 0
    sum-paired xs h =
        sum-ext_on f _ xs (λ x i. each_other x xs (AllByRecursion-among (λ y. (f y ≡ pos 0) ⊎ (number_of (meets y) xs ≡ 1)) x xs i h))
        ∙ pairs_cancel f meets turned both xs
