-- Sums of zeros and ones of which no two are 1 are 0 or 1; and sums of zeros and ones count the ones.
use Rattle.std.proofs.Common.{◌≡◌, inl, inr, ℕ, zero, suc, ◌+◌, ◌<◌, ℤ, pos, ◌+ℤ◌, cond, int_eq, List, [], ◌∷◌, refl, sym, ap, ap₂, ◌∙◌, subst, arith}
use Rattle.std.proofs.lemmas.Int.{ints}
use Rattle.std.proofs.lemmas.Bool.{cases_lt}
use Rattle.theory_plane.proofs.Triangle.{Good}
use Rattle.theory_addresses.specs.Search.{IsAmong}
use Rattle.theory_dissection.specs.Sums.{sum_over, sum_below, number_of}
use Rattle.theory_dissection.proofs.Sums.{zero_plus, plus_zero}

-- ---- ranges
module _ (g : ℕ → ℤ) where
  zeros : (n : ℕ) → ((i : ℕ) → i < n → g i ≡ pos 0) → sum_below g n ≡ pos 0
  zeros zero h = refl
  zeros (suc n) h = ap₂ (λ u v. u +ℤ v) (zeros n (λ i r. h i (omega arith))) (h n (omega arith))

  at_most : (n : ℕ) → ((i : ℕ) → i < n → Good (g i)) → ((i j : ℕ) → i < j → j < n → g i ≡ pos 1 → g j ≡ pos 1 → ⊥) → Good (sum_below g n)
  at_most zero good apart = inl refl
  at_most (suc n) good apart = at_case (good n (omega arith)) (at_most n (λ i r. good i (omega arith)) (λ i j r s. apart i j r (omega arith)))
    where
      at_case : Good (g n) → Good (sum_below g n) → Good (sum_below g n +ℤ g n)
      at_case (inl e) h = subst Good (sym (ap (λ v. sum_below g n +ℤ v) e ∙ plus_zero (sum_below g n))) h
      at_case (inr e) h = inr (ap₂ (λ u v. u +ℤ v) (zeros n (λ i r. none i r (good i (omega arith)))) e)
        where
          none : (i : ℕ) → i < n → Good (g i) → g i ≡ pos 0
          none i r (inl k) = k
          none i r (inr k) = absurd (apart i n r (omega arith) k e)

  pub sum_below-good : (n : ℕ) → ((i : ℕ) → i < n → Good (g i)) → ((i j : ℕ) → i < j → j < n → g i ≡ pos 1 → g j ≡ pos 1 → ⊥) → Good (sum_below g n)
  sum_below-good = at_most

  -- where one is 1, so is the sum
  pub sum_below-one : (i n : ℕ) → i < n → g i ≡ pos 1 → ((i : ℕ) → i < n → Good (g i))
      → ((i j : ℕ) → i < j → j < n → g i ≡ pos 1 → g j ≡ pos 1 → ⊥) → sum_below g n ≡ pos 1
  sum_below-one i zero r e good apart = absurd (omega arith)
  sum_below-one i (suc n) r e good apart = elim (cases_lt i n) [
    | inl lt ↦ ap₂ (λ u v. u +ℤ v) (sum_below-one i n lt e (λ j s. good j (omega arith))
        (λ j k s t. apart j k s (omega arith))) (last lt (good n (omega arith)))
    | inr ge ↦ let same : i ≡ n = omega arith in ap₂ (λ u v. u +ℤ v) (zeros n (λ j s. none same j s (good j (omega arith)))) (ap g (sym same) ∙ e)
  ]
    where
      last : i < n → Good (g n) → g n ≡ pos 0
      last lt (inl k) = k
      last lt (inr k) = absurd (apart i n lt (omega arith) e k)

      none : i ≡ n → (j : ℕ) → j < n → Good (g j) → g j ≡ pos 0
      none same j s (inl k) = k
      none same j s (inr k) = absurd (apart j i (omega arith) r k e)

  -- where the sum is 1, one of them is 1
  pub one_of_sum : (n : ℕ) → ((i : ℕ) → i < n → Good (g i)) → sum_below g n ≡ pos 1 → (i : ℕ) × (i < n) × (g i ≡ pos 1)
  one_of_sum zero good e = absurd (cc e)
  one_of_sum (suc n) good e = at_case (good n (omega arith)) (one_of_sum n (λ i r. good i (omega arith)))
    where
      at_case : Good (g n) → (sum_below g n ≡ pos 1 → (i : ℕ) × (i < n) × (g i ≡ pos 1)) → (i : ℕ) × (i < suc n) × (g i ≡ pos 1)
      at_case (inr k) rest = (n, omega arith, k)
      at_case (inl k) rest = let below = rest (sym
          (ap (λ v. sum_below g n +ℤ v) k ∙ plus_zero (sum_below g n)) ∙ e) in let r
          = below.1 in (below.0, omega arith, below.2)

-- ---- lists
module _ {A : Type 0} (g : A → ℤ) where
  -- how many are 1
  pub sum-number : (xs : List A) → ((x : A) → IsAmong x xs → Good (g x)) → sum_over g xs ≡ pos (number_of (λ x. int_eq (g x) (pos 1)) xs)
  sum-number [] h = refl
  sum-number (x ∷ xs) h = at_case (h x (inl refl)) (sum-number xs (λ y i. h y (inr i)))
    where
      one_more : (n : ℕ) → pos 1 +ℤ pos n ≡ pos (suc n)
      one_more n = omega (arith, ints)

      at_case : Good (g x) → sum_over g xs ≡ pos (number_of (λ x. int_eq (g x) (pos 1)) xs)
          → g x +ℤ sum_over g xs ≡ pos (cond (int_eq (g x) (pos 1))
          (suc (number_of (λ x. int_eq (g x) (pos 1)) xs)) (number_of (λ x. int_eq (g x) (pos 1)) xs))
      at_case (inl e) k =
          ap (λ a. a +ℤ sum_over g xs) e ∙ zero_plus (sum_over g xs) ∙ k
          ∙ ap (λ a. pos (cond (int_eq a (pos 1)) (suc (number_of (λ x. int_eq (g x) (pos 1)) xs))
          (number_of (λ x. int_eq (g x) (pos 1)) xs))) (sym e)
      at_case (inr e) k =
          ap₂ (λ a b. a +ℤ b) e k ∙ one_more (number_of (λ x. int_eq (g x) (pos 1)) xs)
          ∙ ap (λ a. pos (cond (int_eq a (pos 1)) (suc (number_of (λ x. int_eq (g x) (pos 1)) xs))
          (number_of (λ x. int_eq (g x) (pos 1)) xs))) (sym e)

  AtLeast : ℕ → ℤ → Type 0
  AtLeast n z = (m : ℕ) × (z ≡ pos (n + m))

  nonneg : (xs : List A) → ((x : A) → IsAmong x xs → Good (g x)) → AtLeast 0 (sum_over g xs)
  unfolding AtLeast
  nonneg xs h = (number_of (λ x. int_eq (g x) (pos 1)) xs, sum-number xs h ∙ ap pos (omega arith))

  member_counts : (x : A) (xs : List A) → IsAmong x xs → g x ≡ pos 1 → ((x : A) → IsAmong x xs → Good (g x)) → AtLeast 1 (sum_over g xs)
  unfolding AtLeast
  member_counts x [] i e h = elim i [ ]
  member_counts x (y ∷ ys) (inl same) e h =
      let rest = nonneg ys (λ z i. h z (inr i)) in
      let one : g y ≡ pos 1 = ap g (sym same) ∙ e in
      let below = rest.1 in
      (rest.0, omega (arith, ints))
  member_counts x (y ∷ ys) (inr i) e h = at_case (h y (inl refl)) (member_counts x ys i e (λ z j. h z (inr j)))
    where
      at_case : Good (g y) → AtLeast 1 (sum_over g ys) → AtLeast 1 (g y +ℤ sum_over g ys)
      at_case (inl k) r = let below = r.1 in (r.0, omega (arith, ints))
      at_case (inr k) r = let below = r.1 in (suc r.0, omega (arith, ints))

  too_many : (z : ℤ) → Good z → AtLeast 2 z → ⊥
  unfolding AtLeast
  too_many z (inl e) h = let k = h.1 in omega (arith, ints)
  too_many z (inr e) h = let k = h.1 in omega (arith, ints)

  -- where the sum is 0 or 1, two members that are 1 are one
  pub one_holder : (x y : A) (xs : List A) → IsAmong x xs → IsAmong y xs → g x ≡ pos 1 → g y ≡ pos 1
      → ((x : A) → IsAmong x xs → Good (g x)) → Good (sum_over g xs) → x ≡ y
  unfolding AtLeast
  one_holder x y [] i j e k h good = elim i [ ]
  one_holder x y (z ∷ zs) (inl a) (inl b) e k h good = a ∙ sym b
  one_holder x y (z ∷ zs) (inl a) (inr j) e k h good =
      let rest = member_counts y zs j k (λ u l. h u (inr l)) in
      let one : g z ≡ pos 1 = ap g (sym a) ∙ e in
      let below = rest.1 in
      absurd (too_many (g z +ℤ sum_over g zs) good (rest.0, omega (arith, ints)))
  one_holder x y (z ∷ zs) (inr i) (inl b) e k h good =
      let rest = member_counts x zs i e (λ u l. h u (inr l)) in
      let one : g z ≡ pos 1 = ap g (sym b) ∙ k in
      let below = rest.1 in
      absurd (too_many (g z +ℤ sum_over g zs) good (rest.0, omega (arith, ints)))
  one_holder x y (z ∷ zs) (inr i) (inr j) e k h good = one_holder x y zs i j e k (λ u l. h u (inr l)) (rest (h z (inl refl)) good)
    where
      rest : Good (g z) → Good (g z +ℤ sum_over g zs) → Good (sum_over g zs)
      rest (inl a) b = subst Good (ap (λ u. u +ℤ sum_over g zs) a ∙ zero_plus (sum_over g zs)) b
      rest (inr a) (inl b) = absurd (let m = nonneg zs (λ u l. h u (inr l)) in let c = m.1 in omega (arith, ints))
      rest (inr a) (inr b) = inl (omega (arith, ints))
