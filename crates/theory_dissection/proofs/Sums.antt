-- Sums over lists and ranges: their laws, two sums exchanged, what cancels in pairs, and filters.
use Rattle.std.proofs.Common.{◌≡◌, inl, inr, ℕ, zero, suc, ◌+◌, ◌<◌, ℤ, pos, ◌+ℤ◌, neg_ℤ, Bool, true, false, not, cond, List, [], ◌∷◌, ◌++◌, length, map, get_or, nat_eq, refl, sym, ap, ap₂, ◌∙◌, arith}
use Rattle.std.specs.List.{flat_map, filter, enumerate_from, AllByRecursion}
use Rattle.std.proofs.lemmas.Int.{ints}
use Rattle.std.proofs.lemmas.Bool.{cases_lt, eq-eqb, ne_eqb}
use Rattle.theory_addresses.specs.Search.{IsAmong, below}
use Rattle.theory_addresses.proofs.Filters.{AreApart, others_taken, others-length}
use Rattle.theory_dissection.specs.Sums.{sum_over, sum_below}

pub zero_plus : (x : ℤ) → pos 0 +ℤ x ≡ x
zero_plus x = omega (arith, ints)

pub plus_zero : (x : ℤ) → x +ℤ pos 0 ≡ x
plus_zero x = omega (arith, ints)

pub regroup : (x y z : ℤ) → x +ℤ (y +ℤ z) ≡ (x +ℤ y) +ℤ z
regroup x y z = omega (arith, ints)

swapped : (x y : ℤ) → x +ℤ y ≡ y +ℤ x
swapped x y = omega (arith, ints)

four : (a b c d : ℤ) → (a +ℤ b) +ℤ (c +ℤ d) ≡ (a +ℤ c) +ℤ (b +ℤ d)
four a b c d = omega (arith, ints)

neg_sum : (x y : ℤ) → neg_ℤ x +ℤ neg_ℤ y ≡ neg_ℤ (x +ℤ y)
neg_sum x y = omega (arith, ints)

pub own_negative : (x : ℤ) → x ≡ neg_ℤ x → x ≡ pos 0
own_negative x e = omega (arith, ints)

twice_negative : (x y : ℤ) → y ≡ neg_ℤ x → x ≡ neg_ℤ y
twice_negative x y e = omega (arith, ints)

pub sum-ext : {A : Type 0} (f g : A → ℤ) (xs : List A) → ((x : A) → f x ≡ g x) → sum_over f xs ≡ sum_over g xs
sum-ext f g [] h = refl
sum-ext f g (x ∷ xs) h = ap₂ (λ u v. u +ℤ v) (h x) (sum-ext f g xs h)

pub sum-ext_on : {A : Type 0} (f g : A → ℤ) (xs : List A) → ((x : A) → IsAmong x xs → f x ≡ g x) → sum_over f xs ≡ sum_over g xs
sum-ext_on f g [] h = refl
sum-ext_on f g (x ∷ xs) h = ap₂ (λ u v. u +ℤ v) (h x (inl refl)) (sum-ext_on f g xs (λ y i. h y (inr i)))

pub sum-append : {A : Type 0} (f : A → ℤ) (xs ys : List A) → sum_over f (xs ++ ys) ≡ sum_over f xs +ℤ sum_over f ys
sum-append f [] ys = sym (zero_plus (sum_over f ys))
sum-append f (x ∷ xs) ys = ap (λ u. f x +ℤ u) (sum-append f xs ys) ∙ regroup (f x) (sum_over f xs) (sum_over f ys)

pub sum-flat_map : {A B : Type 0} (f : B → ℤ) (g : A → List B) (xs : List A) → sum_over f (flat_map g xs) ≡ sum_over (λ x. sum_over f (g x)) xs
sum-flat_map f g [] = refl
sum-flat_map f g (x ∷ xs) = sum-append f (g x) (flat_map g xs) ∙ ap (λ u. sum_over f (g x) +ℤ u) (sum-flat_map f g xs)

pub sum-map : {A B : Type 0} (f : B → ℤ) (g : A → B) (xs : List A) → sum_over f (map g xs) ≡ sum_over (λ x. f (g x)) xs
sum-map f g [] = refl
sum-map f g (x ∷ xs) = ap (λ u. f (g x) +ℤ u) (sum-map f g xs)

sum-add : {A : Type 0} (f g : A → ℤ) (xs : List A) → sum_over (λ x. f x +ℤ g x) xs ≡ sum_over f xs +ℤ sum_over g xs
sum-add f g [] = refl
sum-add f g (x ∷ xs) = ap (λ u. (f x +ℤ g x) +ℤ u) (sum-add f g xs) ∙ four (f x) (g x) (sum_over f xs) (sum_over g xs)

-- a sum of negatives is the negative of the sum
pub sum-neg : {A : Type 0} (f : A → ℤ) (xs : List A) → sum_over (λ x. neg_ℤ (f x)) xs ≡ neg_ℤ (sum_over f xs)
sum-neg f [] = refl
sum-neg f (x ∷ xs) = ap (λ u. neg_ℤ (f x) +ℤ u) (sum-neg f xs) ∙ neg_sum (f x) (sum_over f xs)

sum-zero : {A : Type 0} (xs : List A) → sum_over (λ x. pos 0) xs ≡ pos 0
sum-zero [] = refl
sum-zero (x ∷ xs) = ap (λ u. pos 0 +ℤ u) (sum-zero xs)

-- two sums exchanged
pub sum-swap : {A B : Type 0} (g : A → B → ℤ) (xs : List A) (ys : List B)
    → sum_over (λ x. sum_over (g x) ys) xs ≡ sum_over (λ y. sum_over (λ x. g x y) xs) ys
sum-swap g [] ys = sym (sum-zero ys)
sum-swap g (x ∷ xs) ys =
    ap (λ u. sum_over (g x) ys +ℤ u) (sum-swap g xs ys) ∙ sym (sum-add (g x) (λ y. sum_over (λ z. g z y) xs) ys)

pub sum-both : {A : Type 0} (f g : A → ℤ) (xs : List A) → sum_over (λ x. f x +ℤ g x) xs ≡ sum_over f xs +ℤ sum_over g xs
sum-both f g xs = sum-add f g xs

-- over what passes a test
pub sum-filter : {A : Type 0} (t : A → Bool) (f : A → ℤ) (xs : List A) → sum_over (λ x. cond (t x) (f x) (pos 0)) xs ≡ sum_over f (filter t xs)
sum-filter t f [] = refl
sum-filter {A} t f (x ∷ xs) = at_test (t x) (sum-filter t f xs)
  where
    at_test : (b : Bool) → sum_over (λ x. cond (t x) (f x) (pos 0)) xs ≡ sum_over f (filter t xs)
        → cond b (f x) (pos 0) +ℤ sum_over (λ x. cond (t x) (f x) (pos 0)) xs ≡ sum_over f (cond b (x ∷ filter t xs) (filter t xs))
    at_test true e = ap (λ u. f x +ℤ u) e
    at_test false e = zero_plus _ ∙ e

-- what passes, and what doesn't
sum-split : {A : Type 0} (t : A → Bool) (f : A → ℤ) (xs : List A)
    → sum_over f xs ≡ sum_over f (filter t xs) +ℤ sum_over f (filter (λ x. not (t x)) xs)
sum-split t f [] = refl
sum-split {A} t f (x ∷ xs) = at_test (t x) (sum-split t f xs)
  where
    left : (a b c d : ℤ) → b ≡ c +ℤ d → a +ℤ b ≡ (a +ℤ c) +ℤ d
    left a b c d e = omega (arith, ints)

    right : (a b c d : ℤ) → b ≡ c +ℤ d → a +ℤ b ≡ c +ℤ (a +ℤ d)
    right a b c d e = omega (arith, ints)

    at_test : (b : Bool) → sum_over f xs ≡ sum_over f (filter t xs) +ℤ sum_over f (filter (λ x. not (t x)) xs)
        → f x +ℤ sum_over f xs ≡ sum_over f (cond b (x ∷ filter t xs) (filter t xs)) +ℤ sum_over f
        (cond (not b) (x ∷ filter (λ x. not (t x)) xs) (filter (λ x. not (t x)) xs))
    at_test true e = left (f x) _ _ _ e
    at_test false e = right (f x) _ _ _ e

no_terms : {A : Type 0} (f : A → ℤ) (xs : List A) → length xs ≡ 0 → sum_over f xs ≡ pos 0
no_terms f [] e = refl
no_terms f (x ∷ xs) e = absurd (omega arith)

-- elements each of which alone passes a test of its own, apart from the others, have the list's sum where they are as many
pub sum-taken : {A : Type 0} (t : A → A → Bool) (f : A → ℤ) (ss xs : List A) → AllByRecursion (λ s. filter (t s) xs ≡ s ∷ []) ss → AreApart t ss
    → length xs ≡ length ss → sum_over f xs ≡ sum_over f ss
sum-taken t f [] xs h apart e = no_terms f xs e
sum-taken {A} t f (s ∷ ss) xs h apart e =
    sum-split (t s) f xs ∙ ap₂ (λ u v. u +ℤ v) (ap (λ (l : List A). sum_over f l) h.0 ∙ plus_zero (f s))
    (sum-taken t f ss others (others_taken t s ss xs h.1 apart) apart.1 (others-length t s ss xs h.0 e))
  where
    others : List A
    others = filter (λ y. not (t s y)) xs

-- ---- ranges
pub sum-below_list : {A : Type 0} (f : A → ℤ) (g : ℕ → A) (n : ℕ) → sum_over f (below g n) ≡ sum_below (λ i. f (g i)) n
sum-below_list f g zero = refl
sum-below_list f g (suc n) = sum-append f (below g n) (g n ∷ []) ∙ ap₂ (λ u v. u +ℤ v) (sum-below_list f g n) (plus_zero (f (g n)))

pub sum_below-ext : (f g : ℕ → ℤ) (n : ℕ) → ((i : ℕ) → i < n → f i ≡ g i) → sum_below f n ≡ sum_below g n
sum_below-ext f g zero h = refl
sum_below-ext f g (suc n) h = ap₂ (λ u v. u +ℤ v) (sum_below-ext f g n (λ i r. h i (omega arith))) (h n (omega arith))

pub sum_below-front : (f : ℕ → ℤ) (n : ℕ) → sum_below f (suc n) ≡ f 0 +ℤ sum_below (λ i. f (suc i)) n
sum_below-front f zero = swapped (pos 0) (f 0)
sum_below-front f (suc n) = ap (λ u. u +ℤ f (suc n)) (sum_below-front f n) ∙ sym (regroup (f 0) (sum_below (λ i. f (suc i)) n) (f (suc n)))

pub sum-places : {A : Type 0} (f : A → ℤ) (xs : List A) (d : A) → sum_over f xs ≡ sum_below (λ i. f (get_or xs i d)) (length xs)
sum-places f [] d = refl
sum-places f (x ∷ xs) d = ap (λ u. f x +ℤ u) (sum-places f xs d) ∙ sym (sum_below-front (λ i. f (get_or (x ∷ xs) i d)) (length xs))

pub sum-enumerated : {A : Type 0} (f : A → ℤ) (n : ℕ) (xs : List A) → sum_over (λ c. f c.1) (enumerate_from n xs) ≡ sum_over f xs
sum-enumerated f n [] = refl
sum-enumerated f n (x ∷ xs) = ap (λ u. f x +ℤ u) (sum-enumerated f (n + 1) xs)

-- a value that stands at one number below n
pub sum_below-none : (v : ℤ) (e n : ℕ) → ((i : ℕ) → i < n → nat_eq i e ≡ false) → sum_below (λ i. cond (nat_eq i e) v (pos 0)) n ≡ pos 0
sum_below-none v e zero h = refl
sum_below-none v e (suc n) h = ap₂ (λ u b. u +ℤ cond b v (pos 0)) (sum_below-none v e n (λ i r. h i (omega arith))) (h n (omega arith))

pub sum_below-once : (v : ℤ) (e n : ℕ) → e < n → sum_below (λ i. cond (nat_eq i e) v (pos 0)) n ≡ v
sum_below-once v e zero h = absurd (omega arith)
sum_below-once v e (suc n) h = elim (cases_lt e n) [
  | inl lt ↦ ap₂ (λ u b. u +ℤ cond b v (pos 0)) (sum_below-once v e n lt) (ne_eqb n e (λ s. absurd (omega arith))) ∙ plus_zero v
  | inr ge ↦ ap₂ (λ u b. u +ℤ cond b v (pos 0))
      (sum_below-none v e n (λ i r. ne_eqb i e (λ s. absurd (omega arith)))) (eq-eqb n e (omega arith))
      ∙ zero_plus v
]

-- ---- over the pairs that meet, a value that the other has negative
module _ {A : Type 0} (f : A → ℤ) (meets : A → A → Bool)
    (turned : (x y : A) → meets x y ≡ true → f y ≡ neg_ℤ (f x)) (both : (x y : A) → meets x y ≡ meets y x)
  where
    abbrev pub cell : A → A → ℤ
    cell x y = cond (meets x y) (f x) (pos 0)

    cell-turned : (x y : A) → cell x y ≡ neg_ℤ (cell y x)
    cell-turned x y = at_test (meets x y) refl ∙ ap (λ b. neg_ℤ (cond b (f y) (pos 0))) (both x y)
      where
        at_test : (b : Bool) → meets x y ≡ b → cond b (f x) (pos 0) ≡ neg_ℤ (cond b (f y) (pos 0))
        at_test true e = twice_negative (f x) (f y) (turned x y e)
        at_test false e = refl

    pub pairs_cancel : (xs : List A) → sum_over (λ x. sum_over (cell x) xs) xs ≡ pos 0
    pairs_cancel xs =
        own_negative _ (sum-ext _ _ xs (λ x. sum-ext _ _ xs (cell-turned x) ∙ sum-neg (λ y. cell y x) xs)
        ∙ sum-neg (λ x. sum_over (λ y. cell y x) xs) xs
        ∙ ap neg_ℤ (sum-swap (λ x y. cell y x) xs xs))
