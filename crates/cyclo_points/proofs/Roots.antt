-- Square roots rounded down, and b √m rounded down by its signed square.
use Rattle.std.specs.Prelude.{nat_le}
use Rattle.std.proofs.Common.{◌≡◌, ℕ, zero, suc, ◌*◌, ◌<◌, ◌≤◌, Bool, true, false, ℤ, pos, negsuc, neg_ℤ, ◌+ℤ◌, ◌*ℤ◌, ◌<ℤ◌, ◌≤ℤ◌, refl, ap, subst, arith}
use Rattle.std.proofs.lemmas.Bool.{leb-false, leb-true}
use Rattle.std.proofs.lemmas.Int.{ints}
use Rattle.std.proofs.lemmas.Nat.{mul-le}
use Rattle.theory_ring.specs.Ring.{integers}
use Rattle.theory_ring.specs.Squares.{NoRoot}
use Rattle.theory_ring.proofs.Integers.{integers_laws}
use Rattle.theory_ring.proofs.Normaliser.{neg, solve, ◌⊗◌}
use Rattle.cyclo_points.specs.Thousandths.{root_up_to, whole_root, floor_root}
use Rattle.cyclo_points.proofs.Witnesses.{signed_square}

-- ---- the root of a number
root-at_most : (k n : ℕ) → root_up_to k n * root_up_to k n ≤ n
root-at_most zero n = omega arith
root-at_most (suc k) n = at_test (root-at_most k n) (nat_le (suc k * suc k) n) refl
  where
    at_test : root_up_to k n * root_up_to k n ≤ n → (b : Bool) → nat_le (suc k * suc k) n ≡ b → root_up_to (suc k) n * root_up_to (suc k) n ≤ n
    at_test rest true e = rw e (leb-true (suc k * suc k) n e)
    at_test rest false e = rw e rest

root-above : (k n j : ℕ) → j ≤ k → j * j ≤ n → j ≤ root_up_to k n
root-above zero n j h g = omega arith
root-above (suc k) n j h g = at_test (λ l. root-above k n j l g) (nat_le (suc k * suc k) n) refl
  where
    below : n < suc k * suc k → j ≤ k
    below l = by_test (nat_le j k) refl
      where
        by_test : (b : Bool) → nat_le j k ≡ b → j ≤ k
        by_test true e = leb-true j k e
        by_test false e =
            let same : j ≡ suc k = (let m = leb-false j k e in omega arith) in
            let square : j * j ≡ suc k * suc k = ap (λ x. x * x) same in
            absurd (omega arith)

    at_test : (j ≤ k → j ≤ root_up_to k n) → (b : Bool) → nat_le (suc k * suc k) n ≡ b → j ≤ root_up_to (suc k) n
    at_test rest true e = rw e h
    at_test rest false e = rw e (rest (below (leb-false (suc k * suc k) n e)))

pub whole_root-at_most : (n : ℕ) → whole_root n * whole_root n ≤ n
unfolding whole_root
whole_root-at_most n = root-at_most n n

pub whole_root-next : (n : ℕ) → n < suc (whole_root n) * suc (whole_root n)
unfolding whole_root
whole_root-next n = at_test (root_up_to n n) (root-above n n (suc (root_up_to n n))) (nat_le (suc (root_up_to n n) * suc (root_up_to n n)) n) refl
  where
    at_test : (r : ℕ) → (suc r ≤ n → suc r * suc r ≤ n → suc r ≤ r) → (b : Bool) → nat_le (suc r * suc r) n ≡ b → n < suc r * suc r
    at_test r above true e =
        let g : suc r * suc r ≤ n = leb-true (suc r * suc r) n e in
        let k : suc r ≤ r = above (omega arith) g in
        absurd (omega arith)
    at_test r above false e = leb-false (suc r * suc r) n e

-- ---- b √m, rounded down: its signed square is at most that of b √m, and that of the next number is above
pub times-neg : (m y : ℤ) → m *ℤ neg_ℤ y ≡ neg_ℤ (m *ℤ y)
times-neg = solve integers integers_laws 2 (λ m y. (m ⊗ neg y, neg (m ⊗ y))) refl

up-at_most : (m n r : ℕ) → r * r ≤ m * (n * n) → signed_square (pos r) ≤ℤ (pos m *ℤ signed_square (pos n))
up-at_most m n r h = omega (arith, ints)

down-at_most : (m n r : ℕ) → m * (suc n * suc n) < suc r * suc r → signed_square (negsuc r) ≤ℤ (pos m *ℤ signed_square (negsuc n))
down-at_most m n r h = let e = times-neg (pos m) (pos (suc n * suc n)) in omega (arith, ints)

pub floor_root-at_most : (m : ℕ) (b : ℤ) → signed_square (floor_root m b) ≤ℤ (pos m *ℤ signed_square b)
floor_root-at_most m (pos n) = up-at_most m n (whole_root (m * (n * n))) (whole_root-at_most (m * (n * n)))
floor_root-at_most m (negsuc n) = down-at_most m n (whole_root (m * (suc n * suc n))) (whole_root-next (m * (suc n * suc n)))

up-next : (m n r : ℕ) → m * (n * n) < suc r * suc r → (pos m *ℤ signed_square (pos n)) <ℤ signed_square (pos r +ℤ pos 1)
up-next m n r h = omega (arith, ints)

down-next : (m n r : ℕ) → r * r < m * (suc n * suc n) → (pos m *ℤ signed_square (negsuc n)) <ℤ signed_square (negsuc r +ℤ pos 1)
down-next m n zero h = let e = times-neg (pos m) (pos (suc n * suc n)) in omega (arith, ints)
down-next m n (suc r) h = subst (λ x. (pos m *ℤ signed_square (negsuc n)) <ℤ signed_square x) (one_more r) (at_next m n r h)
  where
    one_more : (r : ℕ) → negsuc r ≡ negsuc (suc r) +ℤ pos 1
    one_more r = omega (arith, ints)

    at_next : (m n r : ℕ) → suc r * suc r < m * (suc n * suc n) → (pos m *ℤ signed_square (negsuc n)) <ℤ signed_square (negsuc r)
    at_next m n r h = let e = times-neg (pos m) (pos (suc n * suc n)) in omega (arith, ints)

not_exact : (m n r : ℕ) → NoRoot (pos m) → r * r ≡ m * (suc n * suc n) → ⊥
not_exact m n r no_root e =
    let z : pos (suc n) ≡ pos 0 = (no_root (pos r) (pos (suc n)) (ap (λ x. pos x) e)).1 in
    absurd (omega (arith, ints))

pub floor_root-next : (m : ℕ) → NoRoot (pos m) → (b : ℤ) → (pos m *ℤ signed_square b) <ℤ signed_square (floor_root m b +ℤ pos 1)
floor_root-next m no_root (pos n) = up-next m n (whole_root (m * (n * n))) (whole_root-next (m * (n * n)))
floor_root-next m no_root (negsuc n) = down-next m n (whole_root (m * (suc n * suc n)))
    (strict (whole_root (m * (suc n * suc n))) (whole_root-at_most (m * (suc n * suc n))))
  where
    strict : (r : ℕ) → r * r ≤ m * (suc n * suc n) → r * r < m * (suc n * suc n)
    strict r h = by_test (nat_le (m * (suc n * suc n)) (r * r)) refl
      where
        by_test : (b : Bool) → nat_le (m * (suc n * suc n)) (r * r) ≡ b → r * r < m * (suc n * suc n)
        by_test true e = let l = leb-true (m * (suc n * suc n)) (r * r) e in absurd (not_exact m n r no_root (omega arith))
        by_test false e = leb-false (m * (suc n * suc n)) (r * r) e

-- ---- the signed square rises, and changes its sign with its number
pub signed_square-rises : (u v : ℤ) → u ≤ℤ v → signed_square u ≤ℤ signed_square v
signed_square-rises (pos a) (pos b) h = let l : a ≤ b = omega (arith, ints) in let g = mul-le a a b b l l in omega (arith, ints)
signed_square-rises (pos a) (negsuc b) h = absurd (omega (arith, ints))
signed_square-rises (negsuc a) (pos b) h = omega (arith, ints)
signed_square-rises (negsuc a) (negsuc b) h = let l : suc b ≤ suc a = omega (arith, ints) in let g = mul-le
    (suc b) (suc b) (suc a) (suc a) l l in omega (arith, ints)

pub signed_square-neg : (u : ℤ) → signed_square (neg_ℤ u) ≡ neg_ℤ (signed_square u)
signed_square-neg (pos zero) = refl
signed_square-neg (pos (suc n)) = omega (arith, ints)
signed_square-neg (negsuc n) = omega (arith, ints)
