-- Rings with a sign, and the three of them in which coordinates lie: Z, Z[√2] and Z[φ].
use Rattle.std.specs.Prelude.{◌≡◌, ℤ, pos, neg_ℤ, ◌+ℤ◌, ◌*ℤ◌, ◌<ℤ◌, Bool, false, cond, not, ◌&&◌, ◌||◌, int_lt, int_le}
use Rattle.std.specs.Ordering.{is_gt, is_lt, int_eq, int_cmp, ordering_reverse}
use Rattle.std.specs.declared.cmp.Ordering.{Ordering}
use Rattle.std.specs.declared.cmp.Ordering.TheVariants.{Less, Equal, Greater}
use Rattle.theory_ring.specs.Ring.{Ops, difference, integers}
use Rattle.theory_ring.specs.Surd.{Pair, root_two, golden}

-- operations, and the order of each number and 0
pub record Signed : Type 1 where
  pub ops : Ops
  pub sign : ops.carrier → Ordering

-- 0 < r
abbrev pub IsPositive : (S : Signed) → S.ops.carrier → Type 0
IsPositive S r = S.sign r ≡ Greater

-- 0 ≤ r
abbrev pub IsNonNegative : (S : Signed) → S.ops.carrier → Type 0
IsNonNegative S r = is_lt (S.sign r) ≡ false

-- r < s
abbrev pub less : (S : Signed) → S.ops.carrier → S.ops.carrier → Bool
less S r s = is_gt (S.sign (difference S.ops s r))

-- r ≤ s
abbrev pub at_most : (S : Signed) → S.ops.carrier → S.ops.carrier → Bool
at_most S r s = not (less S s r)

-- x < y: the difference y - x is positive
abbrev pub IsBelow : (S : Signed) → S.ops.carrier → S.ops.carrier → Type 0
IsBelow S x y = IsPositive S (difference S.ops y x)

-- x ≤ y
abbrev pub IsAtMost : (S : Signed) → S.ops.carrier → S.ops.carrier → Type 0
IsAtMost S x y = ¬ IsBelow S y x

-- y is below some whole multiple of x
abbrev pub Passes : (S : Signed) → S.ops.carrier → S.ops.carrier → Type 0
Passes S x y = (k : ℤ) × (pos 0 <ℤ k) × IsBelow S y (S.ops.mul (S.ops.int k) x)

-- The laws of the sign in an ordered ring, in which the multiples of a positive number exceed every number
-- (Archimedes). That exactly one of positive, zero and negative holds is the sign's type.
pub record OrderLaws (S : Signed) : Type 0 where
  pub zero_equal : S.sign (S.ops.int (pos 0)) ≡ Equal
  pub one_greater : IsPositive S (S.ops.int (pos 1))
  pub equal_zero : (x : S.ops.carrier) → S.sign x ≡ Equal → x ≡ S.ops.int (pos 0)
  pub sign-neg : (x : S.ops.carrier) → S.sign (S.ops.neg x) ≡ ordering_reverse (S.sign x)
  pub sign-add : (x y : S.ops.carrier) → IsPositive S x → IsPositive S y → IsPositive S (S.ops.add x y)
  pub sign-mul : (x y : S.ops.carrier) → IsPositive S x → IsPositive S y → IsPositive S (S.ops.mul x y)
  pub passes : (x y : S.ops.carrier) → IsPositive S x → Passes S x y

-- whether u + v√m is positive: u and v are at least 0 and not both 0; or u > 0 > v and u² > m v²;
-- or v > 0 > u and m v² > u²
abbrev pub surd_positive : ℤ → ℤ → ℤ → Bool
surd_positive m u v =
    int_le (pos 0) u && int_le (pos 0) v && not (int_eq u (pos 0) && int_eq v (pos 0))
    || int_lt (pos 0) u && int_lt v (pos 0) && int_lt (m *ℤ (v *ℤ v)) (u *ℤ u)
    || int_lt (pos 0) v && int_lt u (pos 0) && int_lt (u *ℤ u) (m *ℤ (v *ℤ v))

-- the order of u + v√m and 0
abbrev pub surd_sign : ℤ → ℤ → ℤ → Ordering
surd_sign m u v = cond (surd_positive m u v) Greater (cond (surd_positive m (neg_ℤ u) (neg_ℤ v)) Less Equal)

-- Z
abbrev pub signed_integers : Signed
signed_integers = record { ops = integers; sign = λ (n : ℤ). int_cmp n (pos 0) }

-- Z[√2]
abbrev pub signed_root_two : Signed
signed_root_two = record { ops = root_two integers; sign = λ (r : Pair ℤ). surd_sign (pos 2) r.a r.b }

-- Z[φ]: twice a + bφ is (2a + b) + b√5
abbrev pub signed_golden : Signed
signed_golden = record {
  ops = golden integers;
  sign = λ (r : Pair ℤ). surd_sign (pos 5) (pos 2 *ℤ r.a +ℤ r.b) r.b;
}
