-- Order on the whole numbers: products, squares, and that 2 and 5 have no rational root.
use Rattle.std.proofs.Common.{◌≡◌, ℕ, zero, suc, ◌+◌, ◌*◌, ◌/◌, ◌%◌, ◌<◌, ◌≤◌, ◌⊎◌, ℤ, pos, negsuc, nat_abs, ◌+ℤ◌, ◌*ℤ◌, ◌-ℤ◌, ◌<ℤ◌, ◌≤ℤ◌, neg_ℤ, refl, sym, ap, ◌∙◌, arith, subst, mul-pos}
use Rattle.std.proofs.lemmas.Int.{ints, by_lt_z}
use Rattle.theory_ring.proofs.Normaliser.{neg, solve, ◌⊕◌, ◌⊖◌, ◌⊗◌}
use Rattle.theory_ring.specs.Ring.{integers}
use Rattle.theory_ring.specs.Squares.{NoRoot}
use Rattle.theory_ring.proofs.Integers.{integers_laws}

pub mul_pos : (a b : ℤ) → pos 0 <ℤ a → pos 0 <ℤ b → pos 0 <ℤ (a *ℤ b)
mul_pos (pos m) (pos n) h k =
    let g : 0 < m = omega (arith, ints) in
    let l : 0 < n = omega (arith, ints) in
    let p : 0 < m * n = mul-pos g l in
    omega (arith, ints)
mul_pos (negsuc m) b h k = absurd (omega (arith, ints))
mul_pos (pos m) (negsuc n) h k = absurd (omega (arith, ints))

pub mul_at_least : (a b : ℤ) → pos 0 ≤ℤ a → pos 0 ≤ℤ b → pos 0 ≤ℤ (a *ℤ b)
mul_at_least (pos m) (pos n) h k = omega (arith, ints)
mul_at_least (negsuc m) b h k = absurd (omega (arith, ints))
mul_at_least (pos m) (negsuc n) h k = absurd (omega (arith, ints))

pub square_at_least : (a : ℤ) → pos 0 ≤ℤ (a *ℤ a)
square_at_least (pos m) = omega (arith, ints)
square_at_least (negsuc m) = omega (arith, ints)

-- what has the greater square decides the sign of the sum
pub dominates : (a b : ℤ) → pos 0 <ℤ a → (b *ℤ b) <ℤ (a *ℤ a) → (pos 0 <ℤ (a +ℤ b)) × (pos 0 <ℤ (a -ℤ b))
dominates a b h k = (
  by_lt_z (pos 0) (a +ℤ b) (λ g. g) (λ g.
      let f : pos 0 ≤ℤ ((neg_ℤ (a +ℤ b)) *ℤ (a -ℤ b)) = mul_at_least (neg_ℤ (a +ℤ b)) (a -ℤ b) (omega (arith, ints)) (omega (arith, ints)) in
      let e : (neg_ℤ (a +ℤ b)) *ℤ (a -ℤ b) ≡ b *ℤ b -ℤ a *ℤ a = product_of a b in
      absurd (omega (arith, ints))),
  by_lt_z (pos 0) (a -ℤ b) (λ g. g) (λ g.
      let f : pos 0 ≤ℤ ((neg_ℤ (a -ℤ b)) *ℤ (a +ℤ b)) = mul_at_least (neg_ℤ (a -ℤ b)) (a +ℤ b) (omega (arith, ints)) (omega (arith, ints)) in
      let e : (neg_ℤ (a -ℤ b)) *ℤ (a +ℤ b) ≡ b *ℤ b -ℤ a *ℤ a = product_by a b in
      absurd (omega (arith, ints))),
)
  where
    product_of : (a b : ℤ) → (neg_ℤ (a +ℤ b)) *ℤ (a -ℤ b) ≡ b *ℤ b -ℤ a *ℤ a
    product_of = solve integers integers_laws 2 (λ a b. (neg (a ⊕ b) ⊗ (a ⊖ b), b ⊗ b ⊖ a ⊗ a)) refl

    product_by : (a b : ℤ) → (neg_ℤ (a -ℤ b)) *ℤ (a +ℤ b) ≡ b *ℤ b -ℤ a *ℤ a
    product_by = solve integers integers_laws 2 (λ a b. (neg (a ⊖ b) ⊗ (a ⊕ b), b ⊗ b ⊖ a ⊗ a)) refl

-- ---- no square is twice a square, or five times one
twice_square : (n p q : ℕ) → p + q ≤ n → p * p ≡ 2 * (q * q) → p ≡ 0
twice_square zero p q h e = omega arith
twice_square (suc n) p q h e = at_rest (p / 2) (p % 2) (omega arith) (omega arith) (twice_square n q (p / 2))
  where
    at_rest : (k r : ℕ) → p ≡ 2 * k + r → r < 2 → (q + k ≤ n → q * q ≡ 2 * (k * k) → q ≡ 0) → p ≡ 0
    at_rest zero zero f l rest = omega arith
    at_rest (suc k) zero f l rest =
        let d : (2 * suc k) * (2 * suc k) ≡ 2 * (q * q) = subst (λ x. x * x ≡ 2 * (q * q)) (f ∙ omega arith) e in
        let z : q ≡ 0 = rest (omega arith) (omega arith) in
        let y : q * q ≡ 0 = ap (λ x. x * x) z in
        absurd (omega arith)
    at_rest k (suc zero) f l rest =
        let d : (2 * k + 1) * (2 * k + 1) ≡ 2 * (q * q) = subst (λ x. x * x ≡ 2 * (q * q)) f e in
        absurd (omega arith)
    at_rest k (suc (suc r)) f l rest = absurd (omega arith)

five_squares : (n p q : ℕ) → p + q ≤ n → p * p ≡ 5 * (q * q) → p ≡ 0
five_squares zero p q h e = omega arith
five_squares (suc n) p q h e = at_rest (p / 5) (p % 5) (omega arith) (omega arith) (five_squares n q (p / 5))
  where
    at_rest : (k r : ℕ) → p ≡ 5 * k + r → r < 5 → (q + k ≤ n → q * q ≡ 5 * (k * k) → q ≡ 0) → p ≡ 0
    at_rest zero zero f l rest = omega arith
    at_rest (suc k) zero f l rest =
        let d : (5 * suc k) * (5 * suc k) ≡ 5 * (q * q) = subst (λ x. x * x ≡ 5 * (q * q)) (f ∙ omega arith) e in
        let z : q ≡ 0 = rest (omega arith) (omega arith) in
        let y : q * q ≡ 0 = ap (λ x. x * x) z in
        absurd (omega arith)
    at_rest k (suc r) f l rest =
        let d : (5 * k + suc r) * (5 * k + suc r) ≡ 5 * (q * q) = subst (λ x. x * x ≡ 5 * (q * q)) f e in
        at_left k r d l
      where
        at_left : (k r : ℕ) → (5 * k + suc r) * (5 * k + suc r) ≡ 5 * (q * q) → suc r < 5 → p ≡ 0
        at_left k zero d l = absurd (omega arith)
        at_left k (suc zero) d l = absurd (omega arith)
        at_left k (suc (suc zero)) d l = absurd (omega arith)
        at_left k (suc (suc (suc zero))) d l = absurd (omega arith)
        at_left k (suc (suc (suc (suc r)))) d l = absurd (omega arith)

abs_square : (u : ℤ) → u *ℤ u ≡ pos (nat_abs u * nat_abs u)
abs_square (pos n) = refl
abs_square (negsuc n) = refl

abs_zero : (u : ℤ) → nat_abs u ≡ 0 → u ≡ pos 0
abs_zero (pos n) e = ap pos e
abs_zero (negsuc n) e = absurd (omega arith)

-- ---- the two ways in which u + v√m is positive, but for no square being m times one: u is positive and outweighs v√m, or v is
pub record Outweighs (m u v : ℤ) : Type 0 where
  pub above : pos 0 <ℤ u
  pub larger : (m *ℤ (v *ℤ v)) <ℤ (u *ℤ u)

pub record Outweighed (m u v : ℤ) : Type 0 where
  pub above : pos 0 <ℤ v
  pub larger : (u *ℤ u) <ℤ (m *ℤ (v *ℤ v))

abbrev pub Above : ℤ → ℤ → ℤ → Type 0
Above m u v = Outweighs m u v ⊎ Outweighed m u v

pub no_root_two : NoRoot (pos 2)
no_root_two u v e =
    let f : nat_abs u * nat_abs u ≡ 2 * (nat_abs v * nat_abs v) = nat_of u v e in
    let z : nat_abs u ≡ 0 = twice_square (nat_abs u + nat_abs v) _ _ (omega arith) f in
    let y : nat_abs u * nat_abs u ≡ 0 = ap (λ x. x * x) z in
    (abs_zero u z, abs_zero v (square_zero (nat_abs v) (omega arith)))
  where
    nat_of : (u v : ℤ) → u *ℤ u ≡ pos 2 *ℤ (v *ℤ v) → nat_abs u * nat_abs u ≡ 2 * (nat_abs v * nat_abs v)
    nat_of u v e =
        let f : pos (nat_abs u * nat_abs u) ≡ pos (2 * (nat_abs v * nat_abs v)) = sym (abs_square u) ∙ e ∙ ap (λ x. pos 2 *ℤ x) (abs_square v) in
        ap nat_abs f

    square_zero : (n : ℕ) → n * n ≡ 0 → n ≡ 0
    square_zero zero e = refl
    square_zero (suc n) e = absurd (omega arith)

pub no_root_five : NoRoot (pos 5)
no_root_five u v e =
    let f : nat_abs u * nat_abs u ≡ 5 * (nat_abs v * nat_abs v) = nat_of u v e in
    let z : nat_abs u ≡ 0 = five_squares (nat_abs u + nat_abs v) _ _ (omega arith) f in
    let y : nat_abs u * nat_abs u ≡ 0 = ap (λ x. x * x) z in
    (abs_zero u z, abs_zero v (square_zero (nat_abs v) (omega arith)))
  where
    nat_of : (u v : ℤ) → u *ℤ u ≡ pos 5 *ℤ (v *ℤ v) → nat_abs u * nat_abs u ≡ 5 * (nat_abs v * nat_abs v)
    nat_of u v e =
        let f : pos (nat_abs u * nat_abs u) ≡ pos (5 * (nat_abs v * nat_abs v)) = sym (abs_square u) ∙ e ∙ ap (λ x. pos 5 *ℤ x) (abs_square v) in
        ap nat_abs f

    square_zero : (n : ℕ) → n * n ≡ 0 → n ≡ 0
    square_zero zero e = refl
    square_zero (suc n) e = absurd (omega arith)

-- ---- the product, generic in m: (us + mvt, ut + vs)
pub norms : (m u v s t : ℤ) → (u *ℤ u -ℤ m *ℤ (v *ℤ v)) *ℤ (s *ℤ s -ℤ m *ℤ (t *ℤ t))
    ≡ (u *ℤ s +ℤ m *ℤ (v *ℤ t)) *ℤ (u *ℤ s +ℤ m *ℤ (v *ℤ t)) -ℤ m *ℤ ((u *ℤ t +ℤ v *ℤ s) *ℤ (u *ℤ t +ℤ v *ℤ s))
norms = solve integers integers_laws 5 (λ m u v s t. (
  (u ⊗ u ⊖ m ⊗ (v ⊗ v)) ⊗ (s ⊗ s ⊖ m ⊗ (t ⊗ t)),
  (u ⊗ s ⊕ m ⊗ (v ⊗ t)) ⊗ (u ⊗ s ⊕ m ⊗ (v ⊗ t)) ⊖ m ⊗ ((u ⊗ t ⊕ v ⊗ s) ⊗ (u ⊗ t ⊕ v ⊗ s)),
)) refl

-- a < b and c < d, none negative
pub product_below : (a b c d : ℤ) → pos 0 ≤ℤ a → a <ℤ b → pos 0 ≤ℤ c → c <ℤ d → (a *ℤ c) <ℤ (b *ℤ d)
product_below a b c d ha hb hc hd =
    let f : pos 0 <ℤ ((b -ℤ a) *ℤ d) = mul_pos (b -ℤ a) d (omega (arith, ints)) (omega (arith, ints)) in
    let g : pos 0 ≤ℤ (a *ℤ (d -ℤ c)) = mul_at_least a (d -ℤ c) ha (omega (arith, ints)) in
    let e : (b -ℤ a) *ℤ d +ℤ a *ℤ (d -ℤ c) ≡ b *ℤ d -ℤ a *ℤ c =
    solve integers integers_laws 4 (λ a b c d. ((b ⊖ a) ⊗ d ⊕ a ⊗ (d ⊖ c), b ⊗ d ⊖ a ⊗ c)) refl a b c d in
    omega (arith, ints)
