-- The whole number made of short parts has the sign of a + bθ.
use Rattle.std.specs.Int.{w64}
use Rattle.std.proofs.Common.{arith, ℤ, ◌≡◌, ◌^◌, pos, neg_ℤ, ◌*ℤ◌, ◌+ℤ◌, int_cmp, refl, ◌∙◌}
use Rattle.std.proofs.lemmas.Int.{ints}
use Rattle.theory_ring.proofs.Ordered.{two_above, five_above}
use Rattle.theory_ring.proofs.Squares.{no_root_two, no_root_five}
use Rattle.cyclo_points.specs.declared.order.Order.{Order}
use Rattle.cyclo_points.specs.declared.order.Order.TheVariants.{Four, Six, Eight, Ten}
use Rattle.cyclo_points.specs.Point.{Within}
use Rattle.cyclo_points.specs.Witness.{witness_in}
use Rattle.cyclo_points.proofs.Reals.{sign_at, reading}
use Rattle.cyclo_points.proofs.Sizes.{within_product}
use Rattle.cyclo_points.proofs.Witnesses.{IsNear, sign-by_near}

-- 54608393² is 2 * 38613965² - 1
near_two : (v : ℤ) → Within (2 ^ 25) v → IsNear (pos 2) (pos 54608393) (pos 38613965) (neg_ℤ (pos 1)) v
near_two v h =
    let g = within_product (2 ^ 25) (2 ^ 25) v v h h in
    record { p_pos = omega (arith, ints); q_pos = omega (arith, ints); square = refl; below = omega (arith, ints); above = omega (arith, ints) }

-- 228826127² is 5 * 102334155² + 4
near_five : (v : ℤ) → Within (2 ^ 25) v → IsNear (pos 5) (pos 228826127) (pos 102334155) (pos 4) v
near_five v h =
    let g = within_product (2 ^ 25) (2 ^ 25) v v h h in
    record { p_pos = omega (arith, ints); q_pos = omega (arith, ints); square = refl; below = omega (arith, ints); above = omega (arith, ints) }

-- with u twice a and b, the sum is twice that of a and b
halved : (a b : ℤ) → int_cmp (pos 102334155 *ℤ (pos 2 *ℤ a +ℤ b) +ℤ pos 228826127 *ℤ b) (pos 0) ≡ int_cmp
    (pos 102334155 *ℤ a +ℤ pos 165580141 *ℤ b) (pos 0)
halved a b = at_sum (pos 102334155 *ℤ (pos 2 *ℤ a +ℤ b) +ℤ pos 228826127 *ℤ b) (pos 102334155 *ℤ a +ℤ pos 165580141 *ℤ b) (omega (arith, ints))
  where
    at_sum : (x y : ℤ) → x ≡ pos 2 *ℤ y → int_cmp x (pos 0) ≡ int_cmp y (pos 0)
    at_sum x y e = grind (arith, ints)

pub sign-witness : (o : Order) (a b : ℤ) → Within (2 ^ 25) a → Within (2 ^ 25) b → sign_at o a b ≡ int_cmp (witness_in o a b) (pos 0)
sign-witness Four a b f g = refl
sign-witness Six a b f g = refl
sign-witness Eight a b f g = sign-by_near (pos 2) (pos 54608393) (pos 38613965) (neg_ℤ (pos 1)) two_above no_root_two a b (near_two b g)
sign-witness Ten a b f g = sign-by_near (pos 5) (pos 228826127) (pos 102334155) (pos 4) five_above
    no_root_five (pos 2 *ℤ a +ℤ b) b (near_five b g) ∙ halved a b

-- ---- as the program reckons it, with 64 bits
pub read_eight : (a b : ℤ) → Within (2 ^ 25) a → Within (2 ^ 25) b
    → reading w64 (reading w64 (pos 38613965 *ℤ reading w64 a) +ℤ reading w64 (pos 54608393 *ℤ reading w64 b))
    ≡ pos 38613965 *ℤ a +ℤ pos 54608393 *ℤ b
read_eight a b f g = omega (arith, ints)

pub read_ten : (a b : ℤ) → Within (2 ^ 25) a → Within (2 ^ 25) b
    → reading w64 (reading w64 (pos 102334155 *ℤ reading w64 a) +ℤ reading w64
    (pos 165580141 *ℤ reading w64 b)) ≡ pos 102334155 *ℤ a +ℤ pos 165580141 *ℤ b
read_ten a b f g = omega (arith, ints)

pub read_part : (a : ℤ) → Within (2 ^ 25) a → reading w64 a ≡ a
read_part a f = omega (arith, ints)
