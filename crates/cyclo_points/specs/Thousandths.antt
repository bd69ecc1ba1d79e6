-- Numbers in whole thousandths.
use Rattle.std.specs.Prelude.{ℕ, zero, suc, ◌*◌, ℤ, pos, negsuc, ◌+ℤ◌, ◌*ℤ◌, nat_le, if◌then◌else◌}
use Rattle.std.specs.Int.{int_div_euclid}
use Rattle.theory_ring.specs.Sign.{IsBelow, IsAtMost}
use Rattle.cyclo_points.specs.declared.order.Order.{Order}
use Rattle.cyclo_points.specs.declared.order.Order.TheVariants.{Four, Six, Eight, Ten}
use Rattle.cyclo_points.specs.Order.{points_of}
use Rattle.cyclo_points.specs.Real.{RealOf}

-- 1000 r
abbrev pub thousandfold : (o : Order) → RealOf o → RealOf o
thousandfold o r = (points_of o).real.ops.mul ((points_of o).real.ops.int (pos 1000)) r

-- f ≤ 1000 r < f + 1
pub record IsFloorThousandths (o : Order) (r : RealOf o) (f : ℤ) : Type 0 where
  pub at_most : IsAtMost (points_of o).real ((points_of o).real.ops.int f) (thousandfold o r)
  pub below_next : IsBelow (points_of o).real (thousandfold o r) ((points_of o).real.ops.int (f +ℤ pos 1))

-- ---- that number
-- the greatest number up to k whose square is at most n
abbrev pub root_up_to : ℕ → ℕ → ℕ
root_up_to zero n = 0
root_up_to (suc k) n = if nat_le (suc k * suc k) n then suc k else root_up_to k n

-- the square root of n, rounded down
unfoldable pub whole_root : ℕ → ℕ
whole_root n = root_up_to n n

-- b √m, rounded down; m b² is a square only if b is 0
abbrev pub floor_root : ℕ → ℤ → ℤ
floor_root m (pos n) = pos (whole_root (m * (n * n)))
floor_root m (negsuc n) = negsuc (whole_root (m * (suc n * suc n)))

-- bθ, rounded down: θ is √2 in order eight, and twice θ is 1 + √5 in order ten
abbrev pub floor_theta : Order → ℤ → ℤ
floor_theta Four b = pos 0
floor_theta Six b = pos 0
floor_theta Eight b = floor_root 2 b
floor_theta Ten b = int_div_euclid (b +ℤ floor_root 5 b) (pos 2)

-- 1000 r, rounded down
abbrev pub thousandths : (o : Order) → RealOf o → ℤ
thousandths Four r = pos 1000 *ℤ r
thousandths Six r = pos 1000 *ℤ r
thousandths Eight r = pos 1000 *ℤ r.a +ℤ floor_theta Eight (pos 1000 *ℤ r.b)
thousandths Ten r = pos 1000 *ℤ r.a +ℤ floor_theta Ten (pos 1000 *ℤ r.b)
