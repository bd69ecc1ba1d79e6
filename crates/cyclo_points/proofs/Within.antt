-- What is at most one number in absolute value is at most each greater one; and whole numbers among the reals.
use Rattle.std.proofs.Common.{◌≡◌, ℕ, ◌≤◌, ℤ, pos, arith}
use Rattle.std.proofs.lemmas.Int.{ints}
use Rattle.cyclo_points.specs.declared.point.Point.{Point}
use Rattle.cyclo_points.specs.declared.real.Real.{Real}
use Rattle.cyclo_points.specs.declared.order.Order.{Order}
use Rattle.cyclo_points.specs.declared.order.Order.TheVariants.{Four, Six, Eight, Ten}
use Rattle.cyclo_points.specs.Order.{points_of}
use Rattle.cyclo_points.specs.Point.{Within, IsWithin}
use Rattle.cyclo_points.specs.Real.{real_in, IsRealWithin}

pub within_wider : (m n : ℕ) (x : ℤ) → m ≤ n → Within m x → Within n x
within_wider m n x h w = let a = w.low in let b = w.high in record { low = omega (arith, ints); high = omega (arith, ints) }

pub zero_within : (n : ℕ) → Within n (pos 0)
zero_within n = record { low = omega (arith, ints); high = omega (arith, ints) }

pub real_wider : (m n : ℕ) (r : Real) → m ≤ n → IsRealWithin m r → IsRealWithin n r
real_wider m n r h w = record { at_a = within_wider m n r.a h w.at_a; at_b = within_wider m n r.b h w.at_b }

pub point_wider : (m n : ℕ) (p : Point) → m ≤ n → IsWithin m p → IsWithin n p
point_wider m n p h w = record {
  at_0 = within_wider m n _ h w.at_0;
  at_1 = within_wider m n _ h w.at_1;
  at_2 = within_wider m n _ h w.at_2;
  at_3 = within_wider m n _ h w.at_3;
}

-- a whole number of the program is one of the ring
pub whole_is : (o : Order) (a : ℤ) (n : ℕ) → a ≡ pos n → real_in o (record { a = a; b = pos 0 }) ≡ (points_of o).real.ops.int (pos n)
whole_is Four a n e = e
whole_is Six a n e = e
whole_is Eight a n e = λ i. record { a = e i; b = pos 0 }
whole_is Ten a n e = λ i. record { a = e i; b = pos 0 }
