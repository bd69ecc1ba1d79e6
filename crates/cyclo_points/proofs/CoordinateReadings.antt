-- Conjugates, reduced numbers and coordinates, as code computes them from coefficients.
use Rattle.std.proofs.Common.{◌≡◌, ℕ, ℤ, pos, ◌*◌, ◌^◌, ◌+ℤ◌, ◌-ℤ◌, neg_ℤ, refl, arith}
use Rattle.std.proofs.lemmas.Int.{ints}
use Rattle.theory_ring.specs.Ring.{Ops, power, integers}
use Rattle.theory_ring.specs.Surd.{Pair}
use Rattle.theory_ring.proofs.Normaliser.{Expr, var, con, exprs, ◌⊕◌, ◌⊖◌}
use Rattle.cyclo_points.specs.declared.order.Order.{Order}
use Rattle.cyclo_points.specs.declared.point.Point.{Point}
use Rattle.cyclo_points.specs.declared.real.Real.{Real}
use Rattle.cyclo_points.specs.Quad.{Quad, zeta_quad}
use Rattle.cyclo_points.specs.Pairs.{zeta_pair}
use Rattle.cyclo_points.specs.Four.{ring_four, points_four}
use Rattle.cyclo_points.specs.Six.{ring_six, conj_six, points_six}
use Rattle.cyclo_points.specs.Eight.{ring_eight, conj_eight, points_eight}
use Rattle.cyclo_points.specs.Ten.{ring_ten, conj_ten, points_ten}
use Rattle.cyclo_points.specs.Order.{points_of}
use Rattle.cyclo_points.specs.Point.{coefficient, quad_of, pair_of, point_in, Within, IsWithin}
use Rattle.cyclo_points.specs.Real.{real_in}
use Rattle.cyclo_points.specs.Reduced.{combination}
use Rattle.cyclo_points.proofs.Identities.{quad_path, pair_path, pair_ring, quad_ring}
use Rattle.cyclo_points.proofs.QuadLaws.{P, these, whole}
use Rattle.cyclo_points.proofs.PairSizes.{IsWithinPair}
use Rattle.cyclo_points.proofs.Readings.{point_of, machine, machine-is, machine_negative, machine_negative-small, machine_sum, machine_sum-is, machine_difference, machine_difference-is, machine_negative_sum, machine_negative_sum-is}
use Rattle.cyclo_points.proofs.Sizes.{IsWithinQuad, double_kept, double_negative, double_sum, double_difference, double_negative_sum}

-- ---- conjugates
abbrev pub IsConjugate : Order → Point → Point → Type 0
IsConjugate o p r = point_in o r ≡ (points_of o).conj (point_in o p)

abbrev pub conjugate_six : Point → Point
conjugate_six p = point_of (machine_sum (coefficient p 0) (coefficient p 1)) (machine_negative (coefficient p 1)) (pos 0) (pos 0)

pub conjugate_six-is : (p : Point) → IsWithin (2 ^ 40) p → pair_of (conjugate_six p) ≡ conj_six integers (pair_of p)
conjugate_six-is p h = pair_path (pair_of (conjugate_six p)) (conj_six integers (pair_of p))
    (machine_sum-is _ _ h.at_0 h.at_1) (machine_negative-small _ h.at_1)

pub conj_six-doubles : (m : ℕ) (p : Point) → IsWithin m p → IsWithinPair (2 * m) (conj_six integers (pair_of p))
conj_six-doubles m p h = record { at_0 = double_sum m _ _ h.at_0 h.at_1; at_1 = double_negative m _ h.at_1 }

abbrev pub conjugate_eight : Point → Point
conjugate_eight p = point_of (machine (coefficient p 0)) (machine_negative (coefficient p 3))
    (machine_negative (coefficient p 2)) (machine_negative (coefficient p 1))

pub conjugate_eight-is : (p : Point) → IsWithin (2 ^ 40) p → quad_of (conjugate_eight p) ≡ conj_eight integers (quad_of p)
conjugate_eight-is p h =
    quad_path (quad_of (conjugate_eight p)) (conj_eight integers (quad_of p))
    (machine-is _ h.at_0) (machine_negative-small _ h.at_3) (machine_negative-small _ h.at_2) (machine_negative-small _ h.at_1)

pub conj_eight-doubles : (m : ℕ) (p : Quad ℤ) → IsWithinQuad m p → IsWithinQuad (2 * m) (conj_eight integers p)
conj_eight-doubles m p h = record {
  at_0 = double_kept m _ h.at_0;
  at_1 = double_negative m _ h.at_3;
  at_2 = double_negative m _ h.at_2;
  at_3 = double_negative m _ h.at_1;
}

abbrev pub conjugate_ten : Point → Point
conjugate_ten p =
    point_of (machine_sum (coefficient p 0) (coefficient p 1)) (machine_negative (coefficient p 1))
    (machine_difference (coefficient p 1) (coefficient p 3)) (machine_negative_sum (coefficient p 1) (coefficient p 2))

pub conjugate_ten-is : (p : Point) → IsWithin (2 ^ 40) p → quad_of (conjugate_ten p) ≡ conj_ten integers (quad_of p)
conjugate_ten-is p h =
    quad_path (quad_of (conjugate_ten p)) (conj_ten integers (quad_of p))
    (machine_sum-is _ _ h.at_0 h.at_1) (machine_negative-small _ h.at_1)
    (machine_difference-is _ _ h.at_1 h.at_3) (machine_negative_sum-is _ _ h.at_1 h.at_2)

pub conj_ten-doubles : (m : ℕ) (p : Quad ℤ) → IsWithinQuad m p → IsWithinQuad (2 * m) (conj_ten integers p)
conj_ten-doubles m p h = record {
  at_0 = double_sum m _ _ h.at_0 h.at_1;
  at_1 = double_negative m _ h.at_1;
  at_2 = double_difference m _ _ h.at_1 h.at_3;
  at_3 = double_negative_sum m _ _ h.at_1 h.at_2;
}

-- ---- reduced numbers
abbrev pub IsReduced : Order → Point → Point → Type 0
IsReduced o p r = point_in o r ≡ combination (points_of o) (quad_of p)

part_of_two_differences : (x y z : ℤ) → Within (2 ^ 40) x → Within (2 ^ 40) y → Within (2 ^ 40) z
    → machine (machine (machine x -ℤ machine y) -ℤ machine z) ≡ (x +ℤ neg_ℤ y) +ℤ neg_ℤ z
part_of_two_differences x y z f g h = omega (arith, ints)

triple_two_differences : (m : ℕ) (x y z : ℤ) → Within m x → Within m y → Within m z → Within (3 * m) ((x +ℤ neg_ℤ y) +ℤ neg_ℤ z)
triple_two_differences m x y z f g h = record { low = omega (arith, ints); high = omega (arith, ints) }

triple_sum : (m : ℕ) (x y : ℤ) → Within m x → Within m y → Within (3 * m) (x +ℤ y)
triple_sum m x y f g = record { low = omega (arith, ints); high = omega (arith, ints) }

-- four powers of ζ, over polynomials
abbrev all_four : (R : Ops) → (Expr → R.carrier) → R.carrier → R.carrier
all_four R int z =
    R.add (R.add (R.add (int (var 0)) (R.mul (int (var 1)) z)) (R.mul (int (var 2)) (power R z 2))) (R.mul (int (var 3)) (power R z 3))

-- a whole number of the orders of pairs
abbrev whole_pair : Expr → Pair Expr
whole_pair e = record { a = e; b = con (pos 0) }

pub reduced_four : (q : Quad ℤ) → record { a = q.a0 +ℤ neg_ℤ q.a2; b = q.a1 +ℤ neg_ℤ q.a3 } ≡ combination points_four q
reduced_four q = pair_ring (these q q q) (record { a = var 0 ⊖ var 2; b = var 1 ⊖ var 3 })
    (all_four (ring_four exprs) whole_pair (zeta_pair exprs)) refl

abbrev pub pair_six : Quad ℤ → Pair ℤ
pair_six q = record { a = (q.a0 +ℤ neg_ℤ q.a2) +ℤ neg_ℤ q.a3; b = q.a1 +ℤ q.a2 }

pub reduced_six : (q : Quad ℤ) → pair_six q ≡ combination points_six q
reduced_six q = pair_ring (these q q q) (record { a = (var 0 ⊖ var 2) ⊖ var 3; b = var 1 ⊕ var 2 })
    (all_four (ring_six exprs) whole_pair (zeta_pair exprs)) refl

abbrev pub reduce_six : Point → Point
reduce_six p = point_of (machine (machine (machine (coefficient p 0) -ℤ machine (coefficient p 2)) -ℤ machine
    (coefficient p 3))) (machine_sum (coefficient p 1) (coefficient p 2)) (pos 0) (pos 0)

pub reduce_six-is : (p : Point) → IsWithin (2 ^ 40) p → pair_of (reduce_six p) ≡ pair_six (quad_of p)
reduce_six-is p h = pair_path (pair_of (reduce_six p)) (pair_six (quad_of p))
    (part_of_two_differences _ _ _ h.at_0 h.at_2 h.at_3) (machine_sum-is _ _ h.at_1 h.at_2)

pub pair_six-triples : (m : ℕ) (p : Point) → IsWithin m p → IsWithinPair (3 * m) (pair_six (quad_of p))
pair_six-triples m p h = record { at_0 = triple_two_differences m _ _ _ h.at_0 h.at_2 h.at_3; at_1 = triple_sum m _ _ h.at_1 h.at_2 }

pub reduced_eight : (q : Quad ℤ) → q ≡ combination points_eight q
reduced_eight q = quad_ring (these q q q) P (all_four (ring_eight exprs) whole (zeta_quad exprs)) refl

pub reduced_ten : (q : Quad ℤ) → q ≡ combination points_ten q
reduced_ten q = quad_ring (these q q q) P (all_four (ring_ten exprs) whole (zeta_quad exprs)) refl

-- ---- coordinates
abbrev pub IsX : Order → Point → Real → Type 0
IsX o p r = real_in o r ≡ (points_of o).x (point_in o p)

abbrev pub IsY : Order → Point → Real → Type 0
IsY o p r = real_in o r ≡ (points_of o).y (point_in o p)

-- ---- sums of coefficients as coordinates have them, up to 2^43
pub part_kept : (x : ℤ) → Within (2 ^ 40) x → machine x ≡ x
part_kept x f = omega (arith, ints)

pub part_doubled : (x : ℤ) → Within (2 ^ 40) x → machine (machine x +ℤ machine x) ≡ x +ℤ x
part_doubled x f = omega (arith, ints)

pub part_sum : (x y : ℤ) → Within (2 ^ 40) x → Within (2 ^ 40) y → machine (machine x +ℤ machine y) ≡ x +ℤ y
part_sum x y f g = omega (arith, ints)

pub part_difference : (x y : ℤ) → Within (2 ^ 40) x → Within (2 ^ 40) y → machine (machine x -ℤ machine y) ≡ x +ℤ neg_ℤ y
part_difference x y f g = omega (arith, ints)

pub part_of_x-six : (x y : ℤ) → Within (2 ^ 40) x → Within (2 ^ 40) y → machine (machine (machine x +ℤ machine x) +ℤ machine y) ≡ (x +ℤ x) +ℤ y
part_of_x-six x y f g = omega (arith, ints)

pub part_of_x : (x y z : ℤ) → Within (2 ^ 40) x → Within (2 ^ 40) y → Within (2 ^ 40) z
    → machine (machine (machine (machine x +ℤ machine x) -ℤ machine y) +ℤ machine z) ≡ ((x +ℤ x) +ℤ neg_ℤ y) +ℤ z
part_of_x x y z f g h = omega (arith, ints)

pub part_of_x-theta : (x y z : ℤ) → Within (2 ^ 40) x → Within (2 ^ 40) y → Within (2 ^ 40) z
    → machine (machine (machine x +ℤ machine y) -ℤ machine z) ≡ (x +ℤ y) +ℤ neg_ℤ z
part_of_x-theta x y z f g h = omega (arith, ints)

-- ---- their sizes
pub within_doubled : (m : ℕ) (x : ℤ) → Within m x → Within (4 * m) (x +ℤ x)
within_doubled m x f = record { low = omega (arith, ints); high = omega (arith, ints) }

pub within_difference : (m : ℕ) (x y : ℤ) → Within m x → Within m y → Within (4 * m) (x +ℤ neg_ℤ y)
within_difference m x y f g = record { low = omega (arith, ints); high = omega (arith, ints) }

pub within_part_of_x-six : (m : ℕ) (x y : ℤ) → Within m x → Within m y → Within (4 * m) ((x +ℤ x) +ℤ y)
within_part_of_x-six m x y f g = record { low = omega (arith, ints); high = omega (arith, ints) }

pub within_part_of_x : (m : ℕ) (x y z : ℤ) → Within m x → Within m y → Within m z → Within (4 * m) (((x +ℤ x) +ℤ neg_ℤ y) +ℤ z)
within_part_of_x m x y z f g h = record { low = omega (arith, ints); high = omega (arith, ints) }

pub within_part_of_x-theta : (m : ℕ) (x y z : ℤ) → Within m x → Within m y → Within m z → Within (4 * m) ((x +ℤ y) +ℤ neg_ℤ z)
within_part_of_x-theta m x y z f g h = record { low = omega (arith, ints); high = omega (arith, ints) }
