-- The turns by ζ, ζ² and so on in order ten, as tables: what each is as a product, how the code computes it,
-- and that it at most doubles coefficients.
use Rattle.std.proofs.Common.{◌≡◌, ℕ, ℤ, ◌*◌, ◌^◌, refl}
use Rattle.theory_ring.specs.Ring.{Ops, power, integers}
use Rattle.theory_ring.proofs.Normaliser.{exprs}
use Rattle.cyclo_points.specs.declared.point.Point.{Point}
use Rattle.cyclo_points.specs.Quad.{Quad, zeta_quad}
use Rattle.cyclo_points.specs.Ten.{ring_ten}
use Rattle.cyclo_points.specs.Point.{coefficient, quad_of, IsWithin}
use Rattle.cyclo_points.proofs.Identities.{quad_path, quad_ring}
use Rattle.cyclo_points.proofs.QuadLaws.{P, these}
use Rattle.cyclo_points.proofs.Readings.{point_of, machine, machine-is, machine_negative, machine_negative-small, machine_sum, machine_sum-is, machine_difference, machine_difference-is, machine_negative_sum, machine_negative_sum-is}
use Rattle.cyclo_points.proofs.Sizes.{IsWithinQuad, double_kept, double_negative, double_sum, double_difference, double_negative_sum}

-- ζ^k times p
abbrev pub turned_by : (R : Ops) → ℕ → Quad R.carrier → Quad R.carrier
turned_by R k p = (ring_ten R).mul (power (ring_ten R) (zeta_quad R) k) p

pub none-is : (p : Quad ℤ) → p ≡ turned_by integers 0 p
none-is p = quad_ring (these p p p) P (turned_by exprs 0 P) refl

-- ---- k = 1
abbrev pub table_1 : (R : Ops) → Quad R.carrier → Quad R.carrier
table_1 R p = record { a0 = R.neg p.a3; a1 = R.add p.a0 p.a3; a2 = R.add p.a1 (R.neg p.a3); a3 = R.add p.a2 p.a3 }

pub table_1-is : (p : Quad ℤ) → table_1 integers p ≡ turned_by integers 1 p
table_1-is p = quad_ring (these p p p) (table_1 exprs P) (turned_by exprs 1 P) refl

abbrev pub code_1 : Point → Point
code_1 p = point_of (machine_negative (coefficient p 3)) (machine_sum (coefficient p 0) (coefficient p 3))
    (machine_difference (coefficient p 1) (coefficient p 3)) (machine_sum (coefficient p 2) (coefficient p 3))

pub code_1-is : (p : Point) → IsWithin (2 ^ 40) p → quad_of (code_1 p) ≡ table_1 integers (quad_of p)
code_1-is p h = quad_path (quad_of (code_1 p)) (table_1 integers (quad_of p))
    (machine_negative-small _ h.at_3) (machine_sum-is _ _ h.at_0 h.at_3)
    (machine_difference-is _ _ h.at_1 h.at_3) (machine_sum-is _ _ h.at_2 h.at_3)

pub table_1-doubles : (m : ℕ) (p : Quad ℤ) → IsWithinQuad m p → IsWithinQuad (2 * m) (table_1 integers p)
table_1-doubles m p h = record {
  at_0 = double_negative m _ h.at_3;
  at_1 = double_sum m _ _ h.at_0 h.at_3;
  at_2 = double_difference m _ _ h.at_1 h.at_3;
  at_3 = double_sum m _ _ h.at_2 h.at_3;
}

-- ---- k = 2
abbrev pub table_2 : (R : Ops) → Quad R.carrier → Quad R.carrier
table_2 R p = record { a0 = R.neg (R.add p.a2 p.a3); a1 = p.a2; a2 = R.add p.a0 (R.neg p.a2); a3 = R.add p.a1 p.a2 }

pub table_2-is : (p : Quad ℤ) → table_2 integers p ≡ turned_by integers 2 p
table_2-is p = quad_ring (these p p p) (table_2 exprs P) (turned_by exprs 2 P) refl

abbrev pub code_2 : Point → Point
code_2 p = point_of (machine_negative_sum (coefficient p 2) (coefficient p 3)) (machine (coefficient p 2))
    (machine_difference (coefficient p 0) (coefficient p 2)) (machine_sum (coefficient p 1) (coefficient p 2))

pub code_2-is : (p : Point) → IsWithin (2 ^ 40) p → quad_of (code_2 p) ≡ table_2 integers (quad_of p)
code_2-is p h = quad_path (quad_of (code_2 p)) (table_2 integers (quad_of p))
    (machine_negative_sum-is _ _ h.at_2 h.at_3) (machine-is _ h.at_2)
    (machine_difference-is _ _ h.at_0 h.at_2) (machine_sum-is _ _ h.at_1 h.at_2)

pub table_2-doubles : (m : ℕ) (p : Quad ℤ) → IsWithinQuad m p → IsWithinQuad (2 * m) (table_2 integers p)
table_2-doubles m p h = record {
  at_0 = double_negative_sum m _ _ h.at_2 h.at_3;
  at_1 = double_kept m _ h.at_2;
  at_2 = double_difference m _ _ h.at_0 h.at_2;
  at_3 = double_sum m _ _ h.at_1 h.at_2;
}

-- ---- k = 3
abbrev pub table_3 : (R : Ops) → Quad R.carrier → Quad R.carrier
table_3 R p = record { a0 = R.neg (R.add p.a1 p.a2); a1 = R.add p.a1 (R.neg p.a3); a2 = R.neg p.a1; a3 = R.add p.a0 p.a1 }

pub table_3-is : (p : Quad ℤ) → table_3 integers p ≡ turned_by integers 3 p
table_3-is p = quad_ring (these p p p) (table_3 exprs P) (turned_by exprs 3 P) refl

abbrev pub code_3 : Point → Point
code_3 p = point_of (machine_negative_sum (coefficient p 1) (coefficient p 2))
    (machine_difference (coefficient p 1) (coefficient p 3)) (machine_negative (coefficient p 1))
    (machine_sum (coefficient p 0) (coefficient p 1))

pub code_3-is : (p : Point) → IsWithin (2 ^ 40) p → quad_of (code_3 p) ≡ table_3 integers (quad_of p)
code_3-is p h = quad_path (quad_of (code_3 p)) (table_3 integers (quad_of p))
    (machine_negative_sum-is _ _ h.at_1 h.at_2) (machine_difference-is _ _ h.at_1 h.at_3)
    (machine_negative-small _ h.at_1) (machine_sum-is _ _ h.at_0 h.at_1)

pub table_3-doubles : (m : ℕ) (p : Quad ℤ) → IsWithinQuad m p → IsWithinQuad (2 * m) (table_3 integers p)
table_3-doubles m p h = record {
  at_0 = double_negative_sum m _ _ h.at_1 h.at_2;
  at_1 = double_difference m _ _ h.at_1 h.at_3;
  at_2 = double_negative m _ h.at_1;
  at_3 = double_sum m _ _ h.at_0 h.at_1;
}

-- ---- k = 4
abbrev pub table_4 : (R : Ops) → Quad R.carrier → Quad R.carrier
table_4 R p = record { a0 = R.neg (R.add p.a0 p.a1); a1 = R.add p.a0 (R.neg p.a2); a2 = R.neg (R.add p.a0 p.a3); a3 = p.a0 }

pub table_4-is : (p : Quad ℤ) → table_4 integers p ≡ turned_by integers 4 p
table_4-is p = quad_ring (these p p p) (table_4 exprs P) (turned_by exprs 4 P) refl

abbrev pub code_4 : Point → Point
code_4 p = point_of (machine_negative_sum (coefficient p 0) (coefficient p 1))
    (machine_difference (coefficient p 0) (coefficient p 2))
    (machine_negative_sum (coefficient p 0) (coefficient p 3)) (machine (coefficient p 0))

pub code_4-is : (p : Point) → IsWithin (2 ^ 40) p → quad_of (code_4 p) ≡ table_4 integers (quad_of p)
code_4-is p h = quad_path (quad_of (code_4 p)) (table_4 integers (quad_of p))
    (machine_negative_sum-is _ _ h.at_0 h.at_1) (machine_difference-is _ _ h.at_0 h.at_2)
    (machine_negative_sum-is _ _ h.at_0 h.at_3) (machine-is _ h.at_0)

pub table_4-doubles : (m : ℕ) (p : Quad ℤ) → IsWithinQuad m p → IsWithinQuad (2 * m) (table_4 integers p)
table_4-doubles m p h = record {
  at_0 = double_negative_sum m _ _ h.at_0 h.at_1;
  at_1 = double_difference m _ _ h.at_0 h.at_2;
  at_2 = double_negative_sum m _ _ h.at_0 h.at_3;
  at_3 = double_kept m _ h.at_0;
}
