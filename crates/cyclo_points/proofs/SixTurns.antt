-- The turns by ζ and ζ² in order six, as tables: what each is as a product, how the code computes it, and that it at most doubles coefficients.
use Rattle.std.proofs.Common.{◌≡◌, ℕ, ℤ, pos, ◌*◌, ◌^◌, refl}
use Rattle.theory_ring.specs.Ring.{Ops, power, integers}
use Rattle.theory_ring.specs.Surd.{Pair}
use Rattle.theory_ring.proofs.Normaliser.{exprs}
use Rattle.cyclo_points.specs.declared.point.Point.{Point}
use Rattle.cyclo_points.specs.Pairs.{zeta_pair}
use Rattle.cyclo_points.specs.Six.{ring_six}
use Rattle.cyclo_points.specs.Point.{coefficient, pair_of, IsWithin}
use Rattle.cyclo_points.proofs.Identities.{pair_path, pair_ring}
use Rattle.cyclo_points.proofs.PairLaws.{P, these}
use Rattle.cyclo_points.proofs.Readings.{point_of, machine, machine-is, machine_negative, machine_negative-small, machine_sum, machine_sum-is, machine_negative_sum, machine_negative_sum-is}
use Rattle.cyclo_points.proofs.PairSizes.{IsWithinPair}
use Rattle.cyclo_points.proofs.Sizes.{double_kept, double_negative, double_sum, double_negative_sum}

-- ζ^k times p
abbrev pub turned_by : (R : Ops) → ℕ → Pair R.carrier → Pair R.carrier
turned_by R k p = (ring_six R).mul (power (ring_six R) (zeta_pair R) k) p

pub none-is : (p : Pair ℤ) → p ≡ turned_by integers 0 p
none-is p = pair_ring (these p p p) P (turned_by exprs 0 P) refl

-- ---- k = 1
abbrev pub table_1 : (R : Ops) → Pair R.carrier → Pair R.carrier
table_1 R p = record { a = R.neg p.b; b = R.add p.a p.b }

pub table_1-is : (p : Pair ℤ) → table_1 integers p ≡ turned_by integers 1 p
table_1-is p = pair_ring (these p p p) (table_1 exprs P) (turned_by exprs 1 P) refl

abbrev pub code_1 : Point → Point
code_1 p = point_of (machine_negative (coefficient p 1)) (machine_sum (coefficient p 0) (coefficient p 1)) (pos 0) (pos 0)

pub code_1-is : (p : Point) → IsWithin (2 ^ 40) p → pair_of (code_1 p) ≡ table_1 integers (pair_of p)
code_1-is p h = pair_path (pair_of (code_1 p)) (table_1 integers (pair_of p)) (machine_negative-small _ h.at_1) (machine_sum-is _ _ h.at_0 h.at_1)

pub table_1-doubles : (m : ℕ) (p : Point) → IsWithin m p → IsWithinPair (2 * m) (table_1 integers (pair_of p))
table_1-doubles m p h = record { at_0 = double_negative m _ h.at_1; at_1 = double_sum m _ _ h.at_0 h.at_1 }

-- ---- k = 2
abbrev pub table_2 : (R : Ops) → Pair R.carrier → Pair R.carrier
table_2 R p = record { a = R.neg (R.add p.a p.b); b = p.a }

pub table_2-is : (p : Pair ℤ) → table_2 integers p ≡ turned_by integers 2 p
table_2-is p = pair_ring (these p p p) (table_2 exprs P) (turned_by exprs 2 P) refl

abbrev pub code_2 : Point → Point
code_2 p = point_of (machine_negative_sum (coefficient p 0) (coefficient p 1)) (machine (coefficient p 0)) (pos 0) (pos 0)

pub code_2-is : (p : Point) → IsWithin (2 ^ 40) p → pair_of (code_2 p) ≡ table_2 integers (pair_of p)
code_2-is p h = pair_path (pair_of (code_2 p)) (table_2 integers (pair_of p)) (machine_negative_sum-is _ _ h.at_0 h.at_1) (machine-is _ h.at_0)

pub table_2-doubles : (m : ℕ) (p : Point) → IsWithin m p → IsWithinPair (2 * m) (table_2 integers (pair_of p))
table_2-doubles m p h = record { at_0 = double_negative_sum m _ _ h.at_0 h.at_1; at_1 = double_kept m _ h.at_0 }
