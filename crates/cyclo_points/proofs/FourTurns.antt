-- The turn by ζ in order four: what it is as a product, and how the code computes it.
use Rattle.std.proofs.Common.{◌≡◌, ℕ, ℤ, ◌^◌, refl}
use Rattle.theory_ring.specs.Ring.{Ops, power, integers}
use Rattle.theory_ring.specs.Surd.{Pair}
use Rattle.theory_ring.proofs.Normaliser.{exprs}
use Rattle.cyclo_points.specs.declared.point.Point.{Point}
use Rattle.cyclo_points.specs.Pairs.{zeta_pair}
use Rattle.cyclo_points.specs.Four.{ring_four}
use Rattle.cyclo_points.specs.Point.{coefficient, pair_of, IsWithin}
use Rattle.cyclo_points.proofs.Identities.{pair_path, pair_ring}
use Rattle.cyclo_points.proofs.PairLaws.{P, these}
use Rattle.cyclo_points.proofs.Readings.{machine, machine-is, machine_negative, machine_negative-small}

-- ζ^k times p
abbrev pub turned_by : (R : Ops) → ℕ → Pair R.carrier → Pair R.carrier
turned_by R k p = (ring_four R).mul (power (ring_four R) (zeta_pair R) k) p

pub none-is : (p : Pair ℤ) → p ≡ turned_by integers 0 p
none-is p = pair_ring (these p p p) P (turned_by exprs 0 P) refl

-- ---- k = 1
abbrev pub table_1 : (R : Ops) → Pair R.carrier → Pair R.carrier
table_1 R p = record { a = R.neg p.b; b = p.a }

pub table_1-is : (p : Pair ℤ) → table_1 integers p ≡ turned_by integers 1 p
table_1-is p = pair_ring (these p p p) (table_1 exprs P) (turned_by exprs 1 P) refl

abbrev pub code_1 : Point → Pair ℤ
code_1 p = record { a = machine_negative (coefficient p 1); b = machine (coefficient p 0) }

pub code_1-is : (p : Point) → IsWithin (2 ^ 40) p → code_1 p ≡ table_1 integers (pair_of p)
code_1-is p h = pair_path (code_1 p) (table_1 integers (pair_of p)) (machine_negative-small _ h.at_1) (machine-is _ h.at_0)
