-- The numbers a + bζ over any ring, of the orders in which ζ² is such a number, and the operations in which
-- no power of ζ has to be reduced.
use Rattle.std.specs.Prelude.{ℤ, pos, Bool, ◌&&◌}
use Rattle.std.specs.Ordering.{int_eq}
use Rattle.theory_ring.specs.Ring.{Ops}
use Rattle.theory_ring.specs.Surd.{Pair}

abbrev pub add_pair : (R : Ops) → Pair R.carrier → Pair R.carrier → Pair R.carrier
add_pair R p q = record { a = R.add p.a q.a; b = R.add p.b q.b }

abbrev pub neg_pair : (R : Ops) → Pair R.carrier → Pair R.carrier
neg_pair R p = record { a = R.neg p.a; b = R.neg p.b }

-- an integer
abbrev pub int_pair : (R : Ops) → ℤ → Pair R.carrier
int_pair R n = record { a = R.int n; b = R.int (pos 0) }

-- ζ itself
abbrev pub zeta_pair : (R : Ops) → Pair R.carrier
zeta_pair R = record { a = R.int (pos 0); b = R.int (pos 1) }

-- whether both coefficients are equal
abbrev pub same_pair : Pair ℤ → Pair ℤ → Bool
same_pair p q = int_eq p.a q.a && int_eq p.b q.b
