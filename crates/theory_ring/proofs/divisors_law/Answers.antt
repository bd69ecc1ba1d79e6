use Rattle.theory_ring.proofs.Divisor.{integers_divide, root_two_divide, golden_divide}
use Rattle.theory_ring.proofs.divisors_law.Goals as goal

pub returns : goal.returns
returns c = record { integers = integers_divide; root_two = root_two_divide; golden = golden_divide }
