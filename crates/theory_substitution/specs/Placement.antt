-- The motion of an address by Horner's scheme, from the coarse digits to the fine.
use Rattle.std.specs.Prelude.{◌+◌, ◌%◌, List, [], ◌∷◌, ◌++◌}
use Rattle.theory_ring.specs.Ring.{power}
use Rattle.theory_substitution.specs.Points.{Points}
use Rattle.theory_substitution.specs.Motion.{Motion, still}
use Rattle.theory_addresses.specs.Address.{Step}
use Rattle.theory_substitution.specs.Rule.{Rule}
use Rattle.theory_substitution.specs.RuleParts.{child_of}

-- one digit finer: with the child's turn k and shift v, (T, S) becomes (T + k modulo the order, λS + ζ^T v)
abbrev pub finer : (P : Points) → Rule P.ring.carrier → Motion P.ring.carrier → Motion P.ring.carrier
    → Motion P.ring.carrier
finer P r m c = record {
  turn = (m.turn + c.turn) % P.order;
  shift = P.ring.add (P.ring.mul r.factor m.shift) (P.ring.mul (power P.ring P.zeta m.turn) c.shift);
}

-- (T, S) after all digits, beginning with (0, 0) at the coarse end
abbrev pub placement : (P : Points) → Rule P.ring.carrier → List Step → Motion P.ring.carrier
placement P r [] = still P
placement P r (d ∷ ds) = finer P r (placement P r ds) (child_of P r d.parent d.child).motion

-- the values of S after each digit, from coarse to fine
abbrev pub horner_values : (P : Points) → Rule P.ring.carrier → List Step → List P.ring.carrier
horner_values P r [] = []
horner_values P r (d ∷ ds) = horner_values P r ds ++ (placement P r (d ∷ ds)).shift ∷ []
