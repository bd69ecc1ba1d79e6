-- The motion back.
use Rattle.std.specs.Prelude.{ℕ, ◌-◌, ◌%◌}
use Rattle.theory_ring.specs.Ring.{power}
use Rattle.theory_substitution.specs.Points.{Points}
use Rattle.theory_substitution.specs.Motion.{Motion}

-- the turn that completes a full one
abbrev pub rest_of_turn : ℕ → ℕ → ℕ
rest_of_turn order k = (order - k) % order

-- what undoes a motion: for (k, v) it turns by -k and shifts by -ζ^(-k) v
abbrev pub back : (P : Points) → Motion P.ring.carrier → Motion P.ring.carrier
back P m = record {
  turn = rest_of_turn P.order m.turn;
  shift = P.ring.neg (P.ring.mul (power P.ring P.zeta (rest_of_turn P.order m.turn)) m.shift);
}
