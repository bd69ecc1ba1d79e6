-- The motions of the base's ancestors in the base's frame, from level to level.
use Rattle.std.specs.Prelude.{ℕ, suc, ◌+◌, ◌%◌, ◌<◌, List, [], ◌∷◌}
use Rattle.theory_ring.specs.Ring.{difference, power}
use Rattle.theory_substitution.specs.Points.{Points}
use Rattle.theory_substitution.specs.Motion.{Motion, still}
use Rattle.theory_addresses.specs.Address.{Step}
use Rattle.theory_substitution.specs.Rule.{Rule}
use Rattle.theory_substitution.specs.RuleParts.{child_of}
use Rattle.theory_frames.specs.Back.{rest_of_turn}

-- from an ancestor to its parent, of which it is the child with the motion (k, v), scaled:
-- (T, a) becomes (T - k, a - ζ^(T - k) scale v)
abbrev pub one_out_by : (P : Points) → P.ring.carrier → Motion P.ring.carrier → Motion P.ring.carrier
    → Motion P.ring.carrier
one_out_by P scale m c =
    let turn = (m.turn + rest_of_turn P.order c.turn) % P.order in
    record {
      turn = turn;
      shift = difference P.ring m.shift (P.ring.mul (power P.ring P.zeta turn) (P.ring.mul scale c.shift));
    }

-- from the ancestor at level n, scaled by λ^n
abbrev pub one_out : (P : Points) → Rule P.ring.carrier → ℕ → Motion P.ring.carrier → Motion P.ring.carrier
    → Motion P.ring.carrier
one_out P r n m c = one_out_by P (power P.ring r.factor n) m c

-- from the ancestor at level n, with this motion, outward through these digits
abbrev pub outward_from : (P : Points) → Rule P.ring.carrier → ℕ → Motion P.ring.carrier → List Step
    → Motion P.ring.carrier
outward_from P r n m [] = m
outward_from P r n m (d ∷ ds) =
    outward_from P r (suc n) (one_out P r n m (child_of P r d.parent d.child).motion) ds

-- the motion of the base's ancestor above these digits; the base itself is not moved
abbrev pub outward : (P : Points) → Rule P.ring.carrier → List Step → Motion P.ring.carrier
outward P r ds = outward_from P r 0 (still P) ds

-- each child's turn is below the order
abbrev pub HasTurnsBelow : (P : Points) → Rule P.ring.carrier → Type 0
HasTurnsBelow P r = (d : Step) → (child_of P r d.parent d.child).motion.turn < P.order
