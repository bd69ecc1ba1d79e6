-- One digit finer, from what is computed of it.
use Rattle.std.proofs.Common.{◌≡◌, ℕ, ◌+◌, ◌%◌, ap, ap₂, ◌∙◌}
use Rattle.theory_ring.specs.Ring.{power}
use Rattle.theory_substitution.specs.Points.{Points, PointLaws}
use Rattle.theory_substitution.specs.Motion.{Motion}
use Rattle.theory_substitution.specs.Rule.{Rule}
use Rattle.theory_substitution.specs.Placement.{finer}

-- the factor may stand behind the shift
pub finer_is : (P : Points) (W : PointLaws P) (r : Rule P.ring.carrier) (m c : Motion P.ring.carrier) (n : ℕ) (f inflated turned sum : P.ring.carrier)
    → n ≡ P.order → f ≡ r.factor → inflated ≡ P.ring.mul m.shift f
    → turned ≡ P.ring.mul (power P.ring P.zeta m.turn) c.shift → sum ≡ P.ring.add inflated turned
    → record { turn = (m.turn + c.turn) % n; shift = sum } ≡ finer P r m c
finer_is P W r m c n f inflated turned sum order factor is_inflated is_turned is_sum =
    ap₂ (λ k (z : P.ring.carrier). record { turn = (m.turn + c.turn) % k; shift = z }) order
    (is_sum ∙ ap₂ P.ring.add (is_inflated ∙ ap (P.ring.mul m.shift) factor ∙ W.of_ring.mul_comm m.shift r.factor) is_turned)
