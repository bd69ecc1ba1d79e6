-- The number that four coefficients stand for in each order. Orders four and six reduce the last two.
use Rattle.std.specs.Prelude.{ℤ}
use Rattle.theory_ring.specs.Ring.{power}
use Rattle.theory_substitution.specs.Points.{Points}
use Rattle.cyclo_points.specs.Quad.{Quad}

-- a0 + a1 ζ + a2 ζ² + a3 ζ³
abbrev pub combination : (P : Points) → Quad ℤ → P.ring.carrier
combination P q =
    P.ring.add (P.ring.add (P.ring.add
    (P.ring.int q.a0)
    (P.ring.mul (P.ring.int q.a1) P.zeta))
    (P.ring.mul (P.ring.int q.a2) (power P.ring P.zeta 2)))
    (P.ring.mul (P.ring.int q.a3) (power P.ring P.zeta 3))
