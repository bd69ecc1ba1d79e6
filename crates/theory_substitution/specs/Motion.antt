-- Motions of the plane that keep the ring: a turn by a power of ζ, and then a shift.
use Rattle.std.specs.Prelude.{ℕ, ◌+◌, ◌%◌, pos}
use Rattle.theory_ring.specs.Ring.{power}
use Rattle.theory_substitution.specs.Points.{Points}

-- z ↦ ζ^turn z + shift
pub record Motion (A : Type 0) : Type 0 where
  pub turn : ℕ
  pub shift : A

-- where a motion takes a point
abbrev pub moved : (P : Points) → Motion P.ring.carrier → P.ring.carrier → P.ring.carrier
moved P m z = P.ring.add (P.ring.mul (power P.ring P.zeta m.turn) z) m.shift

-- the motion that moves nothing
abbrev pub still : (P : Points) → Motion P.ring.carrier
still P = record { turn = 0; shift = P.ring.int (pos 0) }

-- m and then g; turns are counted modulo the order
abbrev pub followed : (P : Points) → Motion P.ring.carrier → Motion P.ring.carrier → Motion P.ring.carrier
followed P m g = record { turn = (g.turn + m.turn) % P.order; shift = moved P g m.shift }
