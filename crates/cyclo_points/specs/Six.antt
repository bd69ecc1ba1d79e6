-- The points of order six: Z[ζ] with ζ² = ζ - 1, so that ζ³ = -1, as pairs a + bζ. They are the triangular
-- lattice; the coordinates are integers.
use Rattle.theory_ring.specs.Ring.{Ops, difference, integers}
use Rattle.theory_ring.specs.Surd.{Pair}
use Rattle.theory_ring.specs.Sign.{signed_integers}
use Rattle.theory_substitution.specs.Points.{Points}
use Rattle.cyclo_points.specs.Pairs.{add_pair, neg_pair, int_pair, zeta_pair, same_pair}

-- products are reduced by ζ² = ζ - 1
abbrev pub mul_six : (R : Ops) → Pair R.carrier → Pair R.carrier → Pair R.carrier
mul_six R p q = record {
  a = difference R (R.mul p.a q.a) (R.mul p.b q.b);
  b = R.add (R.add (R.mul p.a q.b) (R.mul p.b q.a)) (R.mul p.b q.b);
}

abbrev pub ring_six : Ops → Ops
ring_six R = record {
  carrier = Pair R.carrier;
  add = add_pair R;
  mul = mul_six R;
  neg = neg_pair R;
  int = int_pair R;
}

-- the conjugate of ζ is 1 - ζ
abbrev pub conj_six : (R : Ops) → Pair R.carrier → Pair R.carrier
conj_six R p = record { a = R.add p.a p.b; b = R.neg p.b }

-- X = 2a + b
abbrev pub x_six : (R : Ops) → Pair R.carrier → R.carrier
x_six R p = R.add (R.add p.a p.a) p.b

-- Y = b
abbrev pub y_six : (R : Ops) → Pair R.carrier → R.carrier
y_six R p = p.b

abbrev pub points_six : Points
points_six = record {
  ring = ring_six integers;
  real = signed_integers;
  order = 6;
  zeta = zeta_pair integers;
  conj = conj_six integers;
  x = x_six integers;
  y = y_six integers;
  same = same_pair;
}
