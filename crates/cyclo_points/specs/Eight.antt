-- The points of order eight: Z[ζ] with ζ⁴ = -1. The coordinates lie in Z[√2].
use Rattle.theory_ring.specs.Ring.{Ops, difference, integers}
use Rattle.theory_ring.specs.Surd.{Pair}
use Rattle.theory_ring.specs.Sign.{signed_root_two}
use Rattle.theory_substitution.specs.Points.{Points}
use Rattle.cyclo_points.specs.Quad.{Quad, add_quad, neg_quad, int_quad, zeta_quad, same_quad}

-- products are reduced by ζ⁴ = -1
abbrev pub mul_eight : (R : Ops) → Quad R.carrier → Quad R.carrier → Quad R.carrier
mul_eight R p q = record {
  a0 = difference R (R.mul p.a0 q.a0) (R.add (R.add (R.mul p.a1 q.a3) (R.mul p.a2 q.a2)) (R.mul p.a3 q.a1));
  a1 = difference R (R.add (R.mul p.a0 q.a1) (R.mul p.a1 q.a0)) (R.add (R.mul p.a2 q.a3) (R.mul p.a3 q.a2));
  a2 = difference R (R.add (R.add (R.mul p.a0 q.a2) (R.mul p.a1 q.a1)) (R.mul p.a2 q.a0)) (R.mul p.a3 q.a3);
  a3 = R.add (R.add (R.add (R.mul p.a0 q.a3) (R.mul p.a1 q.a2)) (R.mul p.a2 q.a1)) (R.mul p.a3 q.a0);
}

abbrev pub ring_eight : Ops → Ops
ring_eight R = record {
  carrier = Quad R.carrier;
  add = add_quad R;
  mul = mul_eight R;
  neg = neg_quad R;
  int = int_quad R;
}

-- the conjugates of ζ, ζ² and ζ³ are -ζ³, -ζ² and -ζ
abbrev pub conj_eight : (R : Ops) → Quad R.carrier → Quad R.carrier
conj_eight R p = record { a0 = p.a0; a1 = R.neg p.a3; a2 = R.neg p.a2; a3 = R.neg p.a1 }

-- X = 2 a0 + (a1 - a3)√2
abbrev pub x_eight : (R : Ops) → Quad R.carrier → Pair R.carrier
x_eight R p = record { a = R.add p.a0 p.a0; b = difference R p.a1 p.a3 }

-- Y = (a1 + a3) + a2 √2
abbrev pub y_eight : (R : Ops) → Quad R.carrier → Pair R.carrier
y_eight R p = record { a = R.add p.a1 p.a3; b = p.a2 }

abbrev pub points_eight : Points
points_eight = record {
  ring = ring_eight integers;
  real = signed_root_two;
  order = 8;
  zeta = zeta_quad integers;
  conj = conj_eight integers;
  x = x_eight integers;
  y = y_eight integers;
  same = same_quad;
}
