-- The points of order ten: Z[ζ] with ζ⁴ = ζ³ - ζ² + ζ - 1, so that ζ⁵ = -1. The coordinates lie in Z[φ].
use Rattle.theory_ring.specs.Ring.{Ops, difference, integers}
use Rattle.theory_ring.specs.Surd.{Pair}
use Rattle.theory_ring.specs.Sign.{signed_golden}
use Rattle.theory_substitution.specs.Points.{Points}
use Rattle.cyclo_points.specs.Quad.{Quad, add_quad, neg_quad, int_quad, zeta_quad, same_quad}

-- products, of the powers up to ζ⁶, are reduced by ζ⁴ = ζ³ - ζ² + ζ - 1, ζ⁵ = -1 and ζ⁶ = -ζ
abbrev pub mul_ten : (R : Ops) → Quad R.carrier → Quad R.carrier → Quad R.carrier
mul_ten R p q =
    let d0 : R.carrier = R.mul p.a0 q.a0 in
    let d1 : R.carrier = R.add (R.mul p.a0 q.a1) (R.mul p.a1 q.a0) in
    let d2 : R.carrier = R.add (R.add (R.mul p.a0 q.a2) (R.mul p.a1 q.a1)) (R.mul p.a2 q.a0) in
    let d3 : R.carrier = R.add (R.add (R.add (R.mul p.a0 q.a3) (R.mul p.a1 q.a2)) (R.mul p.a2 q.a1))
    (R.mul p.a3 q.a0) in
    let d4 : R.carrier = R.add (R.add (R.mul p.a1 q.a3) (R.mul p.a2 q.a2)) (R.mul p.a3 q.a1) in
    let d5 : R.carrier = R.add (R.mul p.a2 q.a3) (R.mul p.a3 q.a2) in
    let d6 : R.carrier = R.mul p.a3 q.a3 in
    record {
      a0 = difference R (difference R d0 d4) d5;
      a1 = difference R (R.add d1 d4) d6;
      a2 = difference R d2 d4;
      a3 = R.add d3 d4;
    }

abbrev pub ring_ten : Ops → Ops
ring_ten R = record {
  carrier = Quad R.carrier;
  add = add_quad R;
  mul = mul_ten R;
  neg = neg_quad R;
  int = int_quad R;
}

-- the conjugates of ζ, ζ² and ζ³ are 1 - ζ + ζ² - ζ³, -ζ³ and -ζ²
abbrev pub conj_ten : (R : Ops) → Quad R.carrier → Quad R.carrier
conj_ten R p = record {
  a0 = R.add p.a0 p.a1;
  a1 = R.neg p.a1;
  a2 = difference R p.a1 p.a3;
  a3 = R.neg (R.add p.a1 p.a2);
}

-- X = (2 a0 - a2 + a3) + (a1 + a2 - a3)φ
abbrev pub x_ten : (R : Ops) → Quad R.carrier → Pair R.carrier
x_ten R p = record {
  a = R.add (difference R (R.add p.a0 p.a0) p.a2) p.a3;
  b = difference R (R.add p.a1 p.a2) p.a3;
}

-- Y = a1 + (a2 + a3)φ
abbrev pub y_ten : (R : Ops) → Quad R.carrier → Pair R.carrier
y_ten R p = record { a = p.a1; b = R.add p.a2 p.a3 }

abbrev pub points_ten : Points
points_ten = record {
  ring = ring_ten integers;
  real = signed_golden;
  order = 10;
  zeta = zeta_quad integers;
  conj = conj_ten integers;
  x = x_ten integers;
  y = y_ten integers;
  same = same_quad;
}
