-- The points of order ten meet the laws of points.
use Rattle.std.proofs.Common.{◌≡◌, ℤ, pos, ◌+ℤ◌, neg_ℤ, [], ◌∷◌, refl, ap, arith}
use Rattle.std.proofs.lemmas.Int.{ints}
use Rattle.theory_ring.specs.Ring.{Ops, Laws, difference, integers}
use Rattle.theory_ring.specs.Surd.{Pair, golden}
use Rattle.theory_ring.proofs.Normaliser.{Expr, var, con, exprs, ◌⊗◌}
use Rattle.theory_ring.proofs.Integers.{integers_laws}
use Rattle.theory_ring.proofs.Ordered.{golden_laws, golden_order}
use Rattle.theory_substitution.specs.Points.{PointLaws}
use Rattle.cyclo_points.specs.Quad.{Quad}
use Rattle.cyclo_points.specs.Ten.{ring_ten, conj_ten, x_ten, y_ten, points_ten}
use Rattle.cyclo_points.proofs.Identities.{quad_path, quad_ring, pair_ring}
use Rattle.cyclo_points.proofs.QuadLaws.{P, Q, S, these, whole, add_quad_assoc, add_quad_comm, add_quad_zero, add_quad_neg, int_quad-add, int_quad-neg, same_quad-is, same_quad_self}

-- the ring, and that of the coordinates, over polynomials
abbrev K : Ops
K = ring_ten exprs

abbrev R : Ops
R = golden exprs

pub ring_ten_laws : Laws (ring_ten integers)
ring_ten_laws = record {
  add_assoc = add_quad_assoc;
  add_comm = add_quad_comm;
  add_zero = add_quad_zero;
  add_neg = add_quad_neg;
  mul_assoc = λ (p : Quad ℤ) (q : Quad ℤ) (s : Quad ℤ). quad_ring (these p q s) (K.mul (K.mul P Q) S) (K.mul P (K.mul Q S)) refl;
  mul_comm = λ (p : Quad ℤ) (q : Quad ℤ). quad_ring (these p q q) (K.mul P Q) (K.mul Q P) refl;
  mul_one = λ (p : Quad ℤ). quad_ring (these p p p) (K.mul P (K.int (pos 1))) P refl;
  mul_add = λ (p : Quad ℤ) (q : Quad ℤ) (s : Quad ℤ). quad_ring (these p q s) (K.mul P (K.add Q S)) (K.add (K.mul P Q) (K.mul P S)) refl;
  int_add = int_quad-add;
  int_mul = λ m n. quad_ring (m ∷ (n ∷ [])) (whole (var 0 ⊗ var 1)) (K.mul (whole (var 0)) (whole (var 1))) refl;
  int_neg = int_quad-neg;
}

-- θ, twice a number, and 4 - θ²
abbrev theta : Pair Expr
theta = record { a = con (pos 0); b = con (pos 1) }

abbrev twice : Pair Expr → Pair Expr
twice e = R.mul (R.int (pos 2)) e

abbrev height : Pair Expr
height = difference R (R.int (pos 4)) (R.mul theta theta)

-- the coordinates of P, and of ζ times P
abbrev X : Pair Expr
X = x_ten exprs P

abbrev Y : Pair Expr
Y = y_ten exprs P

separate_ten : (a b : Quad ℤ) → x_ten integers a ≡ x_ten integers b → y_ten integers a ≡ y_ten integers b → a ≡ b
separate_ten a b e f =
    let xa = ap (λ (q : Pair ℤ). q.a) e in
    let xb = ap (λ (q : Pair ℤ). q.b) e in
    let ya = ap (λ (q : Pair ℤ). q.a) f in
    let yb = ap (λ (q : Pair ℤ). q.b) f in
    quad_path a b
    (zeroth a.a0 a.a1 a.a2 a.a3 b.a0 b.a1 b.a2 b.a3 xa xb ya yb)
    ya
    (second a.a1 a.a2 a.a3 b.a1 b.a2 b.a3 xb ya yb)
    (third a.a1 a.a2 a.a3 b.a1 b.a2 b.a3 xb ya yb)
  where
    zeroth : (a0 a1 a2 a3 b0 b1 b2 b3 : ℤ) → ((a0 +ℤ a0) +ℤ neg_ℤ a2) +ℤ a3 ≡ ((b0 +ℤ b0) +ℤ neg_ℤ b2) +ℤ b3
        → (a1 +ℤ a2) +ℤ neg_ℤ a3 ≡ (b1 +ℤ b2) +ℤ neg_ℤ b3 → a1 ≡ b1 → a2 +ℤ a3 ≡ b2 +ℤ b3 → a0 ≡ b0
    zeroth a0 a1 a2 a3 b0 b1 b2 b3 e f g h = omega (arith, ints)

    second : (a1 a2 a3 b1 b2 b3 : ℤ) → (a1 +ℤ a2) +ℤ neg_ℤ a3 ≡ (b1 +ℤ b2) +ℤ neg_ℤ b3 → a1 ≡ b1 → a2 +ℤ a3 ≡ b2 +ℤ b3 → a2 ≡ b2
    second a1 a2 a3 b1 b2 b3 f g h = omega (arith, ints)

    third : (a1 a2 a3 b1 b2 b3 : ℤ) → (a1 +ℤ a2) +ℤ neg_ℤ a3 ≡ (b1 +ℤ b2) +ℤ neg_ℤ b3 → a1 ≡ b1 → a2 +ℤ a3 ≡ b2 +ℤ b3 → a3 ≡ b3
    third a1 a2 a3 b1 b2 b3 f g h = omega (arith, ints)

pub points_ten_laws : PointLaws points_ten
points_ten_laws = record {
  of_ring = ring_ten_laws;
  of_real = golden_laws integers integers_laws;
  of_order = golden_order;
  cosine = record { a = pos 0; b = pos 1 };
  x-add = λ (p : Quad ℤ) (q : Quad ℤ). pair_ring (these p q q) (x_ten exprs (K.add P Q)) (R.add X (x_ten exprs Q)) refl;
  y-add = λ (p : Quad ℤ) (q : Quad ℤ). pair_ring (these p q q) (y_ten exprs (K.add P Q)) (R.add Y (y_ten exprs Q)) refl;
  cosine_below = refl;
  x-mul = λ (p : Quad ℤ) (q : Quad ℤ). pair_ring (these p q q) (twice (x_ten exprs (K.mul P Q)))
      (difference R (R.mul X (x_ten exprs Q)) (R.mul height (R.mul Y (y_ten exprs Q)))) refl;
  y-mul = λ (p : Quad ℤ) (q : Quad ℤ). pair_ring (these p q q) (twice (y_ten exprs (K.mul P Q)))
      (R.add (R.mul X (y_ten exprs Q)) (R.mul Y (x_ten exprs Q))) refl;
  x-zeta = refl;
  y-zeta = refl;
  x-conj = λ (p : Quad ℤ). pair_ring (these p p p) (x_ten exprs (conj_ten exprs P)) X refl;
  y-conj = λ (p : Quad ℤ). pair_ring (these p p p) (y_ten exprs (conj_ten exprs P)) (R.neg Y) refl;
  round = refl;
  separate = separate_ten;
  same-is = same_quad-is;
  same_self = same_quad_self;
}
