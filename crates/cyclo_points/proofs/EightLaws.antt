-- The points of order eight meet the laws of points.
use Rattle.std.proofs.Common.{◌≡◌, ℤ, pos, ◌+ℤ◌, neg_ℤ, [], ◌∷◌, refl, ap, arith}
use Rattle.std.proofs.lemmas.Int.{ints}
use Rattle.theory_ring.specs.Ring.{Ops, Laws, difference, integers}
use Rattle.theory_ring.specs.Surd.{Pair, root_two}
use Rattle.theory_ring.proofs.Normaliser.{Expr, var, con, exprs, ◌⊗◌}
use Rattle.theory_ring.proofs.Integers.{integers_laws}
use Rattle.theory_ring.proofs.Ordered.{root_two_laws, root_two_order}
use Rattle.theory_substitution.specs.Points.{PointLaws}
use Rattle.cyclo_points.specs.Quad.{Quad}
use Rattle.cyclo_points.specs.Eight.{ring_eight, conj_eight, x_eight, y_eight, points_eight}
use Rattle.cyclo_points.proofs.Identities.{quad_path, quad_ring, pair_ring, same_doubles}
use Rattle.cyclo_points.proofs.QuadLaws.{P, Q, S, these, whole, add_quad_assoc, add_quad_comm, add_quad_zero, add_quad_neg, int_quad-add, int_quad-neg, same_quad-is, same_quad_self}

-- the ring, and that of the coordinates, over polynomials
abbrev K : Ops
K = ring_eight exprs

abbrev R : Ops
R = root_two exprs

pub ring_eight_laws : Laws (ring_eight integers)
ring_eight_laws = record {
  add_assoc = add_quad_assoc;
  add_comm = add_quad_comm;
  add_zero = add_quad_zero;
  add_neg = add_quad_neg;
  mul_assoc = λ (p : Quad ℤ) (q : Quad ℤ) (s : Quad ℤ). quad_ring (these p q s) (K.mul (K.mul P Q) S) (K.mul P (K.mul Q S)) refl;
  mul_comm = λ (p : Quad ℤ) (q : Quad ℤ). quad_ring (these p q q) (K.mul P Q) (K.mul Q P) refl;
  mul_one = λ (p : Quad ℤ). quad_ring (these p p p) (K.mul P (K.int (pos 1))) P refl;
  mul_add = λ (p : Quad ℤ) (q : Quad ℤ) (s : Quad ℤ). quad_ring (these p q s) (K.mul P (K.add Q S)) (K.add (K.mul P Q) (K.mul P S)) refl;
  int_add = int_quad-add;
  int_mul = λ m n. quad_ring (m ∷ (n ∷ [])) (whole (var 0 ⊗ var 1)) (K.mul (whole (var 0)) (whole (var 1))) refl;
  int_neg = int_quad-neg;
}

-- θ, twice a number, and 4 - θ²
abbrev theta : Pair Expr
theta = record { a = con (pos 0); b = con (pos 1) }

abbrev twice : Pair Expr → Pair Expr
twice e = R.mul (R.int (pos 2)) e

abbrev height : Pair Expr
height = difference R (R.int (pos 4)) (R.mul theta theta)

-- the coordinates of P, and of ζ times P
abbrev X : Pair Expr
X = x_eight exprs P

abbrev Y : Pair Expr
Y = y_eight exprs P

separate_eight : (a b : Quad ℤ) → x_eight integers a ≡ x_eight integers b → y_eight integers a ≡ y_eight integers b → a ≡ b
separate_eight a b e f =
    quad_path a b
    (same_doubles a.a0 b.a0 (ap (λ (q : Pair ℤ). q.a) e))
    (first a.a1 a.a3 b.a1 b.a3 (ap (λ (q : Pair ℤ). q.b) e) (ap (λ (q : Pair ℤ). q.a) f))
    (ap (λ (q : Pair ℤ). q.b) f)
    (third a.a1 a.a3 b.a1 b.a3 (ap (λ (q : Pair ℤ). q.b) e) (ap (λ (q : Pair ℤ). q.a) f))
  where
    first : (a1 a3 b1 b3 : ℤ) → a1 +ℤ neg_ℤ a3 ≡ b1 +ℤ neg_ℤ b3 → a1 +ℤ a3 ≡ b1 +ℤ b3 → a1 ≡ b1
    first a1 a3 b1 b3 e f = omega (arith, ints)

    third : (a1 a3 b1 b3 : ℤ) → a1 +ℤ neg_ℤ a3 ≡ b1 +ℤ neg_ℤ b3 → a1 +ℤ a3 ≡ b1 +ℤ b3 → a3 ≡ b3
    third a1 a3 b1 b3 e f = omega (arith, ints)

pub points_eight_laws : PointLaws points_eight
points_eight_laws = record {
  of_ring = ring_eight_laws;
  of_real = root_two_laws integers integers_laws;
  of_order = root_two_order;
  cosine = record { a = pos 0; b = pos 1 };
  x-add = λ (p : Quad ℤ) (q : Quad ℤ). pair_ring (these p q q) (x_eight exprs (K.add P Q)) (R.add X (x_eight exprs Q)) refl;
  y-add = λ (p : Quad ℤ) (q : Quad ℤ). pair_ring (these p q q) (y_eight exprs (K.add P Q)) (R.add Y (y_eight exprs Q)) refl;
  cosine_below = refl;
  x-mul = λ (p : Quad ℤ) (q : Quad ℤ). pair_ring (these p q q) (twice (x_eight exprs (K.mul P Q)))
      (difference R (R.mul X (x_eight exprs Q)) (R.mul height (R.mul Y (y_eight exprs Q)))) refl;
  y-mul = λ (p : Quad ℤ) (q : Quad ℤ). pair_ring (these p q q) (twice (y_eight exprs (K.mul P Q)))
      (R.add (R.mul X (y_eight exprs Q)) (R.mul Y (x_eight exprs Q))) refl;
  x-zeta = refl;
  y-zeta = refl;
  x-conj = λ (p : Quad ℤ). pair_ring (these p p p) (x_eight exprs (conj_eight exprs P)) X refl;
  y-conj = λ (p : Quad ℤ). pair_ring (these p p p) (y_eight exprs (conj_eight exprs P)) (R.neg Y) refl;
  round = refl;
  separate = separate_eight;
  same-is = same_quad-is;
  same_self = same_quad_self;
}
