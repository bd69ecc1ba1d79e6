-- The points of order four meet the laws of points.
use Rattle.std.proofs.Common.{ℤ, pos, [], ◌∷◌, refl}
use Rattle.theory_ring.specs.Ring.{Ops, Laws, difference, integers}
use Rattle.theory_ring.specs.Surd.{Pair}
use Rattle.theory_ring.proofs.Normaliser.{Expr, var, con, exprs, ring, ◌⊕◌, ◌⊗◌}
use Rattle.theory_ring.proofs.Integers.{integers_laws}
use Rattle.theory_ring.proofs.Ordered.{integers_order}
use Rattle.theory_substitution.specs.Points.{PointLaws}
use Rattle.cyclo_points.specs.Four.{ring_four, x_four, y_four, points_four}
use Rattle.cyclo_points.proofs.Identities.{pair_path, pair_ring, same_doubles}
use Rattle.cyclo_points.proofs.PairLaws.{P, Q, S, these, whole, add_pair_assoc, add_pair_comm, add_pair_zero, add_pair_neg, int_pair-add, int_pair-neg, same_pair-is, same_pair_self}

-- the ring, over polynomials
abbrev K : Ops
K = ring_four exprs

pub ring_four_laws : Laws (ring_four integers)
ring_four_laws = record {
  add_assoc = add_pair_assoc;
  add_comm = add_pair_comm;
  add_zero = add_pair_zero;
  add_neg = add_pair_neg;
  mul_assoc = λ (p : Pair ℤ) (q : Pair ℤ) (s : Pair ℤ). pair_ring (these p q s) (K.mul (K.mul P Q) S) (K.mul P (K.mul Q S)) refl;
  mul_comm = λ (p : Pair ℤ) (q : Pair ℤ). pair_ring (these p q q) (K.mul P Q) (K.mul Q P) refl;
  mul_one = λ (p : Pair ℤ). pair_ring (these p p p) (K.mul P (K.int (pos 1))) P refl;
  mul_add = λ (p : Pair ℤ) (q : Pair ℤ) (s : Pair ℤ). pair_ring (these p q s) (K.mul P (K.add Q S)) (K.add (K.mul P Q) (K.mul P S)) refl;
  int_add = int_pair-add;
  int_mul = λ m n. pair_ring (m ∷ (n ∷ [])) (whole (var 0 ⊗ var 1)) (K.mul (whole (var 0)) (whole (var 1))) refl;
  int_neg = int_pair-neg;
}

-- twice, in the ring of coordinates
abbrev twice : Expr → Expr
twice e = con (pos 2) ⊗ e

-- 4 - t² at t = 0
abbrev height : Expr
height = difference exprs (con (pos 4)) (con (pos 0) ⊗ con (pos 0))

abbrev X : Expr
X = x_four exprs P

abbrev Y : Expr
Y = y_four exprs P

pub points_four_laws : PointLaws points_four
points_four_laws = record {
  of_ring = ring_four_laws;
  of_real = integers_laws;
  of_order = integers_order;
  cosine = pos 0;
  x-add = λ (p : Pair ℤ) (q : Pair ℤ). ring integers integers_laws (these p q q) (x_four exprs (K.add P Q)) (X ⊕ x_four exprs Q) refl;
  y-add = λ (p : Pair ℤ) (q : Pair ℤ). refl;
  cosine_below = refl;
  x-mul = λ (p : Pair ℤ) (q : Pair ℤ). ring integers integers_laws (these p q q)
      (twice (x_four exprs (K.mul P Q))) (difference exprs (X ⊗ x_four exprs Q)
      (height ⊗ (Y ⊗ y_four exprs Q))) refl;
  y-mul = λ (p : Pair ℤ) (q : Pair ℤ). ring integers integers_laws (these p q q)
      (twice (y_four exprs (K.mul P Q))) (X ⊗ y_four exprs Q ⊕ Y ⊗ x_four exprs Q) refl;
  x-zeta = refl;
  y-zeta = refl;
  x-conj = λ (p : Pair ℤ). refl;
  y-conj = λ (p : Pair ℤ). refl;
  round = refl;
  separate = λ (p : Pair ℤ) (q : Pair ℤ) e f. pair_path p q (same_doubles p.a q.a e) f;
  same-is = same_pair-is;
  same_self = same_pair_self;
}
