-- The points of order six meet the laws of points.
use Rattle.std.proofs.Common.{◌≡◌, ℤ, pos, [], ◌∷◌, refl, ◌+ℤ◌, arith}
use Rattle.std.proofs.lemmas.Int.{ints}
use Rattle.theory_ring.specs.Ring.{Ops, Laws, difference, integers}
use Rattle.theory_ring.specs.Surd.{Pair}
use Rattle.theory_ring.proofs.Normaliser.{Expr, var, con, exprs, ring, ◌⊕◌, ◌⊗◌}
use Rattle.theory_ring.proofs.Integers.{integers_laws}
use Rattle.theory_ring.proofs.Ordered.{integers_order}
use Rattle.theory_substitution.specs.Points.{PointLaws}
use Rattle.cyclo_points.specs.Six.{ring_six, conj_six, x_six, y_six, points_six}
use Rattle.cyclo_points.proofs.Identities.{pair_path, pair_ring}
use Rattle.cyclo_points.proofs.PairLaws.{P, Q, S, these, whole, add_pair_assoc, add_pair_comm, add_pair_zero, add_pair_neg, int_pair-add, int_pair-neg, same_pair-is, same_pair_self}

-- the ring, over polynomials
abbrev K : Ops
K = ring_six exprs

pub ring_six_laws : Laws (ring_six integers)
ring_six_laws = record {
  add_assoc = add_pair_assoc;
  add_comm = add_pair_comm;
  add_zero = add_pair_zero;
  add_neg = add_pair_neg;
  mul_assoc = λ (p : Pair ℤ) (q : Pair ℤ) (s : Pair ℤ). pair_ring (these p q s) (K.mul (K.mul P Q) S) (K.mul P (K.mul Q S)) refl;
  mul_comm = λ (p : Pair ℤ) (q : Pair ℤ). pair_ring (these p q q) (K.mul P Q) (K.mul Q P) refl;
  mul_one = λ (p : Pair ℤ). pair_ring (these p p p) (K.mul P (K.int (pos 1))) P refl;
  mul_add = λ (p : Pair ℤ) (q : Pair ℤ) (s : Pair ℤ). pair_ring (these p q s) (K.mul P (K.add Q S)) (K.add (K.mul P Q) (K.mul P S)) refl;
  int_add = int_pair-add;
  int_mul = λ m n. pair_ring (m ∷ (n ∷ [])) (whole (var 0 ⊗ var 1)) (K.mul (whole (var 0)) (whole (var 1))) refl;
  int_neg = int_pair-neg;
}

-- twice, in the ring of coordinates
abbrev twice : Expr → Expr
twice e = con (pos 2) ⊗ e

-- 4 - t² at t = 1
abbrev height : Expr
height = difference exprs (con (pos 4)) (con (pos 1) ⊗ con (pos 1))

abbrev X : Expr
X = x_six exprs P

abbrev Y : Expr
Y = y_six exprs P

first : (a b c d : ℤ) → (a +ℤ a) +ℤ b ≡ (c +ℤ c) +ℤ d → b ≡ d → a ≡ c
first a b c d e f = omega (arith, ints)

pub points_six_laws : PointLaws points_six
points_six_laws = record {
  of_ring = ring_six_laws;
  of_real = integers_laws;
  of_order = integers_order;
  cosine = pos 1;
  x-add = λ (p : Pair ℤ) (q : Pair ℤ). ring integers integers_laws (these p q q) (x_six exprs (K.add P Q)) (X ⊕ x_six exprs Q) refl;
  y-add = λ (p : Pair ℤ) (q : Pair ℤ). refl;
  cosine_below = refl;
  x-mul = λ (p : Pair ℤ) (q : Pair ℤ). ring integers integers_laws (these p q q)
      (twice (x_six exprs (K.mul P Q))) (difference exprs (X ⊗ x_six exprs Q) (height ⊗ (Y ⊗ y_six exprs Q)))
      refl;
  y-mul = λ (p : Pair ℤ) (q : Pair ℤ). ring integers integers_laws (these p q q)
      (twice (y_six exprs (K.mul P Q))) (X ⊗ y_six exprs Q ⊕ Y ⊗ x_six exprs Q) refl;
  x-zeta = refl;
  y-zeta = refl;
  x-conj = λ (p : Pair ℤ). ring integers integers_laws (these p p p) (x_six exprs (conj_six exprs P)) X refl;
  y-conj = λ (p : Pair ℤ). refl;
  round = refl;
  separate = λ (p : Pair ℤ) (q : Pair ℤ) e f. pair_path p q (first p.a p.b q.a q.b e f) f;
  same-is = same_pair-is;
  same_self = same_pair_self;
}
