-- Helly's theorem on a line: convex sets of points of an edge that meet two by two have a common point. A point of the edge is given by
-- the weights of its two ends.
use Rattle.std.proofs.Common.{◌≡◌, ◌⊎◌, inl, inr, List, [], ◌∷◌, pos, negsuc, sym, ap, ◌∙◌, refl, Ordering, Less, Equal, Greater}
use Rattle.std.specs.Ordering.{is_lt}
use Rattle.theory_ring.specs.Ring.{Ops, Laws, difference}
use Rattle.theory_ring.specs.Sign.{Signed, OrderLaws}
use Rattle.theory_ring.proofs.Normaliser.{Expr, var, con, neg, ring, ring_by, ◌⊕◌, ◌⊖◌, ◌⊗◌}
use Rattle.theory_ring.specs.Sign.{IsPositive, IsNonNegative}
use Rattle.theory_ring.proofs.Signs.{pos_nonneg, zero_nonneg, nonneg_cases, less_neg, pos_add_nonneg, nonneg_mul, sign-scale}

-- a point of an edge: the mean of its ends with weights i and j, which aren't negative and not both 0
pub record Weights (S : Signed) : Type 0 where
  pub i : S.ops.carrier
  pub j : S.ops.carrier
  pub i_nonneg : IsNonNegative S i
  pub j_nonneg : IsNonNegative S j
  pub some : IsPositive S (S.ops.add i j)

-- v is a mean of u and w
pub record IsMean (S : Signed) (u w v : Weights S) : Type 0 where
  pub k : S.ops.carrier
  pub i : S.ops.carrier
  pub j : S.ops.carrier
  pub k_pos : IsPositive S k
  pub i_nonneg : IsNonNegative S i
  pub j_nonneg : IsNonNegative S j
  pub some : IsPositive S (S.ops.add i j)
  pub at_i : S.ops.mul k v.i ≡ S.ops.add (S.ops.mul i u.i) (S.ops.mul j w.i)
  pub at_j : S.ops.mul k v.j ≡ S.ops.add (S.ops.mul i u.j) (S.ops.mul j w.j)

-- a set of points of the edge holds each mean of two of its points
abbrev pub IsConvex : (S : Signed) → (Weights S → Type 0) → Type 0
IsConvex S C = (u w v : Weights S) → IsMean S u w v → C u → C w → C v

-- the common part of two sets
abbrev pub Both : (S : Signed) → (Weights S → Type 0) → (Weights S → Type 0) → Weights S → Type 0
Both S C D u = C u × D u

-- two sets have a common point
abbrev pub Meet : (S : Signed) → (Weights S → Type 0) → (Weights S → Type 0) → Type 0
Meet S C D = (u : Weights S) × C u × D u

pub convex-both : (S : Signed) (C D : Weights S → Type 0) → IsConvex S C → IsConvex S D → IsConvex S (Both S C D)
convex-both S C D f g u w v m p q = (f u w v m p.0 q.0, g u w v m p.1 q.1)

module _ (S : Signed) (L : Laws S.ops) (O : OrderLaws S) where
  abbrev R : Ops
  R = S.ops

  -- the sum of the weights
  abbrev total : Weights S → R.carrier
  total u = R.add u.i u.j

  -- at least 0 where v doesn't come before u on the way along the edge
  abbrev after : Weights S → Weights S → R.carrier
  after u v = difference R (R.mul u.i v.j) (R.mul u.j v.i)

  abbrev all : Weights S → Weights S → Weights S → List R.carrier
  all u v w = u.i ∷ (u.j ∷ (v.i ∷ (v.j ∷ (w.i ∷ (w.j ∷ [])))))

  -- `after` of the variables that begin at m and n
  abbrev way : Expr → Expr → Expr → Expr → Expr
  way a b c d = a ⊗ d ⊖ b ⊗ c

  -- (after u w) v is the mean of u and w with these weights
  mean_at_i : (u v w : Weights S) → R.mul (after u w) v.i ≡ R.add (R.mul (after v w) u.i) (R.mul (after u v) w.i)
  mean_at_i u v w = ring R L (all u v w)
      (way (var 0) (var 1) (var 4) (var 5) ⊗ var 2) (way (var 2) (var 3) (var 4) (var 5) ⊗ var 0 ⊕ way (var 0) (var 1) (var 2) (var 3) ⊗ var 4) refl

  mean_at_j : (u v w : Weights S) → R.mul (after u w) v.j ≡ R.add (R.mul (after v w) u.j) (R.mul (after u v) w.j)
  mean_at_j u v w = ring R L (all u v w)
      (way (var 0) (var 1) (var 4) (var 5) ⊗ var 3) (way (var 2) (var 3) (var 4) (var 5) ⊗ var 1 ⊕ way (var 0) (var 1) (var 2) (var 3) ⊗ var 5) refl

  mean_total : (u v w : Weights S) → R.mul (total v) (after u w) ≡ R.add (R.mul (after v w) (total u)) (R.mul (after u v) (total w))
  mean_total u v w = ring R L (all u v w)
      ((var 2 ⊕ var 3) ⊗ way (var 0) (var 1) (var 4) (var 5))
      (way (var 2) (var 3) (var 4) (var 5) ⊗ (var 0 ⊕ var 1) ⊕ way (var 0) (var 1) (var 2) (var 3) ⊗ (var 4 ⊕ var 5)) refl

  apart : (u v w : Weights S) → IsPositive S (after u v) → IsNonNegative S (after v w) → IsMean S u w v
  apart u v w f g = record {
    k = after u w;
    i = after v w;
    j = after u v;
    k_pos = sym (sign-scale S L O (total v) (after u w) v.some) ∙ ap S.sign (mean_total u v w ∙ L.add_comm _ _)
        ∙ pos_add_nonneg S L O (R.mul (after u v) (total w)) (R.mul (after v w) (total u))
        (O.sign-mul (after u v) (total w) f w.some) (nonneg_mul S L O (after v w) (total u) g (pos_nonneg S L O (total u) u.some));
    i_nonneg = g;
    j_nonneg = pos_nonneg S L O (after u v) f;
    some = ap S.sign (L.add_comm _ _) ∙ pos_add_nonneg S L O (after u v) (after v w) f g;
    at_i = mean_at_i u v w;
    at_j = mean_at_j u v w;
  }

  -- where u and v are one point of the edge
  alike : (u v w : Weights S) → after u v ≡ R.int (pos 0) → IsMean S u w v
  alike u v w e = record {
    k = total u;
    i = total v;
    j = R.int (pos 0);
    k_pos = u.some;
    i_nonneg = pos_nonneg S L O (total v) v.some;
    j_nonneg = zero_nonneg S L O (R.int (pos 0)) O.zero_equal;
    some = ap S.sign (L.add_zero (total v)) ∙ v.some;
    at_i = ring_by R L (all u v w) ((var 0 ⊕ var 1) ⊗ var 2) ((var 2 ⊕ var 3) ⊗ var 0 ⊕ con (pos 0) ⊗ var 4)
        (con (negsuc 0)) (way (var 0) (var 1) (var 2) (var 3)) (con (pos 0)) e refl;
    at_j = ring_by R L (all u v w) ((var 0 ⊕ var 1) ⊗ var 3) ((var 2 ⊕ var 3) ⊗ var 1 ⊕ con (pos 0) ⊗ var 5)
        (con (pos 1)) (way (var 0) (var 1) (var 2) (var 3)) (con (pos 0)) e refl;
  }

  -- of three points in their order along the edge the second is a mean of the two others
  middle : (u v w : Weights S) → IsNonNegative S (after u v) → IsNonNegative S (after v w) → IsMean S u w v
  middle u v w f g = at_case (nonneg_cases S L O (after u v) f)
    where
      at_case : IsPositive S (after u v) ⊎ (after u v ≡ R.int (pos 0)) → IsMean S u w v
      at_case (inl h) = apart u v w h g
      at_case (inr e) = alike u v w e

  in_order : (u v : Weights S) → IsNonNegative S (after u v) ⊎ IsNonNegative S (after v u)
  in_order u v = at_sign (S.sign (after u v)) refl
    where
      back : R.neg (after u v) ≡ after v u
      back = ring R L (u.i ∷ (u.j ∷ (v.i ∷ (v.j ∷ [])))) (neg (way (var 0) (var 1) (var 2) (var 3))) (way (var 2) (var 3) (var 0) (var 1)) refl

      at_sign : (o : Ordering) → S.sign (after u v) ≡ o → IsNonNegative S (after u v) ⊎ IsNonNegative S (after v u)
      at_sign Less e = inr (pos_nonneg S L O (after v u) (ap S.sign (sym back) ∙ less_neg S L O (after u v) e))
      at_sign Equal e = inl (ap is_lt e)
      at_sign Greater e = inl (ap is_lt e)

  mean-turned : (u v w : Weights S) → IsMean S w u v → IsMean S u w v
  mean-turned u v w m = record {
    k = m.k;
    i = m.j;
    j = m.i;
    k_pos = m.k_pos;
    i_nonneg = m.j_nonneg;
    j_nonneg = m.i_nonneg;
    some = ap S.sign (L.add_comm m.j m.i) ∙ m.some;
    at_i = m.at_i ∙ L.add_comm _ _;
    at_j = m.at_j ∙ L.add_comm _ _;
  }

  -- one of three points is a mean of the two others
  one_between : (u v w : Weights S) → IsMean S v w u ⊎ IsMean S u w v ⊎ IsMean S u v w
  one_between u v w = at_case (in_order u v) (in_order v w) (in_order u w)
    where
      at_case : IsNonNegative S (after u v) ⊎ IsNonNegative S (after v u) → IsNonNegative S (after v w) ⊎ IsNonNegative S (after w v)
          → IsNonNegative S (after u w) ⊎ IsNonNegative S (after w u) → IsMean S v w u ⊎ IsMean S u w v ⊎ IsMean S u v w
      at_case (inl f) (inl g) h = inr (inl (middle u v w f g))
      at_case (inr f) (inr g) h = inr (inl (mean-turned u v w (middle w v u g f)))
      at_case (inl f) (inr g) (inl h) = inr (inr (middle u w v h g))
      at_case (inl f) (inr g) (inr h) = inl (mean-turned v u w (middle w u v h f))
      at_case (inr f) (inl g) (inl h) = inl (middle v u w f h)
      at_case (inr f) (inl g) (inr h) = inr (inr (mean-turned u w v (middle v w u g h)))

  -- three convex sets that meet two by two have a common point
  pub three_meet : (C D E : Weights S → Type 0) → IsConvex S C → IsConvex S D → IsConvex S E → Meet S C D
      → Meet S C E → Meet S D E → Meet S (Both S C D) E
  three_meet C D E f g h p q r = at_case (one_between p.0 q.0 r.0)
    where
      at_case : IsMean S q.0 r.0 p.0 ⊎ IsMean S p.0 r.0 q.0 ⊎ IsMean S p.0 q.0 r.0 → Meet S (Both S C D) E
      at_case (inl m) = (p.0, (p.1, p.2), h q.0 r.0 p.0 m q.2 r.2)
      at_case (inr (inl m)) = (q.0, (q.1, g p.0 r.0 q.0 m p.2 r.1), q.2)
      at_case (inr (inr m)) = (r.0, (f p.0 q.0 r.0 m p.1 q.1, r.1), r.2)

  -- and so have four
  pub four_meet : (C D E F : Weights S → Type 0) → IsConvex S C → IsConvex S D → IsConvex S E → IsConvex S F
      → Meet S C D → Meet S C E → Meet S C F → Meet S D E → Meet S D F → Meet S E F → Meet S (Both S (Both S C D) E) F
  four_meet C D E F c d e f cd ce cf de df ef =
      three_meet (Both S C D) E F (convex-both S C D c d) e f (three_meet C D E c d e cd ce de) (three_meet C D F c d f cd cf df) ef
