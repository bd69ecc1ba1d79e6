-- The products of each order, coefficient by coefficient, as sums of four products: what the code computes; and their sizes.
use Rattle.std.proofs.Common.{◌≡◌, ℕ, ℤ, pos, neg_ℤ, ◌+◌, ◌*◌, ◌+ℤ◌, ◌-ℤ◌, refl, arith}
use Rattle.theory_ring.specs.Ring.{integers}
use Rattle.theory_ring.specs.Surd.{Pair}
use Rattle.theory_ring.proofs.Normaliser.{Expr, con, neg, exprs, ring, ◌⊕◌, ◌⊖◌, ◌⊗◌}
use Rattle.theory_ring.proofs.Integers.{integers_laws}
use Rattle.cyclo_points.specs.Quad.{Quad}
use Rattle.cyclo_points.specs.Four.{mul_four}
use Rattle.cyclo_points.specs.Six.{mul_six}
use Rattle.cyclo_points.specs.Eight.{mul_eight}
use Rattle.cyclo_points.specs.Ten.{mul_ten}
use Rattle.cyclo_points.specs.Point.{Within}
use Rattle.cyclo_points.specs.Product.{product_of, dot_of}
use Rattle.cyclo_points.proofs.QuadLaws.{P, Q, these}
use Rattle.cyclo_points.proofs.Sizes.{IsWithinQuad, within_product, within_sum}
use Rattle.cyclo_points.proofs.Within.{within_wider}

pub dot_path : (p : Quad ℤ) (u0 u1 u2 u3 v0 v1 v2 v3 : ℤ) → u0 ≡ v0 → u1 ≡ v1 → u2 ≡ v2 → u3 ≡ v3 → dot_of p u0 u1 u2 u3 ≡ dot_of p v0 v1 v2 v3
dot_path p u0 u1 u2 u3 v0 v1 v2 v3 e f g h = λ i. dot_of p (e i) (f i) (g i) (h i)

eightfold : (m k : ℕ) → ((m * (2 * k) + m * (2 * k)) + m * (2 * k)) + m * (2 * k) ≡ 8 * m * k
eightfold m k = omega arith

pub dot_within : (m k : ℕ) (p : Quad ℤ) (v0 v1 v2 v3 : ℤ) → IsWithinQuad m p → Within (2 * k) v0
    → Within (2 * k) v1 → Within (2 * k) v2 → Within (2 * k) v3
    → Within (8 * m * k) (dot_of p v0 v1 v2 v3)
unfolding dot_of product_of
dot_within m k p v0 v1 v2 v3 h g0 g1 g2 g3 =
    let e = eightfold m k in
    within_wider (((m * (2 * k) + m * (2 * k)) + m * (2 * k)) + m * (2 * k)) (8 * m * k) _ (omega arith)
    (within_sum _ _ _ _ (within_sum _ _ _ _ (within_sum _ _ _ _ (within_product m (2 * k) p.a0 v0 h.at_0 g0)
    (within_product m (2 * k) p.a1 v1 h.at_1 g1)) (within_product m (2 * k) p.a2 v2 h.at_2 g2))
    (within_product m (2 * k) p.a3 v3 h.at_3 g3))

abbrev dots : Expr → Expr → Expr → Expr → Expr
dots v0 v1 v2 v3 = P.a0 ⊗ v0 ⊕ P.a1 ⊗ v1 ⊕ P.a2 ⊗ v2 ⊕ P.a3 ⊗ v3

module _ (p q : Quad ℤ) where
  -- ---- order four: ζ q is (-q1, q0)
  abbrev product_four : Pair ℤ
  product_four = mul_four integers (record { a = p.a0; b = p.a1 }) (record { a = q.a0; b = q.a1 })

  abbrev poly_four : Pair Expr
  poly_four = mul_four exprs (record { a = P.a0; b = P.a1 }) (record { a = Q.a0; b = Q.a1 })

  pub four_0 : dot_of p q.a0 (neg_ℤ q.a1) (pos 0) (pos 0) ≡ product_four.a
  unfolding dot_of product_of
  four_0 = ring integers integers_laws (these p q q) (dots Q.a0 (neg Q.a1) (con (pos 0)) (con (pos 0))) poly_four.a refl

  pub four_1 : dot_of p q.a1 q.a0 (pos 0) (pos 0) ≡ product_four.b
  unfolding dot_of product_of
  four_1 = ring integers integers_laws (these p q q) (dots Q.a1 Q.a0 (con (pos 0)) (con (pos 0))) poly_four.b refl

  -- ---- order six: ζ q is (-q1, q0 + q1)
  abbrev product_six : Pair ℤ
  product_six = mul_six integers (record { a = p.a0; b = p.a1 }) (record { a = q.a0; b = q.a1 })

  abbrev poly_six : Pair Expr
  poly_six = mul_six exprs (record { a = P.a0; b = P.a1 }) (record { a = Q.a0; b = Q.a1 })

  pub six_0 : dot_of p q.a0 (neg_ℤ q.a1) (pos 0) (pos 0) ≡ product_six.a
  unfolding dot_of product_of
  six_0 = ring integers integers_laws (these p q q) (dots Q.a0 (neg Q.a1) (con (pos 0)) (con (pos 0))) poly_six.a refl

  pub six_1 : dot_of p q.a1 (q.a0 +ℤ q.a1) (pos 0) (pos 0) ≡ product_six.b
  unfolding dot_of product_of
  six_1 = ring integers integers_laws (these p q q) (dots Q.a1 (Q.a0 ⊕ Q.a1) (con (pos 0)) (con (pos 0))) poly_six.b refl

  -- ---- order eight
  pub eight_0 : dot_of p q.a0 (neg_ℤ q.a3) (neg_ℤ q.a2) (neg_ℤ q.a1) ≡ (mul_eight integers p q).a0
  unfolding dot_of product_of
  eight_0 = ring integers integers_laws (these p q q) (dots Q.a0 (neg Q.a3) (neg Q.a2) (neg Q.a1)) (mul_eight exprs P Q).a0 refl

  pub eight_1 : dot_of p q.a1 q.a0 (neg_ℤ q.a3) (neg_ℤ q.a2) ≡ (mul_eight integers p q).a1
  unfolding dot_of product_of
  eight_1 = ring integers integers_laws (these p q q) (dots Q.a1 Q.a0 (neg Q.a3) (neg Q.a2)) (mul_eight exprs P Q).a1 refl

  pub eight_2 : dot_of p q.a2 q.a1 q.a0 (neg_ℤ q.a3) ≡ (mul_eight integers p q).a2
  unfolding dot_of product_of
  eight_2 = ring integers integers_laws (these p q q) (dots Q.a2 Q.a1 Q.a0 (neg Q.a3)) (mul_eight exprs P Q).a2 refl

  pub eight_3 : dot_of p q.a3 q.a2 q.a1 q.a0 ≡ (mul_eight integers p q).a3
  unfolding dot_of product_of
  eight_3 = ring integers integers_laws (these p q q) (dots Q.a3 Q.a2 Q.a1 Q.a0) (mul_eight exprs P Q).a3 refl

  -- ---- order ten
  pub ten_0 : dot_of p q.a0 (neg_ℤ q.a3) (neg_ℤ (q.a2 +ℤ q.a3)) (neg_ℤ (q.a1 +ℤ q.a2)) ≡ (mul_ten integers p q).a0
  unfolding dot_of product_of
  ten_0 = ring integers integers_laws (these p q q) (dots Q.a0 (neg Q.a3) (neg (Q.a2 ⊕ Q.a3)) (neg (Q.a1 ⊕ Q.a2))) (mul_ten exprs P Q).a0 refl

  pub ten_1 : dot_of p q.a1 (q.a0 +ℤ q.a3) q.a2 (q.a1 -ℤ q.a3) ≡ (mul_ten integers p q).a1
  unfolding dot_of product_of
  ten_1 = ring integers integers_laws (these p q q) (dots Q.a1 (Q.a0 ⊕ Q.a3) Q.a2 (Q.a1 ⊖ Q.a3)) (mul_ten exprs P Q).a1 refl

  pub ten_2 : dot_of p q.a2 (q.a1 -ℤ q.a3) (q.a0 -ℤ q.a2) (neg_ℤ q.a1) ≡ (mul_ten integers p q).a2
  unfolding dot_of product_of
  ten_2 = ring integers integers_laws (these p q q) (dots Q.a2 (Q.a1 ⊖ Q.a3) (Q.a0 ⊖ Q.a2) (neg Q.a1)) (mul_ten exprs P Q).a2 refl

  pub ten_3 : dot_of p q.a3 (q.a2 +ℤ q.a3) (q.a1 +ℤ q.a2) (q.a0 +ℤ q.a1) ≡ (mul_ten integers p q).a3
  unfolding dot_of product_of
  ten_3 = ring integers integers_laws (these p q q) (dots Q.a3 (Q.a2 ⊕ Q.a3) (Q.a1 ⊕ Q.a2) (Q.a0 ⊕ Q.a1)) (mul_ten exprs P Q).a3 refl
