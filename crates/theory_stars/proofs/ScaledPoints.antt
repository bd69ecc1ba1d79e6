-- Whole multiples of points: where they lie in the plane, and that they keep left turns, segments and equal lengths.
use Rattle.std.proofs.Common.{◌≡◌, ℕ, zero, suc, List, [], ◌∷◌, ℤ, pos, ◌+ℤ◌, refl, sym, ap, ap₂, ◌∙◌, arith}
use Rattle.std.proofs.lemmas.Int.{ints}
use Rattle.theory_ring.specs.Ring.{Ops, difference}
use Rattle.theory_ring.specs.Sign.{IsPositive}
use Rattle.theory_ring.proofs.Normaliser.{var, con, neg, ring, ring_from, ◌⊕◌, ◌⊖◌, ◌⊗◌}
use Rattle.theory_ring.proofs.Signs.{sign-scale}
use Rattle.theory_plane.specs.Box.{scaled}
use Rattle.theory_plane.proofs.BoxPoints.{whole_positive}
use Rattle.theory_substitution.specs.Points.{Points, PointLaws}
use Rattle.theory_substitution.specs.Plane.{plane_point, twice_squared_length, Keeps}
use Rattle.theory_substitution.proofs.Keeping.{product-keeps}

module _ (P : Points) (W : PointLaws P) where
  abbrev K : Ops
  K = P.ring

  abbrev V : Ops
  V = P.real.ops

  abbrev times : ℕ → K.carrier → K.carrier
  times n z = K.mul (K.int (pos (suc n))) z

  -- ---- coordinates
  times-more : (n : ℕ) (z : K.carrier) → times (suc n) z ≡ K.add (times n z) z
  times-more n z =
      ap (λ k. K.mul k z) (ap K.int (next n) ∙ W.of_ring.int_add (pos (suc n)) (pos 1))
      ∙ ring K W.of_ring (K.int (pos (suc n)) ∷ (z ∷ [])) ((var 0 ⊕ con (pos 1)) ⊗ var 1) (var 0 ⊗ var 1 ⊕ var 1) refl
    where
      next : (k : ℕ) → pos (suc (suc k)) ≡ pos (suc k) +ℤ pos 1
      next k = omega (arith, ints)

  real-more : (n : ℕ) (x : V.carrier) → V.mul (V.int (pos (suc (suc n)))) x ≡ V.add (V.mul (V.int (pos (suc n))) x) x
  real-more n x =
      ap (λ k. V.mul k x) (ap V.int (next n) ∙ W.of_real.int_add (pos (suc n)) (pos 1))
      ∙ ring V W.of_real (V.int (pos (suc n)) ∷ (x ∷ [])) ((var 0 ⊕ con (pos 1)) ⊗ var 1) (var 0 ⊗ var 1 ⊕ var 1) refl
    where
      next : (k : ℕ) → pos (suc (suc k)) ≡ pos (suc k) +ℤ pos 1
      next k = omega (arith, ints)

  once : (z : K.carrier) → times 0 z ≡ z
  once z = ring K W.of_ring (z ∷ []) (con (pos 1) ⊗ var 0) (var 0) refl

  real-once : (x : V.carrier) → V.mul (V.int (pos 1)) x ≡ x
  real-once x = ring V W.of_real (x ∷ []) (con (pos 1) ⊗ var 0) (var 0) refl

  x-times : (n : ℕ) (z : K.carrier) → P.x (times n z) ≡ V.mul (V.int (pos (suc n))) (P.x z)
  x-times zero z = ap P.x (once z) ∙ sym (real-once (P.x z))
  x-times (suc n) z = ap P.x (times-more n z) ∙ W.x-add (times n z) z ∙ ap (λ u. V.add u (P.x z)) (x-times n z) ∙ sym (real-more n (P.x z))

  y-times : (n : ℕ) (z : K.carrier) → P.y (times n z) ≡ V.mul (V.int (pos (suc n))) (P.y z)
  y-times zero z = ap P.y (once z) ∙ sym (real-once (P.y z))
  y-times (suc n) z = ap P.y (times-more n z) ∙ W.y-add (times n z) z ∙ ap (λ u. V.add u (P.y z)) (y-times n z) ∙ sym (real-more n (P.y z))

  pub times-scaled : (n : ℕ) (z : K.carrier) → plane_point P (times n z) ≡ scaled V (V.int (pos (suc n))) (plane_point P z)
  times-scaled n z = λ i. record { x = x-times n z i; y = y-times n z i }

  -- ---- the coordinates of one
  abbrev one : K.carrier
  one = K.int (pos 1)

  abbrev these : List V.carrier
  these = P.x one ∷ (P.y one ∷ (W.cosine ∷ []))

  one-zeta : K.mul one P.zeta ≡ P.zeta
  one-zeta = once P.zeta

  height-zeta : V.mul (V.int (pos 2)) (V.int (pos 1)) ≡ V.add (V.mul (P.x one) (V.int (pos 1))) (V.mul (P.y one) W.cosine)
  height-zeta = ap (V.mul (V.int (pos 2))) (sym W.y-zeta ∙ ap P.y (sym one-zeta)) ∙ W.y-mul one P.zeta
      ∙ ap₂ (λ u v. V.add (V.mul (P.x one) u) (V.mul (P.y one) v)) W.y-zeta W.x-zeta

  width-zeta : V.mul (V.int (pos 2)) W.cosine
      ≡ difference V (V.mul (P.x one) W.cosine) (V.mul (difference V (V.int (pos 4)) (V.mul W.cosine W.cosine)) (V.mul (P.y one) (V.int (pos 1))))
  width-zeta = ap (V.mul (V.int (pos 2))) (sym W.x-zeta ∙ ap P.x (sym one-zeta)) ∙ W.x-mul one P.zeta
      ∙ ap₂ (λ u v. difference V (V.mul (P.x one) u)
      (V.mul (difference V (V.int (pos 4)) (V.mul W.cosine W.cosine)) (V.mul (P.y one) v))) W.x-zeta
      W.y-zeta

  four-times : V.mul (V.int (pos 4)) (P.y one) ≡ V.int (pos 0)
  four-times = ring_from V W.of_real these (con (pos 4) ⊗ var 1) (con (pos 0))
      ((neg (var 2), con (pos 2) ⊗ con (pos 1), var 0 ⊗ con (pos 1) ⊕ var 1 ⊗ var 2)
      ∷ ((con (pos 1), con (pos 2) ⊗ var 2, var 0 ⊗ var 2 ⊖ (con (pos 4) ⊖ var 2 ⊗ var 2) ⊗ (var 1 ⊗ con (pos 1))) ∷ []))
      (height-zeta, (width-zeta, tt)) refl

  flat : P.y one ≡ V.int (pos 0)
  flat = W.of_order.equal_zero _ (sym (sign-scale P.real W.of_real W.of_order (V.int (pos 4)) (P.y one)
      (whole_positive P.real W.of_real W.of_order 3)) ∙ ap P.real.sign four-times ∙ W.of_order.zero_equal)

  two-wide : P.x one ≡ V.int (pos 2)
  two-wide = ring_from V W.of_real these (var 0) (con (pos 2))
      ((con (ℤ.negsuc 0), con (pos 2) ⊗ con (pos 1), var 0 ⊗ con (pos 1) ⊕ var 1 ⊗ var 2)
      ∷ ((neg (var 2), var 1, con (pos 0)) ∷ [])) (height-zeta, (flat, tt)) refl

  -- ---- the multiple as a product by a number with a positive length
  length-positive : (n : ℕ) → IsPositive P.real (twice_squared_length P (K.int (pos (suc n))))
  length-positive n =
      ap P.real.sign (x-times n (P.conj (K.int (pos (suc n)))))
      ∙ sign-scale P.real W.of_real W.of_order _ _ (whole_positive P.real W.of_real W.of_order n)
      ∙ ap P.real.sign (W.x-conj (K.int (pos (suc n))) ∙ ap P.x itself ∙ x-times n one)
      ∙ sign-scale P.real W.of_real W.of_order _ _ (whole_positive P.real W.of_real W.of_order n)
      ∙ ap P.real.sign two-wide ∙ whole_positive P.real W.of_real W.of_order 1
    where
      itself : K.int (pos (suc n)) ≡ times n one
      itself = ring K W.of_ring (K.int (pos (suc n)) ∷ []) (var 0) (var 0 ⊗ con (pos 1)) refl

  pub times-keeps : (n : ℕ) → Keeps P (K.mul (K.int (pos (suc n))))
  times-keeps n = product-keeps P W (K.int (pos (suc n))) (length-positive n)
