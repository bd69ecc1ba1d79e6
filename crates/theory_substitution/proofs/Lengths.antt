-- Squared lengths: a product by any number scales them all alike, and a motion keeps them.
use Rattle.std.proofs.Common.{◌≡◌, ℕ, zero, suc, [], ◌∷◌, pos, refl, sym, ap, ap₂, ◌∙◌}
use Rattle.std.specs.Ordering.{is_eq}
use Rattle.theory_ring.specs.Ring.{Ops, difference, power}
use Rattle.theory_ring.proofs.Normaliser.{Expr, var, con, neg, ring, ring_from, ◌⊕◌, ◌⊖◌, ◌⊗◌}
use Rattle.theory_substitution.specs.Points.{Points, PointLaws}
use Rattle.theory_substitution.specs.Motion.{Motion, moved}
use Rattle.theory_ring.specs.Sign.{IsPositive}
use Rattle.theory_substitution.specs.Plane.{twice_squared_length, same_length, IsGrowthFactor}
use Rattle.theory_ring.proofs.Signs.{sign-scale}
use Rattle.theory_plane.proofs.Linear.{two_pos, cancel}

-- 4 - t², with t the variable 0
abbrev pub height_of : Expr
height_of = con (pos 4) ⊖ var 0 ⊗ var 0

-- x² + (4 - t²) y²
abbrev pub square_of : Expr → Expr → Expr
square_of u v = u ⊗ u ⊕ height_of ⊗ (v ⊗ v)

abbrev four : Expr → Expr
four u = con (pos 2) ⊗ (con (pos 2) ⊗ u)

module _ (P : Points) (W : PointLaws P) where
  abbrev K : Ops
  K = P.ring

  abbrev V : Ops
  V = P.real.ops

  abbrev double : V.carrier → V.carrier
  double = V.mul (V.int (pos 2))

  abbrev pub height : V.carrier
  height = difference V (V.int (pos 4)) (V.mul W.cosine W.cosine)

  abbrev norm : K.carrier → V.carrier
  norm = twice_squared_length P

  abbrev square : V.carrier → V.carrier → V.carrier
  square x y = V.add (V.mul x x) (V.mul height (V.mul y y))

  pub cancel_double : (x y : V.carrier) → double x ≡ double y → x ≡ y
  cancel_double x y e =
      cancel P.real W.of_real W.of_order (V.int (pos 2)) x y (two_pos P.real W.of_real W.of_order)
      (ring_from V W.of_real (x ∷ (y ∷ [])) (con (pos 2) ⊗ (var 0 ⊖ var 1)) (con (pos 0))
      ((con (pos 1), con (pos 2) ⊗ var 0, con (pos 2) ⊗ var 1) ∷ []) (e, tt) refl)

  -- four times the squared length, by the coordinates
  pub norm-is : (z : K.carrier) → double (norm z) ≡ square (P.x z) (P.y z)
  norm-is z =
      W.x-mul z (P.conj z)
      ∙ ap₂ (λ u v. difference V (V.mul (P.x z) u) (V.mul height (V.mul (P.y z) v))) (W.x-conj z) (W.y-conj z)
      ∙ ring V W.of_real (W.cosine ∷ (P.x z ∷ (P.y z ∷ []))) (var 1 ⊗ var 1 ⊖ height_of ⊗ (var 2 ⊗ neg (var 2))) (square_of (var 1) (var 2)) refl

  -- Brahmagupta's identity: squared lengths multiply
  pub norm-mul : (l z : K.carrier) → double (norm (K.mul l z)) ≡ V.mul (norm l) (norm z)
  norm-mul l z = cancel_double _ _ (cancel_double _ _ (
      ap (λ u. double (double u)) (norm-is (K.mul l z))
      ∙ ring V W.of_real (W.cosine ∷ (P.x (K.mul l z) ∷ (P.y (K.mul l z) ∷ [])))
      (four (square_of (var 1) (var 2))) (square_of (con (pos 2) ⊗ var 1) (con (pos 2) ⊗ var 2)) refl
      ∙ ap₂ square (W.x-mul l z) (W.y-mul l z)
      ∙ ring V W.of_real (W.cosine ∷ (P.x l ∷ (P.y l ∷ (P.x z ∷ (P.y z ∷ [])))))
      (square_of (var 1 ⊗ var 3 ⊖ height_of ⊗ (var 2 ⊗ var 4)) (var 1 ⊗ var 4 ⊕ var 2 ⊗ var 3))
      (square_of (var 1) (var 2) ⊗ square_of (var 3) (var 4)) refl
      ∙ ap₂ V.mul (sym (norm-is l)) (sym (norm-is z))
      ∙ ring V W.of_real (norm l ∷ (norm z ∷ [])) ((con (pos 2) ⊗ var 0) ⊗ (con (pos 2) ⊗ var 1)) (four (var 0 ⊗ var 1)) refl))

  -- |ζ|² is 1
  pub norm_zeta : norm P.zeta ≡ V.int (pos 2)
  norm_zeta = cancel_double _ _ (
      norm-is P.zeta ∙ ap₂ square W.x-zeta W.y-zeta
      ∙ ring V W.of_real (W.cosine ∷ []) (square_of (var 0) (con (pos 1))) (con (pos 2) ⊗ con (pos 2)) refl)

  norm-turn : (z : K.carrier) → norm (K.mul P.zeta z) ≡ norm z
  norm-turn z = cancel_double _ _ (norm-mul P.zeta z ∙ ap (λ u. V.mul u (norm z)) norm_zeta)

  norm-power : (n : ℕ) (z : K.carrier) → norm (K.mul (power K P.zeta n) z) ≡ norm z
  norm-power zero z = ap norm (ring K W.of_ring (z ∷ []) (con (pos 1) ⊗ var 0) (var 0) refl)
  norm-power (suc n) z = ap norm (W.of_ring.mul_assoc P.zeta (power K P.zeta n) z) ∙ norm-turn _ ∙ norm-power n z

  -- a motion keeps the length of each segment
  pub motion-length : (m : Motion K.carrier) (a b : K.carrier) → norm (difference K (moved P m b) (moved P m a)) ≡ norm (difference K b a)
  motion-length m a b =
      ap norm (ring K W.of_ring (power K P.zeta m.turn ∷ (a ∷ (b ∷ (m.shift ∷ []))))
      ((var 0 ⊗ var 2 ⊕ var 3) ⊖ (var 0 ⊗ var 1 ⊕ var 3)) (var 0 ⊗ (var 2 ⊖ var 1)) refl)
      ∙ norm-power m.turn (difference K b a)

  scale : (k x : V.carrier) → IsPositive P.real k → P.real.sign (V.mul k x) ≡ P.real.sign x
  scale = sign-scale P.real W.of_real W.of_order

  -- which of two lengths is the greater
  pub factor-lengths : (l d e : K.carrier) → IsPositive P.real (norm l)
      → P.real.sign (difference V (norm (K.mul l d)) (norm (K.mul l e))) ≡ P.real.sign (difference V (norm d) (norm e))
  factor-lengths l d e p =
      sym (scale (V.int (pos 2)) _ (two_pos P.real W.of_real W.of_order))
      ∙ ap P.real.sign (
      ring V W.of_real (norm (K.mul l d) ∷ (norm (K.mul l e) ∷ [])) (con (pos 2) ⊗ (var 0 ⊖ var 1)) (con (pos 2) ⊗ var 0 ⊖ con (pos 2) ⊗ var 1) refl
      ∙ ap₂ (difference V) (norm-mul l d) (norm-mul l e)
      ∙ ring V W.of_real (norm l ∷ (norm d ∷ (norm e ∷ []))) (var 0 ⊗ var 1 ⊖ var 0 ⊗ var 2) (var 0 ⊗ (var 1 ⊖ var 2)) refl)
      ∙ scale (norm l) _ p

  pub factor-same_length : (l a b c d : K.carrier) → IsPositive P.real (norm l)
      → same_length P (difference K (K.mul l b) (K.mul l a))
      (difference K (K.mul l d) (K.mul l c)) ≡ same_length P (difference K b a) (difference K d c)
  factor-same_length l a b c d p = ap₂ (same_length P) (whole a b) (whole c d) ∙ ap is_eq (factor-lengths l (difference K b a) (difference K d c) p)
    where
      whole : (a b : K.carrier) → difference K (K.mul l b) (K.mul l a) ≡ K.mul l (difference K b a)
      whole a b = ring K W.of_ring (l ∷ (a ∷ (b ∷ []))) (var 0 ⊗ var 2 ⊖ var 0 ⊗ var 1) (var 0 ⊗ (var 2 ⊖ var 1)) refl

  -- a growth factor has a positive length
  pub growth_positive : (l : K.carrier) → IsGrowthFactor P l → IsPositive P.real (norm l)
  growth_positive l h =
      ap P.real.sign (ring V W.of_real (norm l ∷ []) (var 0) ((var 0 ⊖ con (pos 2)) ⊕ con (pos 2)) refl)
      ∙ W.of_order.sign-add _ _ h (two_pos P.real W.of_real W.of_order)

  -- a real number greater than 1 is a growth factor: 2 |l|² - 2 is half of (2l - 2)(2l + 2)
  pub real_growth : (l : K.carrier) → P.conj l ≡ l → IsPositive P.real (difference V (P.x l) (V.int (pos 2))) → IsGrowthFactor P l
  real_growth l own h =
      sym (scale (V.int (pos 2)) _ two_is)
      ∙ ap P.real.sign (
      ring_from V W.of_real (W.cosine ∷ (P.x l ∷ (P.y l ∷ (norm l ∷ []))))
      (con (pos 2) ⊗ (var 3 ⊖ con (pos 2))) ((var 1 ⊖ con (pos 2)) ⊗
      ((var 1 ⊖ con (pos 2)) ⊕ (con (pos 2) ⊕ con (pos 2))))
      ((con (pos 1), con (pos 2) ⊗ var 3, square_of (var 1) (var 2)) ∷ ((height_of ⊗ var 2, var 2, con (pos 0)) ∷ [])) (norm-is l, (flat, tt)) refl)
      ∙ W.of_order.sign-mul _ _ h (W.of_order.sign-add _ _ h (W.of_order.sign-add _ _ two_is two_is))
    where
      two_is : IsPositive P.real (V.int (pos 2))
      two_is = two_pos P.real W.of_real W.of_order

      flat : P.y l ≡ V.int (pos 0)
      flat = cancel_double _ _ (
          ring_from V W.of_real (P.y l ∷ []) (con (pos 2) ⊗ var 0) (con (pos 2) ⊗ con (pos 0))
          ((con (pos 1), var 0, neg (var 0)) ∷ []) (ap P.y (sym own) ∙ W.y-conj l, tt) refl)
