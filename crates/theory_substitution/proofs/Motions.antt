-- A motion followed by another moves each point by the one and then by the other; powers of ζ are counted modulo the order.
use Rattle.std.proofs.Common.{◌≡◌, ℕ, zero, suc, ◌+◌, ◌*◌, ◌/◌, ◌%◌, [], ◌∷◌, pos, refl, sym, ap, ap₂, ◌∙◌, zero-add, suc-add, suc-mul, zero-mul, div-add-mod'}
use Rattle.theory_ring.specs.Ring.{Ops, Laws, power}
use Rattle.theory_ring.proofs.Normaliser.{var, con, ring, ◌⊕◌, ◌⊗◌}
use Rattle.theory_substitution.specs.Points.{Points, PointLaws}
use Rattle.theory_substitution.specs.Motion.{Motion, moved, followed}

module _ (K : Ops) (L : Laws K) (z : K.carrier) where
  pub power-add : (m n : ℕ) → power K z (m + n) ≡ K.mul (power K z m) (power K z n)
  power-add zero n = ap (power K z) (zero-add n) ∙ ring K L (power K z n ∷ []) (var 0) (con (pos 1) ⊗ var 0) refl
  power-add (suc m) n = ap (power K z) (suc-add m n) ∙ ap (K.mul z) (power-add m n) ∙ sym (L.mul_assoc z (power K z m) (power K z n))

  module _ (n : ℕ) (round : power K z n ≡ K.int (pos 1)) where
    rounds : (q : ℕ) → power K z (q * n) ≡ K.int (pos 1)
    rounds zero = ap (power K z) (zero-mul n)
    rounds (suc q) =
        ap (power K z) (suc-mul q n) ∙ power-add (q * n) n ∙ ap₂ K.mul (rounds q) round
        ∙ ring K L [] (con (pos 1) ⊗ con (pos 1)) (con (pos 1)) refl

    pub power-mod : (m : ℕ) → power K z (m % n) ≡ power K z m
    power-mod m =
        ring K L (power K z (m % n) ∷ []) (var 0) (con (pos 1) ⊗ var 0) refl
        ∙ ap (λ u. K.mul u (power K z (m % n))) (sym (rounds (m / n)))
        ∙ sym (power-add (m / n * n) (m % n)) ∙ ap (power K z) (div-add-mod' m n)

module _ (P : Points) (W : PointLaws P) where
  pub moved-followed : (m g : Motion P.ring.carrier) (z : P.ring.carrier) → moved P (followed P m g) z ≡ moved P g (moved P m z)
  moved-followed m g z =
      ap (λ u. P.ring.add (P.ring.mul u z) (moved P g m.shift))
      (power-mod P.ring W.of_ring P.zeta P.order W.round (g.turn + m.turn)
      ∙ power-add P.ring W.of_ring P.zeta g.turn m.turn)
      ∙ ring P.ring W.of_ring (power P.ring P.zeta g.turn ∷ (power P.ring P.zeta m.turn ∷ (z ∷ (m.shift ∷ (g.shift ∷ [])))))
      ((var 0 ⊗ var 1) ⊗ var 2 ⊕ (var 0 ⊗ var 3 ⊕ var 4)) (var 0 ⊗ (var 1 ⊗ var 2 ⊕ var 3) ⊕ var 4) refl
