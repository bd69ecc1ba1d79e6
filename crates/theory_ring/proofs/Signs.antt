-- What an ordered ring gives: signs of products, sums and multiples.
use Rattle.std.proofs.Common.{◌≡◌, ◌⊎◌, inl, inr, [], ◌∷◌, pos, refl, sym, ap, ◌∙◌, false, Ordering, Less, Equal, Greater}
use Rattle.std.specs.Ordering.{ordering_reverse, is_gt, is_lt}
use Rattle.theory_ring.specs.Ring.{Laws}
use Rattle.theory_ring.specs.Sign.{Signed, OrderLaws}
use Rattle.theory_ring.specs.Sign.{IsPositive, IsNonNegative}
use Rattle.theory_ring.proofs.Normaliser.{var, con, neg, ring, ◌⊗◌}

reverse_twice : (o : Ordering) → ordering_reverse (ordering_reverse o) ≡ o
reverse_twice Less = refl
reverse_twice Equal = refl
reverse_twice Greater = refl

module _ (S : Signed) (L : Laws S.ops) (O : OrderLaws S) where
  pub pos_nonneg : (x : S.ops.carrier) → IsPositive S x → IsNonNegative S x
  pos_nonneg x h = ap is_lt h

  pub zero_nonneg : (x : S.ops.carrier) → S.sign x ≡ Equal → IsNonNegative S x
  zero_nonneg x h = ap is_lt h

  -- a number that isn't negative is positive or 0
  pub nonneg_cases : (x : S.ops.carrier) → IsNonNegative S x → IsPositive S x ⊎ (x ≡ S.ops.int (pos 0))
  nonneg_cases x h = at_sign (S.sign x) refl
    where
      at_sign : (o : Ordering) → S.sign x ≡ o → IsPositive S x ⊎ (x ≡ S.ops.int (pos 0))
      at_sign Less e = absurd (cc (h, ap is_lt e))
      at_sign Equal e = inr (O.equal_zero x e)
      at_sign Greater e = inl e

  -- the negative of a number that isn't positive isn't negative
  pub not_pos : (x : S.ops.carrier) → is_gt (S.sign x) ≡ false → IsNonNegative S (S.ops.neg x)
  not_pos x h = at_sign (S.sign x) refl
    where
      at_sign : (o : Ordering) → S.sign x ≡ o → IsNonNegative S (S.ops.neg x)
      at_sign Less e = ap is_lt (O.sign-neg x ∙ ap ordering_reverse e)
      at_sign Equal e = ap is_lt (O.sign-neg x ∙ ap ordering_reverse e)
      at_sign Greater e = absurd (cc (h, ap is_gt e))

  pub neg_not_pos : (x : S.ops.carrier) → IsNonNegative S (S.ops.neg x) → is_gt (S.sign x) ≡ false
  neg_not_pos x h = at_sign (S.sign x) refl
    where
      at_sign : (o : Ordering) → S.sign x ≡ o → is_gt (S.sign x) ≡ false
      at_sign Less e = ap is_gt e
      at_sign Equal e = ap is_gt e
      at_sign Greater e = absurd (cc (h, ap is_lt (O.sign-neg x ∙ ap ordering_reverse e)))

  pub less_neg : (x : S.ops.carrier) → S.sign x ≡ Less → IsPositive S (S.ops.neg x)
  less_neg x h = O.sign-neg x ∙ ap ordering_reverse h

  pub pos_add_nonneg : (x y : S.ops.carrier) → IsPositive S x → IsNonNegative S y → IsPositive S (S.ops.add x y)
  pos_add_nonneg x y p q = at_case (nonneg_cases y q)
    where
      at_case : IsPositive S y ⊎ (y ≡ S.ops.int (pos 0)) → IsPositive S (S.ops.add x y)
      at_case (inl h) = O.sign-add x y p h
      at_case (inr e) = ap S.sign (ap (S.ops.add x) e ∙ L.add_zero x) ∙ p

  pub nonneg_add : (x y : S.ops.carrier) → IsNonNegative S x → IsNonNegative S y → IsNonNegative S (S.ops.add x y)
  nonneg_add x y p q = at_case (nonneg_cases y q)
    where
      at_case : IsPositive S y ⊎ (y ≡ S.ops.int (pos 0)) → IsNonNegative S (S.ops.add x y)
      at_case (inl h) = pos_nonneg _ (ap S.sign (L.add_comm x y) ∙ pos_add_nonneg y x h p)
      at_case (inr e) = ap is_lt (ap S.sign (ap (S.ops.add x) e ∙ L.add_zero x)) ∙ p

  pub times_zero : (x : S.ops.carrier) → S.ops.mul x (S.ops.int (pos 0)) ≡ S.ops.int (pos 0)
  times_zero x = ring S.ops L (x ∷ []) (var 0 ⊗ con (pos 0)) (con (pos 0)) refl

  pub zero_times : (x : S.ops.carrier) → S.ops.mul (S.ops.int (pos 0)) x ≡ S.ops.int (pos 0)
  zero_times x = ring S.ops L (x ∷ []) (con (pos 0) ⊗ var 0) (con (pos 0)) refl

  pub nonneg_mul : (x y : S.ops.carrier) → IsNonNegative S x → IsNonNegative S y → IsNonNegative S (S.ops.mul x y)
  nonneg_mul x y p q = at_case (nonneg_cases x p) (nonneg_cases y q)
    where
      at_case : IsPositive S x ⊎ (x ≡ S.ops.int (pos 0)) → IsPositive S y ⊎ (y ≡ S.ops.int (pos 0)) → IsNonNegative S (S.ops.mul x y)
      at_case (inl h) (inl k) = pos_nonneg _ (O.sign-mul x y h k)
      at_case (inr e) k = zero_nonneg _ (ap S.sign (ap (λ z. S.ops.mul z y) e ∙ zero_times y) ∙ O.zero_equal)
      at_case (inl h) (inr e) = zero_nonneg _ (ap S.sign (ap (S.ops.mul x) e ∙ times_zero x) ∙ O.zero_equal)

  -- a positive multiple has the sign
  pub sign-scale : (k x : S.ops.carrier) → IsPositive S k → S.sign (S.ops.mul k x) ≡ S.sign x
  sign-scale k x h = at_sign (S.sign x) refl
    where
      at_sign : (o : Ordering) → S.sign x ≡ o → S.sign (S.ops.mul k x) ≡ S.sign x
      at_sign Greater e = O.sign-mul k x h e ∙ sym e
      at_sign Equal e = ap S.sign (ap (S.ops.mul k) (O.equal_zero x e) ∙ times_zero k) ∙ O.zero_equal ∙ sym e
      at_sign Less e =
          ap S.sign (ring S.ops L (k ∷ (x ∷ [])) (var 0 ⊗ var 1) (neg (var 0 ⊗ neg (var 1))) refl)
          ∙ O.sign-neg (S.ops.mul k (S.ops.neg x)) ∙ ap ordering_reverse (O.sign-mul k (S.ops.neg x) h (less_neg x e)) ∙ sym e

  -- where a positive multiple is 0 the number is
  pub zero_factor : (k x : S.ops.carrier) → IsPositive S k → S.ops.mul k x ≡ S.ops.int (pos 0) → x ≡ S.ops.int (pos 0)
  zero_factor k x h e = O.equal_zero x (sym (sign-scale k x h) ∙ ap S.sign e ∙ O.zero_equal)
