-- A point is on a closed segment exactly where it is a mean of its ends.
use Rattle.std.proofs.Common.{◌≡◌, ◌⊎◌, inl, inr, [], ◌∷◌, pos, refl, sym, ap, ap₂, ◌∙◌, subst, Bool, true, false, not, ◌&&◌, ◌||◌, Ordering, Less, Equal, Greater, is_eq, is_lt}
use Rattle.std.specs.Ordering.{ordering_reverse}
use Rattle.theory_ring.specs.Ring.{Ops, Laws, difference}
use Rattle.theory_ring.specs.Sign.{Signed, OrderLaws}
use Rattle.theory_ring.specs.Sign.{IsPositive, IsNonNegative, at_most}
use Rattle.theory_plane.specs.Plane.{PlanePoint, orientation}
use Rattle.theory_plane.specs.Segment.{within, on_segment, Between}
use Rattle.theory_ring.proofs.Normaliser.{var, con, neg, exprs, ring, ring_from, ◌⊕◌, ◌⊖◌, ◌⊗◌}
use Rattle.theory_ring.proofs.Signs.{not_pos, neg_not_pos, nonneg_mul, sign-scale}
use Rattle.theory_ring.proofs.Booleans.{both, either, denied, is_equal}
use Rattle.theory_plane.proofs.Crossing.{A, B, C}
use Rattle.theory_plane.proofs.Segment.{Within, between-of_line}

module _ (S : Signed) (L : Laws S.ops) (O : OrderLaws S) where
  abbrev R : Ops
  R = S.ops

  turned_round : (r s : R.carrier) → R.neg (difference R r s) ≡ difference R s r
  turned_round r s = ring R L (r ∷ (s ∷ [])) (neg (var 0 ⊖ var 1)) (var 1 ⊖ var 0) refl

  nonneg-at_most : (r s : R.carrier) → at_most S r s ≡ true → IsNonNegative S (difference R s r)
  nonneg-at_most r s e = subst (IsNonNegative S) (turned_round r s) (not_pos S L O (difference R r s) (denied _ e))

  at_most-nonneg : (r s : R.carrier) → IsNonNegative S (difference R s r) → at_most S r s ≡ true
  at_most-nonneg r s h = ap not (neg_not_pos S L O (difference R r s) (subst (IsNonNegative S) (sym (turned_round r s)) h))

  -- ---- what the test says
  within_lem : (low r high : R.carrier) → within S low r high ≡ true → Within S L O low r high
  within_lem low r high e =
      let h : (at_most S low r ≡ true) × (at_most S r high ≡ true) = both _ _ e in
      record { low = nonneg-at_most low r h.0; high = nonneg-at_most r high h.1 }

  within_one : (a c b : R.carrier) → within S a c b || within S b c a ≡ true → Within S L O a c b ⊎ Within S L O b c a
  within_one a c b e = at_case (either (within S a c b) (within S b c a) e)
    where
      at_case : (within S a c b ≡ true) ⊎ (within S b c a ≡ true) → Within S L O a c b ⊎ Within S L O b c a
      at_case (inl h) = inl (within_lem a c b h)
      at_case (inr h) = inr (within_lem b c a h)

  pub between-on_segment : (a b c : PlanePoint R.carrier) → on_segment S a b c ≡ true → Between S a b c
  between-on_segment a b c e =
      let h : (is_eq (S.sign (orientation R a b c)) && (within S a.x c.x b.x || within S b.x c.x a.x) ≡ true)
      × (within S a.y c.y b.y || within S b.y c.y a.y ≡ true) = both _ _ e in
      let k : (is_eq (S.sign (orientation R a b c)) ≡ true) × (within S a.x c.x b.x || within S b.x c.x a.x ≡ true) = both _ _ h.0 in
      between-of_line S L O a b c (record {
        on_line = O.equal_zero (orientation R a b c) (is_equal _ k.0);
        in_x = within_one a.x c.x b.x k.1;
        in_y = within_one a.y c.y b.y h.1;
      })

  -- ---- what passes it
  all_true : (u v w : Bool) → u ≡ true → v ≡ true → w ≡ true → u && v && w ≡ true
  all_true u v w e f g = ap₂ (λ x y. x && y) (ap₂ (λ x y. x && y) e f) g

  left_true : (u v : Bool) → u ≡ true → u || v ≡ true
  left_true u v e = ap (λ x. x || v) e

  right_true : (u v : Bool) → v ≡ true → u || v ≡ true
  right_true true v e = refl
  right_true false v e = e

  either_sign : (x : R.carrier) → IsNonNegative S x ⊎ IsNonNegative S (R.neg x)
  either_sign x = at_order (S.sign x) refl
    where
      at_order : (o : Ordering) → S.sign x ≡ o → IsNonNegative S x ⊎ IsNonNegative S (R.neg x)
      at_order Less e = inr (ap is_lt (O.sign-neg x ∙ ap ordering_reverse e))
      at_order Equal e = inl (ap is_lt e)
      at_order Greater e = inl (ap is_lt e)

  module _ (i j : R.carrier) (i_nonneg : IsNonNegative S i) (j_nonneg : IsNonNegative S j) (some : IsPositive S (R.add i j)) where
    lifted : (x y : R.carrier) → R.mul (R.add i j) x ≡ y → IsNonNegative S y → IsNonNegative S x
    lifted x y e h = ap is_lt (sym (sign-scale S L O (R.add i j) x some) ∙ ap S.sign e) ∙ h

    -- a coordinate c with (i + j) c = i a + j b, where a ≤ b
    between_up : (a b c : R.carrier) → R.mul (R.add i j) c ≡ R.add (R.mul i a) (R.mul j b)
        → IsNonNegative S (difference R b a) → within S a c b ≡ true
    between_up a b c e h = ap₂ (λ x y. x && y)
        (at_most-nonneg a c (lifted (difference R c a) (R.mul j (difference R b a))
        (ring_from R L (i ∷ (j ∷ (a ∷ (b ∷ (c ∷ []))))) ((var 0 ⊕ var 1) ⊗ (var 4 ⊖ var 2))
        (var 1 ⊗ (var 3 ⊖ var 2)) ((con (pos 1), (var 0 ⊕ var 1) ⊗ var 4, var 0 ⊗ var 2 ⊕ var 1 ⊗ var 3)
        ∷ []) (e, tt) refl)
        (nonneg_mul S L O j _ j_nonneg h)))
        (at_most-nonneg c b (lifted (difference R b c) (R.mul i (difference R b a))
        (ring_from R L (i ∷ (j ∷ (a ∷ (b ∷ (c ∷ []))))) ((var 0 ⊕ var 1) ⊗ (var 3 ⊖ var 4))
        (var 0 ⊗ (var 3 ⊖ var 2)) ((
          neg (con (pos 1)),
          (var 0 ⊕ var 1) ⊗ var 4,
          var 0 ⊗ var 2 ⊕ var 1 ⊗
              var 3,
        ) ∷ []) (e, tt) refl)
        (nonneg_mul S L O i _ i_nonneg h)))

    between_down : (a b c : R.carrier) → R.mul (R.add i j) c ≡ R.add (R.mul i a) (R.mul j b)
        → IsNonNegative S (difference R a b) → within S b c a ≡ true
    between_down a b c e h = ap₂ (λ x y. x && y)
        (at_most-nonneg b c (lifted (difference R c b) (R.mul i (difference R a b))
        (ring_from R L (i ∷ (j ∷ (a ∷ (b ∷ (c ∷ []))))) ((var 0 ⊕ var 1) ⊗ (var 4 ⊖ var 3))
        (var 0 ⊗ (var 2 ⊖ var 3)) ((con (pos 1), (var 0 ⊕ var 1) ⊗ var 4, var 0 ⊗ var 2 ⊕ var 1 ⊗ var 3)
        ∷ []) (e, tt) refl)
        (nonneg_mul S L O i _ i_nonneg h)))
        (at_most-nonneg c a (lifted (difference R a c) (R.mul j (difference R a b))
        (ring_from R L (i ∷ (j ∷ (a ∷ (b ∷ (c ∷ []))))) ((var 0 ⊕ var 1) ⊗ (var 2 ⊖ var 4))
        (var 1 ⊗ (var 2 ⊖ var 3)) ((
          neg (con (pos 1)),
          (var 0 ⊕ var 1) ⊗ var 4,
          var 0 ⊗ var 2 ⊕ var 1 ⊗
              var 3,
        ) ∷ []) (e, tt) refl)
        (nonneg_mul S L O j _ j_nonneg h)))

    between_one : (a b c : R.carrier) → R.mul (R.add i j) c ≡ R.add (R.mul i a) (R.mul j b) → within S a c b || within S b c a ≡ true
    between_one a b c e = at_case (either_sign (difference R b a))
      where
        at_case : IsNonNegative S (difference R b a) ⊎ IsNonNegative S (R.neg (difference R b a)) → within S a c b || within S b c a ≡ true
        at_case (inl h) = left_true _ _ (between_up a b c e h)
        at_case (inr h) = right_true _ _ (between_down a b c e (subst (IsNonNegative S) (turned_round b a) h))

  on_line : (a b c : PlanePoint R.carrier) → Between S a b c → is_eq (S.sign (orientation R a b c)) ≡ true
  on_line a b c h =
      ap is_eq (sym (sign-scale S L O (R.add h.i h.j) (orientation R a b c) h.some) ∙ ap S.sign flat ∙ O.zero_equal)
    where
      flat : R.mul (R.add h.i h.j) (orientation R a b c) ≡ R.int (pos 0)
      flat = ring_from R L (a.x ∷ (a.y ∷ (b.x ∷ (b.y ∷ (c.x ∷ (c.y ∷ (h.i ∷ (h.j ∷ []))))))))
          ((var 6 ⊕ var 7) ⊗ orientation exprs A B C) (con (pos 0))
          ((B.x ⊖ A.x, (var 6 ⊕ var 7) ⊗ C.y, var 6 ⊗ A.y ⊕ var 7 ⊗ B.y) ∷ ((neg (B.y ⊖ A.y), (var 6 ⊕ var 7) ⊗ C.x, var 6 ⊗ A.x ⊕ var 7 ⊗ B.x) ∷ []))
          (h.at_y, (h.at_x, tt)) refl

  pub on_segment-between : (a b c : PlanePoint R.carrier) → Between S a b c → on_segment S a b c ≡ true
  on_segment-between a b c h =
      all_true _ _ _ (on_line a b c h)
      (between_one h.i h.j h.i_nonneg h.j_nonneg h.some a.x b.x c.x h.at_x)
      (between_one h.i h.j h.i_nonneg h.j_nonneg h.some a.y b.y c.y h.at_y)
