-- A point on the line of a→b whose X and Y lie between those of a and b is between them.
use Rattle.std.proofs.Common.{◌≡◌, ◌⊎◌, inl, inr, List, [], ◌∷◌, pos, negsuc, refl, sym, ap, ◌∙◌, subst}
use Rattle.theory_ring.specs.Ring.{Ops, Laws, difference}
use Rattle.theory_ring.specs.Sign.{Signed, OrderLaws}
use Rattle.theory_ring.specs.Sign.{IsPositive, IsNonNegative}
use Rattle.theory_plane.specs.Plane.{PlanePoint, orientation}
use Rattle.theory_plane.specs.Segment.{Between}
use Rattle.theory_ring.proofs.Normaliser.{var, con, exprs, ring, ring_by, ◌⊕◌, ◌⊖◌, ◌⊗◌}
use Rattle.theory_ring.proofs.Signs.{pos_nonneg, zero_nonneg, nonneg_cases, pos_add_nonneg, nonneg_add}
use Rattle.theory_plane.proofs.Crossing.{A, B, C}

module _ (S : Signed) (L : Laws S.ops) (O : OrderLaws S) where
  abbrev R : Ops
  R = S.ops

  -- lo ≤ x ≤ hi
  pub record Within (lo x hi : R.carrier) : Type 0 where
    pub low : IsNonNegative S (difference R x lo)
    pub high : IsNonNegative S (difference R hi x)

  -- c is on the closed segment ab: on its line, and between in X and in Y
  pub record OnSegment (a b c : PlanePoint R.carrier) : Type 0 where
    pub on_line : orientation R a b c ≡ R.int (pos 0)
    pub in_x : Within a.x c.x b.x ⊎ Within b.x c.x a.x
    pub in_y : Within a.y c.y b.y ⊎ Within b.y c.y a.y

  abbrev all : PlanePoint R.carrier → PlanePoint R.carrier → PlanePoint R.carrier → List R.carrier
  all a b c = a.x ∷ (a.y ∷ (b.x ∷ (b.y ∷ (c.x ∷ (c.y ∷ [])))))

  same_of_equal : (x y : R.carrier) → difference R x y ≡ R.int (pos 0) → x ≡ y
  same_of_equal x y e =
      ring R L (x ∷ (y ∷ [])) (var 0) ((var 0 ⊖ var 1) ⊕ var 1) refl ∙ ap (λ z. R.add z y) e
      ∙ ring R L (y ∷ []) (con (pos 0) ⊕ var 0) (var 0) refl

  -- by heights, where a is below b: i is Y(b) - Y(c) and j is Y(c) - Y(a)
  by_height : (a b c : PlanePoint R.carrier) → orientation R a b c ≡ R.int (pos 0)
      → IsNonNegative S (difference R c.y a.y) → IsNonNegative S (difference R b.y c.y)
      → IsPositive S (difference R b.y a.y) → Between S a b c
  by_height a b c e f g h = record {
    i = difference R b.y c.y;
    j = difference R c.y a.y;
    i_nonneg = g;
    j_nonneg = f;
    some = ap S.sign (ring R L (all a b c) ((B.y ⊖ C.y) ⊕ (C.y ⊖ A.y)) (B.y ⊖ A.y) refl) ∙ h;
    at_x = ring_by R L (all a b c) (((B.y ⊖ C.y) ⊕ (C.y ⊖ A.y)) ⊗ C.x) ((B.y ⊖ C.y) ⊗ A.x ⊕ (C.y ⊖ A.y) ⊗ B.x)
        (con (negsuc 0)) (orientation exprs A B C) (con (pos 0)) e refl;
    at_y = ring R L (all a b c) (((B.y ⊖ C.y) ⊕ (C.y ⊖ A.y)) ⊗ C.y) ((B.y ⊖ C.y) ⊗ A.y ⊕ (C.y ⊖ A.y) ⊗ B.y) refl;
  }

  by_width : (a b c : PlanePoint R.carrier) → orientation R a b c ≡ R.int (pos 0)
      → IsNonNegative S (difference R c.x a.x) → IsNonNegative S (difference R b.x c.x)
      → IsPositive S (difference R b.x a.x) → Between S a b c
  by_width a b c e f g h = record {
    i = difference R b.x c.x;
    j = difference R c.x a.x;
    i_nonneg = g;
    j_nonneg = f;
    some = ap S.sign (ring R L (all a b c) ((B.x ⊖ C.x) ⊕ (C.x ⊖ A.x)) (B.x ⊖ A.x) refl) ∙ h;
    at_x = ring R L (all a b c) (((B.x ⊖ C.x) ⊕ (C.x ⊖ A.x)) ⊗ C.x) ((B.x ⊖ C.x) ⊗ A.x ⊕ (C.x ⊖ A.x) ⊗ B.x) refl;
    at_y = ring_by R L (all a b c) (((B.x ⊖ C.x) ⊕ (C.x ⊖ A.x)) ⊗ C.y) ((B.x ⊖ C.x) ⊗ A.y ⊕ (C.x ⊖ A.x) ⊗ B.y)
        (con (pos 1)) (orientation exprs A B C) (con (pos 0)) e refl;
  }

  -- turned round
  pub between-turned : (a b c : PlanePoint R.carrier) → Between S b a c → Between S a b c
  between-turned a b c h = record {
    i = h.j;
    j = h.i;
    i_nonneg = h.j_nonneg;
    j_nonneg = h.i_nonneg;
    some = ap S.sign (L.add_comm h.j h.i) ∙ h.some;
    at_x = ap (λ k. R.mul k c.x) (L.add_comm h.j h.i) ∙ h.at_x ∙ L.add_comm _ _;
    at_y = ap (λ k. R.mul k c.y) (L.add_comm h.j h.i) ∙ h.at_y ∙ L.add_comm _ _;
  }

  turn-turned : (a b c : PlanePoint R.carrier) → orientation R a b c ≡ R.int (pos 0) → orientation R b a c ≡ R.int (pos 0)
  turn-turned a b c e = ring_by R L (all a b c) (orientation exprs B A C) (con (pos 0)) (con (negsuc 0))
      (orientation exprs A B C) (con (pos 0)) e refl

  -- a point between equal ends is each of them
  squeezed : (a c b : R.carrier) → Within a c b → difference R b a ≡ R.int (pos 0) → c ≡ a
  squeezed a c b w e = at_case (nonneg_cases S L O (difference R c a) w.low)
    where
      at_case : IsPositive S (difference R c a) ⊎ (difference R c a ≡ R.int (pos 0)) → c ≡ a
      at_case (inr z) = same_of_equal c a z
      at_case (inl p) =
          let q : IsPositive S (difference R b a) = ap S.sign
          (ring R L (a ∷ (b ∷ (c ∷ []))) (var 1 ⊖ var 0) ((var 2 ⊖ var 0) ⊕ (var 1 ⊖ var 2)) refl)
          ∙ pos_add_nonneg S L O (difference R c a) (difference R b c) p w.high in
          absurd (cc (sym q ∙ ap S.sign e ∙ O.zero_equal))

  pub at_end : (a b c : PlanePoint R.carrier) → c.x ≡ a.x → c.y ≡ a.y → Between S a b c
  at_end a b c e f = record {
    i = R.int (pos 1);
    j = R.int (pos 0);
    i_nonneg = pos_nonneg S L O (R.int (pos 1)) O.one_greater;
    j_nonneg = zero_nonneg S L O (R.int (pos 0)) O.zero_equal;
    some = ap S.sign (L.add_zero (R.int (pos 1))) ∙ O.one_greater;
    at_x = ap (R.mul (R.add (R.int (pos 1)) (R.int (pos 0)))) e
        ∙ ring R L (a.x ∷ (b.x ∷ [])) ((con (pos 1) ⊕ con (pos 0)) ⊗ var 0)
        (con (pos 1) ⊗ var 0 ⊕ con (pos 0) ⊗ var 1) refl;
    at_y = ap (R.mul (R.add (R.int (pos 1)) (R.int (pos 0)))) f
        ∙ ring R L (a.y ∷ (b.y ∷ [])) ((con (pos 1) ⊕ con (pos 0)) ⊗ var 0)
        (con (pos 1) ⊗ var 0 ⊕ con (pos 0) ⊗ var 1) refl;
  }

  -- where a and b are level: by X
  level : (a b c : PlanePoint R.carrier) → orientation R a b c ≡ R.int (pos 0) → c.y ≡ a.y → Within a.x c.x b.x → Between S a b c
  level a b c e f w = at_case (nonneg_cases S L O (difference R b.x a.x)
      (subst (IsNonNegative S) (ring R L (all a b c) ((C.x ⊖ A.x) ⊕ (B.x ⊖ C.x)) (B.x ⊖ A.x) refl)
      (nonneg_add S L O (difference R c.x a.x) (difference R b.x c.x) w.low w.high)))
    where
      at_case : IsPositive S (difference R b.x a.x) ⊎ (difference R b.x a.x ≡ R.int (pos 0)) → Between S a b c
      at_case (inl p) = by_width a b c e w.low w.high p
      at_case (inr z) = at_end a b c (squeezed a.x c.x b.x w z) f

  flip_zero : (x y : R.carrier) → difference R x y ≡ R.int (pos 0) → difference R y x ≡ R.int (pos 0)
  flip_zero x y e = ring_by R L (x ∷ (y ∷ [])) (var 1 ⊖ var 0) (con (pos 0)) (con (negsuc 0)) (var 0 ⊖ var 1) (con (pos 0)) e refl

  upward : (a b c : PlanePoint R.carrier) → orientation R a b c ≡ R.int (pos 0)
      → (Within a.x c.x b.x ⊎ Within b.x c.x a.x) → Within a.y c.y b.y → Between S a b c
  upward a b c e x w = at_case (nonneg_cases S L O (difference R b.y a.y)
      (subst (IsNonNegative S) (ring R L (all a b c) ((C.y ⊖ A.y) ⊕ (B.y ⊖ C.y)) (B.y ⊖ A.y) refl)
      (nonneg_add S L O (difference R c.y a.y) (difference R b.y c.y) w.low w.high))) x
    where
      at_case : IsPositive S (difference R b.y a.y) ⊎ (difference R b.y a.y ≡ R.int (pos 0))
          → (Within a.x c.x b.x ⊎ Within b.x c.x a.x) → Between S a b c
      at_case (inl p) x = by_height a b c e w.low w.high p
      at_case (inr z) (inl v) = level a b c e (squeezed a.y c.y b.y w z) v
      at_case (inr z) (inr v) =
          between-turned a b c (level b a c (turn-turned a b c e) (squeezed a.y c.y b.y w z ∙ same_of_equal a.y b.y (flip_zero b.y a.y z)) v)

  swap : (x y : Type 0) → x ⊎ y → y ⊎ x
  swap x y (inl h) = inr h
  swap x y (inr h) = inl h

  pub between-of_line : (a b c : PlanePoint R.carrier) → OnSegment a b c → Between S a b c
  between-of_line a b c h = at_case h.in_y
    where
      at_case : Within a.y c.y b.y ⊎ Within b.y c.y a.y → Between S a b c
      at_case (inl w) = upward a b c h.on_line h.in_x w
      at_case (inr w) = between-turned a b c (upward b a c (turn-turned a b c h.on_line) (swap _ _ h.in_x) w)
