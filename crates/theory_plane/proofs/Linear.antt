-- Linear maps of the plane, and shifts: they keep means, and the sign of orientations where the determinant is positive.
use Rattle.std.proofs.Common.{◌≡◌, [], ◌∷◌, pos, refl, sym, ap, ap₂, ◌∙◌}
use Rattle.theory_ring.specs.Ring.{Ops, Laws, difference}
use Rattle.theory_ring.specs.Sign.{Signed, OrderLaws}
use Rattle.theory_ring.proofs.Normaliser.{Expr, var, con, neg, ring, ring_from, ◌⊕◌, ◌⊖◌, ◌⊗◌}
use Rattle.theory_ring.specs.Sign.{IsPositive}
use Rattle.theory_plane.specs.Plane.{PlanePoint, orientation}
use Rattle.theory_plane.specs.Segment.{Between}
use Rattle.theory_ring.proofs.Signs.{sign-scale, zero_factor}

abbrev two : Expr
two = con (pos 2)

-- w is the image of v: 2 X(w) = p X(v) + q Y(v) and 2 Y(w) = r X(v) + s Y(v)
pub record Linear (R : Ops) (p q r s : R.carrier) (v w : PlanePoint R.carrier) : Type 0 where
  pub at_x : R.mul (R.int (pos 2)) w.x ≡ R.add (R.mul p v.x) (R.mul q v.y)
  pub at_y : R.mul (R.int (pos 2)) w.y ≡ R.add (R.mul r v.x) (R.mul s v.y)

-- w is v moved by s in X and by t in Y
pub record Shifted (R : Ops) (s t : R.carrier) (v w : PlanePoint R.carrier) : Type 0 where
  pub at_x : w.x ≡ R.add v.x s
  pub at_y : w.y ≡ R.add v.y t

module _ (S : Signed) (L : Laws S.ops) (O : OrderLaws S) where
  abbrev R : Ops
  R = S.ops

  pub two_pos : IsPositive S (R.int (pos 2))
  two_pos = ap S.sign (L.int_add (pos 1) (pos 1)) ∙ O.sign-add (R.int (pos 1)) (R.int (pos 1)) O.one_greater O.one_greater

  -- a positive factor can be cancelled
  pub cancel : (k x y : R.carrier) → IsPositive S k → R.mul k (difference R x y) ≡ R.int (pos 0) → x ≡ y
  cancel k x y h e =
      ring R L (x ∷ (y ∷ [])) (var 0) ((var 0 ⊖ var 1) ⊕ var 1) refl ∙ ap (λ z. R.add z y) gone
      ∙ ring R L (y ∷ []) (con (pos 0) ⊕ var 0) (var 0) refl
    where
      gone : difference R x y ≡ R.int (pos 0)
      gone = zero_factor S L O k (difference R x y) h e

  -- ---- means, one coordinate at a time
  module _ (p q i j ax ay bx by cx cy : R.carrier)
      (hx : R.mul (R.add i j) cx ≡ R.add (R.mul i ax) (R.mul j bx))
      (hy : R.mul (R.add i j) cy ≡ R.add (R.mul i ay) (R.mul j by)) where
    mean-linear : (a b c : R.carrier) → R.mul (R.int (pos 2)) a ≡ R.add (R.mul p ax) (R.mul q ay)
        → R.mul (R.int (pos 2)) b ≡ R.add (R.mul p bx) (R.mul q by)
        → R.mul (R.int (pos 2)) c ≡ R.add (R.mul p cx) (R.mul q cy) → R.mul (R.add i j) c ≡ R.add (R.mul i a) (R.mul j b)
    mean-linear a b c ea eb ec =
        cancel (R.int (pos 2)) _ _ two_pos
        (ring_from R L (p ∷ (q ∷ (i ∷ (j ∷ (ax ∷ (ay ∷ (bx ∷ (by ∷ (cx ∷ (cy ∷ (a ∷ (b ∷ (c ∷ [])))))))))))))
        (two ⊗ ((var 2 ⊕ var 3) ⊗ var 12 ⊖ (var 2 ⊗ var 10 ⊕ var 3 ⊗ var 11))) (con (pos 0))
        ((var 2 ⊕ var 3, two ⊗ var 12, var 0 ⊗ var 8 ⊕ var 1 ⊗ var 9) ∷ ((neg (var 2), two ⊗ var 10, var 0 ⊗ var 4 ⊕ var 1 ⊗ var 5)
        ∷ ((neg (var 3), two ⊗ var 11, var 0 ⊗ var 6 ⊕ var 1 ⊗ var 7)
        ∷ ((var 0, (var 2 ⊕ var 3) ⊗ var 8, var 2 ⊗ var 4 ⊕ var 3 ⊗ var 6)
        ∷ ((var 1, (var 2 ⊕ var 3) ⊗ var 9, var 2 ⊗ var 5 ⊕ var 3 ⊗ var 7) ∷ [])))))
        (ec, (ea, (eb, (hx, (hy, tt))))) refl)

  pub between-linear : (p q r s : R.carrier) (a b c a' b' c' : PlanePoint R.carrier) → Linear R p q r s a a'
      → Linear R p q r s b b' → Linear R p q r s c c'
      → Between S a b c → Between S a' b' c'
  between-linear p q r s a b c a' b' c' e f g h = record {
    i = h.i;
    j = h.j;
    i_nonneg = h.i_nonneg;
    j_nonneg = h.j_nonneg;
    some = h.some;
    at_x = mean-linear p q h.i h.j a.x a.y b.x b.y c.x c.y h.at_x h.at_y a'.x b'.x c'.x e.at_x f.at_x g.at_x;
    at_y = mean-linear r s h.i h.j a.x a.y b.x b.y c.x c.y h.at_x h.at_y a'.y b'.y c'.y e.at_y f.at_y g.at_y;
  }

  -- from the images of a positive multiple back
  mean-scaled_back : (k i j a b c a' b' c' : R.carrier) → IsPositive S k
      → R.mul (R.int (pos 2)) a' ≡ R.mul k a → R.mul (R.int (pos 2)) b' ≡ R.mul k b
      → R.mul (R.int (pos 2)) c' ≡ R.mul k c
      → R.mul (R.add i j) c' ≡ R.add (R.mul i a') (R.mul j b') → R.mul (R.add i j) c ≡ R.add (R.mul i a) (R.mul j b)
  mean-scaled_back k i j a b c a' b' c' k_pos ea eb ec h =
      cancel k _ _ k_pos
      (ring_from R L (k ∷ (i ∷ (j ∷ (a ∷ (b ∷ (c ∷ (a' ∷ (b' ∷ (c' ∷ [])))))))))
      (var 0 ⊗ ((var 1 ⊕ var 2) ⊗ var 5 ⊖ (var 1 ⊗ var 3 ⊕ var 2 ⊗ var 4))) (con (pos 0))
      ((neg (var 1 ⊕ var 2), two ⊗ var 8, var 0 ⊗ var 5) ∷ ((var 1, two ⊗ var 6, var 0 ⊗ var 3) ∷ ((var 2, two ⊗ var 7, var 0 ⊗ var 4)
      ∷ ((two, (var 1 ⊕ var 2) ⊗ var 8, var 1 ⊗ var 6 ⊕ var 2 ⊗ var 7) ∷ []))))
      (ec, (ea, (eb, (h, tt)))) refl)

  only_x : (k x y z : R.carrier) → R.mul (R.int (pos 2)) z ≡ R.add (R.mul k x) (R.mul (R.int (pos 0)) y) → R.mul (R.int (pos 2)) z ≡ R.mul k x
  only_x k x y z e = e ∙ ring R L (k ∷ (x ∷ (y ∷ []))) (var 0 ⊗ var 1 ⊕ con (pos 0) ⊗ var 2) (var 0 ⊗ var 1) refl

  only_y : (k x y z : R.carrier) → R.mul (R.int (pos 2)) z ≡ R.add (R.mul (R.int (pos 0)) x) (R.mul k y) → R.mul (R.int (pos 2)) z ≡ R.mul k y
  only_y k x y z e = e ∙ ring R L (k ∷ (x ∷ (y ∷ []))) (con (pos 0) ⊗ var 1 ⊕ var 0 ⊗ var 2) (var 0 ⊗ var 2) refl

  -- a multiple by k/2
  abbrev pub Scaled : R.carrier → PlanePoint R.carrier → PlanePoint R.carrier → Type 0
  Scaled k = Linear R k (R.int (pos 0)) (R.int (pos 0)) k

  pub between-scaled_back : (k : R.carrier) (a b c a' b' c' : PlanePoint R.carrier) → IsPositive S k → Scaled k a a' → Scaled k b b' → Scaled k c c'
      → Between S a' b' c' → Between S a b c
  between-scaled_back k a b c a' b' c' k_pos e f g h = record {
    i = h.i;
    j = h.j;
    i_nonneg = h.i_nonneg;
    j_nonneg = h.j_nonneg;
    some = h.some;
    at_x = mean-scaled_back k h.i h.j a.x b.x c.x a'.x b'.x c'.x k_pos (only_x k a.x a.y a'.x e.at_x)
        (only_x k b.x b.y b'.x f.at_x) (only_x k c.x c.y c'.x g.at_x) h.at_x;
    at_y = mean-scaled_back k h.i h.j a.y b.y c.y a'.y b'.y c'.y k_pos (only_y k a.x a.y a'.y e.at_y)
        (only_y k b.x b.y b'.y f.at_y) (only_y k c.x c.y c'.y g.at_y) h.at_y;
  }

  mean-shifted : (s i j a b c a' b' c' : R.carrier) → a' ≡ R.add a s → b' ≡ R.add b s → c' ≡ R.add c s
      → R.mul (R.add i j) c ≡ R.add (R.mul i a) (R.mul j b) → R.mul (R.add i j) c' ≡ R.add (R.mul i a') (R.mul j b')
  mean-shifted s i j a b c a' b' c' ea eb ec h =
      ring_from R L (s ∷ (i ∷ (j ∷ (a ∷ (b ∷ (c ∷ (a' ∷ (b' ∷ (c' ∷ []))))))))) ((var 1 ⊕ var 2) ⊗ var 8) (var 1 ⊗ var 6 ⊕ var 2 ⊗ var 7)
      ((var 1 ⊕ var 2, var 8, var 5 ⊕ var 0) ∷ ((neg (var 1), var 6, var 3 ⊕ var 0) ∷ ((neg (var 2), var 7, var 4 ⊕ var 0)
      ∷ ((con (pos 1), (var 1 ⊕ var 2) ⊗ var 5, var 1 ⊗ var 3 ⊕ var 2 ⊗ var 4) ∷ []))))
      (ec, (ea, (eb, (h, tt)))) refl

  pub between-shifted : (s t : R.carrier) (a b c a' b' c' : PlanePoint R.carrier) → Shifted R s t a a'
      → Shifted R s t b b' → Shifted R s t c c' → Between S a b c → Between S a' b' c'
  between-shifted s t a b c a' b' c' e f g h = record {
    i = h.i;
    j = h.j;
    i_nonneg = h.i_nonneg;
    j_nonneg = h.j_nonneg;
    some = h.some;
    at_x = mean-shifted s h.i h.j a.x b.x c.x a'.x b'.x c'.x e.at_x f.at_x g.at_x h.at_x;
    at_y = mean-shifted t h.i h.j a.y b.y c.y a'.y b'.y c'.y e.at_y f.at_y g.at_y h.at_y;
  }

  pub shifted-back : (s t : R.carrier) (v w : PlanePoint R.carrier) → Shifted R s t v w → Shifted R (R.neg s) (R.neg t) w v
  shifted-back s t v w h = record { at_x = back s v.x w.x h.at_x; at_y = back t v.y w.y h.at_y }
    where
      back : (s x y : R.carrier) → y ≡ R.add x s → x ≡ R.add y (R.neg s)
      back s x y e = ring R L (s ∷ (x ∷ [])) (var 1) ((var 1 ⊕ var 0) ⊕ neg (var 0)) refl ∙ ap (λ z. R.add z (R.neg s)) (sym e)

  -- ---- orientations
  gap-linear : (p q x y z u v w : R.carrier) → R.mul (R.int (pos 2)) z ≡ R.add (R.mul p x) (R.mul q y)
      → R.mul (R.int (pos 2)) w ≡ R.add (R.mul p u) (R.mul q v)
      → R.mul (R.int (pos 2)) (difference R z w) ≡ R.add (R.mul p (difference R x u)) (R.mul q (difference R y v))
  gap-linear p q x y z u v w e f =
      ring R L (z ∷ (w ∷ [])) (two ⊗ (var 0 ⊖ var 1)) (two ⊗ var 0 ⊖ two ⊗ var 1) refl ∙ ap₂ (difference R) e f
      ∙ ring R L (p ∷ (q ∷ (x ∷ (y ∷ (u ∷ (v ∷ []))))))
      ((var 0 ⊗ var 2 ⊕ var 1 ⊗ var 3) ⊖ (var 0 ⊗ var 4 ⊕ var 1 ⊗ var 5))
      (var 0 ⊗ (var 2 ⊖ var 4) ⊕ var 1 ⊗ (var 3 ⊖ var 5)) refl

  -- four times the new orientation is the determinant times the old one
  pub orientation-linear : (p q r s : R.carrier) (a b c a' b' c' : PlanePoint R.carrier)
      → Linear R p q r s a a' → Linear R p q r s b b' → Linear R p q r s c c'
      → R.mul (R.int (pos 2)) (R.mul (R.int (pos 2)) (orientation R a' b' c')) ≡ R.mul (difference R (R.mul p s) (R.mul q r)) (orientation R a b c)
  orientation-linear p q r s a b c a' b' c' e f g =
      ring R L (difference R b'.x a'.x ∷ (difference R c'.y a'.y ∷ (difference R b'.y a'.y ∷ (difference R c'.x a'.x ∷ []))))
      (two ⊗ (two ⊗ (var 0 ⊗ var 1 ⊖ var 2 ⊗ var 3))) ((two ⊗ var 0) ⊗ (two ⊗ var 1) ⊖ (two ⊗ var 2) ⊗ (two ⊗ var 3)) refl
      ∙ ap₂ (difference R)
      (ap₂ R.mul (gap-linear p q b.x b.y b'.x a.x a.y a'.x f.at_x e.at_x) (gap-linear r s c.x c.y c'.y a.x a.y a'.y g.at_y e.at_y))
      (ap₂ R.mul (gap-linear r s b.x b.y b'.y a.x a.y a'.y f.at_y e.at_y) (gap-linear p q c.x c.y c'.x a.x a.y a'.x g.at_x e.at_x))
      ∙ ring R L (p ∷ (q ∷ (r ∷ (s ∷ (difference R b.x a.x ∷ (difference R b.y a.y ∷ (difference R c.x a.x ∷ (difference R c.y a.y ∷ []))))))))
      ((var 0 ⊗ var 4 ⊕ var 1 ⊗ var 5) ⊗ (var 2 ⊗ var 6 ⊕ var 3 ⊗ var 7) ⊖ (var 2 ⊗ var 4 ⊕ var 3 ⊗ var 5) ⊗ (var 0 ⊗ var 6 ⊕ var 1 ⊗ var 7))
      ((var 0 ⊗ var 3 ⊖ var 1 ⊗ var 2) ⊗ (var 4 ⊗ var 7 ⊖ var 5 ⊗ var 6)) refl

  pub turns-linear : (p q r s : R.carrier) (a b c a' b' c' : PlanePoint R.carrier) → IsPositive S (difference R (R.mul p s) (R.mul q r))
      → Linear R p q r s a a' → Linear R p q r s b b' → Linear R p q r s c c' → S.sign (orientation R a' b' c') ≡ S.sign (orientation R a b c)
  turns-linear p q r s a b c a' b' c' h e f g =
      sym (sign-scale S L O (R.int (pos 2)) _ two_pos) ∙ sym (sign-scale S L O (R.int (pos 2)) _ two_pos)
      ∙ ap S.sign (orientation-linear p q r s a b c a' b' c' e f g) ∙ sign-scale S L O _ _ h

  pub turns-shifted : (s t : R.carrier) (a b c a' b' c' : PlanePoint R.carrier) → Shifted R s t a a'
      → Shifted R s t b b' → Shifted R s t c c' → orientation R a' b' c' ≡ orientation R a b c
  turns-shifted s t a b c a' b' c' e f g =
      ap₂ (difference R)
      (ap₂ R.mul (gap s b.x a.x b'.x a'.x f.at_x e.at_x) (gap t c.y a.y c'.y a'.y g.at_y e.at_y))
      (ap₂ R.mul (gap t b.y a.y b'.y a'.y f.at_y e.at_y) (gap s c.x a.x c'.x a'.x g.at_x e.at_x))
    where
      gap : (s x y x' y' : R.carrier) → x' ≡ R.add x s → y' ≡ R.add y s → difference R x' y' ≡ difference R x y
      gap s x y x' y' e f = ap₂ (difference R) e f ∙ ring R L (s ∷ (x ∷ (y ∷ []))) ((var 1 ⊕ var 0) ⊖ (var 2 ⊕ var 0)) (var 1 ⊖ var 2) refl
