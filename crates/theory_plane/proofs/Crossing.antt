-- The crossing of an edge: turned round it is the negative, and it is the sum over the parts of the edge.
use Rattle.std.proofs.Common.{◌≡◌, ◌⊎◌, inl, inr, List, [], ◌∷◌, pos, neg_ℤ, ◌+ℤ◌, refl, sym, ap, ap₂, ◌∙◌, subst, Bool, true, false, Ordering, Less, Equal, Greater}
use lib.IntN.{+ℤ_idl, +ℤ_idr}
use Rattle.std.specs.Ordering.{ordering_reverse, is_gt}
use Rattle.theory_ring.specs.Ring.{Ops, Laws, difference}
use Rattle.theory_ring.specs.Sign.{Signed, OrderLaws}
use Rattle.theory_ring.specs.Sign.{IsPositive, IsNonNegative}
use Rattle.theory_plane.specs.Plane.{PlanePoint, TestPoint, side}
use Rattle.theory_plane.specs.Crossing.{crossing, crossing_of}
use Rattle.theory_plane.specs.Segment.{Between}
use Rattle.theory_ring.proofs.Normaliser.{Expr, var, con, neg, exprs, ring, ring_by, ring_by2, ◌⊕◌, ◌⊖◌, ◌⊗◌}
use Rattle.theory_ring.proofs.Signs.{pos_nonneg, nonneg_cases, not_pos, neg_not_pos, pos_add_nonneg, nonneg_add, nonneg_mul, sign-scale}

crossing_of-reverse : (a b : Bool) (o : Ordering) → crossing_of b a (ordering_reverse o) ≡ neg_ℤ (crossing_of a b o)
crossing_of-reverse true true o = refl
crossing_of-reverse false false o = refl
crossing_of-reverse true false Less = refl
crossing_of-reverse true false Equal = refl
crossing_of-reverse true false Greater = refl
crossing_of-reverse false true Less = refl
crossing_of-reverse false true Equal = refl
crossing_of-reverse false true Greater = refl

-- a middle that is above where both ends are, and not above where neither is
crossing_of-middle : (a b c : Bool) (o : Ordering) → (a ≡ b → c ≡ a) → crossing_of a b o ≡ crossing_of a c o +ℤ crossing_of c b o
crossing_of-middle true true true o h = refl
crossing_of-middle true true false o h = absurd (cc (h refl))
crossing_of-middle false false false o h = refl
crossing_of-middle false false true o h = absurd (cc (h refl))
crossing_of-middle true false true Less h = refl
crossing_of-middle true false true Equal h = refl
crossing_of-middle true false true Greater h = refl
crossing_of-middle true false false Less h = refl
crossing_of-middle true false false Equal h = refl
crossing_of-middle true false false Greater h = refl
crossing_of-middle false true true Less h = refl
crossing_of-middle false true true Equal h = refl
crossing_of-middle false true true Greater h = refl
crossing_of-middle false true false Less h = refl
crossing_of-middle false true false Equal h = refl
crossing_of-middle false true false Greater h = refl

crossing_of-same : (a : Bool) (o : Ordering) → crossing_of a a o ≡ pos 0
crossing_of-same true o = refl
crossing_of-same false o = refl

-- vertices and a point as expressions: variables 0 and 1, 2 and 3, 4 and 5, then 6, 7, 8
abbrev pub A : PlanePoint Expr
A = record { x = var 0; y = var 1 }

abbrev pub B : PlanePoint Expr
B = record { x = var 2; y = var 3 }

abbrev pub C : PlanePoint Expr
C = record { x = var 4; y = var 5 }

abbrev pub P : TestPoint Expr
P = record { x = var 6; y = var 7; d = var 8 }

module _ (S : Signed) (L : Laws S.ops) (O : OrderLaws S) where
  abbrev pub R : Ops
  R = S.ops

  abbrev pub these : PlanePoint R.carrier → PlanePoint R.carrier → PlanePoint R.carrier → TestPoint R.carrier → List R.carrier
  these a b c p = a.x ∷ (a.y ∷ (b.x ∷ (b.y ∷ (c.x ∷ (c.y ∷ (p.x ∷ (p.y ∷ (p.d ∷ []))))))))

  -- whether the vertex lies above the point
  abbrev pub above : PlanePoint R.carrier → TestPoint R.carrier → Bool
  above v p = is_gt (S.sign (difference R (R.mul p.d v.y) p.y))

  is_crossing_of : (a b : PlanePoint R.carrier) (p : TestPoint R.carrier)
      → crossing S a b p ≡ crossing_of (above a p) (above b p) (S.sign (side R a b p))
  is_crossing_of a b p = refl

  side-turned : (a b : PlanePoint R.carrier) (p : TestPoint R.carrier) → side R b a p ≡ R.neg (side R a b p)
  side-turned a b p = ring R L (these a b a p) (side exprs B A P) (neg (side exprs A B P)) refl

  pub crossing-turned : (a b : PlanePoint R.carrier) (p : TestPoint R.carrier) → crossing S b a p ≡ neg_ℤ (crossing S a b p)
  crossing-turned a b p =
      ap (crossing_of (above b p) (above a p)) (ap S.sign (side-turned a b p) ∙ O.sign-neg (side R a b p))
      ∙ crossing_of-reverse (above a p) (above b p) (S.sign (side R a b p))

  abbrev I : Expr
  I = var 9

  abbrev J : Expr
  J = var 10

  module _ (a b c : PlanePoint R.carrier) (p : TestPoint R.carrier) (h : Between S a b c) where
    abbrev all : List R.carrier
    all = a.x ∷ (a.y ∷ (b.x ∷ (b.y ∷ (c.x ∷ (c.y ∷ (p.x ∷ (p.y ∷ (p.d ∷ (h.i ∷ (h.j ∷ []))))))))))

    -- the side of a→c and of c→b, as multiples of that of a→b
    first_side : R.mul (R.add h.i h.j) (side R a c p) ≡ R.mul h.j (side R a b p)
    first_side =
        ring_by2 R L all ((I ⊕ J) ⊗ side exprs A C P) (J ⊗ side exprs A B P)
        (P.y ⊖ P.d ⊗ A.y) ((I ⊕ J) ⊗ C.x) (I ⊗ A.x ⊕ J ⊗ B.x)
        (P.d ⊗ A.x ⊖ P.x) ((I ⊕ J) ⊗ C.y) (I ⊗ A.y ⊕ J ⊗ B.y) h.at_x h.at_y refl

    second_side : R.mul (R.add h.i h.j) (side R c b p) ≡ R.mul h.i (side R a b p)
    second_side =
        ring_by2 R L all ((I ⊕ J) ⊗ side exprs C B P) (I ⊗ side exprs A B P)
        (P.d ⊗ B.y ⊖ P.y) ((I ⊕ J) ⊗ C.x) (I ⊗ A.x ⊕ J ⊗ B.x)
        (P.x ⊖ P.d ⊗ B.x) ((I ⊕ J) ⊗ C.y) (I ⊗ A.y ⊕ J ⊗ B.y) h.at_x h.at_y refl

    height : R.mul (R.add h.i h.j) (difference R (R.mul p.d c.y) p.y)
        ≡ R.add (R.mul h.i (difference R (R.mul p.d a.y) p.y)) (R.mul h.j (difference R (R.mul p.d b.y) p.y))
    height =
        ring_by R L all ((I ⊕ J) ⊗ (P.d ⊗ C.y ⊖ P.y)) (I ⊗ (P.d ⊗ A.y ⊖ P.y) ⊕ J ⊗ (P.d ⊗ B.y ⊖ P.y))
        P.d ((I ⊕ J) ⊗ C.y) (I ⊗ A.y ⊕ J ⊗ B.y) h.at_y refl

    -- where i and j are positive the two sides are that of a→b
    first_sign : IsPositive S h.j → S.sign (side R a c p) ≡ S.sign (side R a b p)
    first_sign k = sym (sign-scale S L O (R.add h.i h.j) (side R a c p) h.some) ∙ ap S.sign first_side ∙ sign-scale S L O h.j (side R a b p) k

    second_sign : IsPositive S h.i → S.sign (side R c b p) ≡ S.sign (side R a b p)
    second_sign k = sym (sign-scale S L O (R.add h.i h.j) (side R c b p) h.some) ∙ ap S.sign second_side ∙ sign-scale S L O h.i (side R a b p) k

    -- c is above where a and b are, and not above where neither is
    c_above : Bool → Bool → Type 0
    c_above x y = x ≡ y

    c_sign : S.sign (difference R (R.mul p.d c.y) p.y) ≡ S.sign
        (R.add (R.mul h.i (difference R (R.mul p.d a.y) p.y)) (R.mul h.j (difference R (R.mul p.d b.y) p.y)))
    c_sign = sym (sign-scale S L O (R.add h.i h.j) (difference R (R.mul p.d c.y) p.y) h.some) ∙ ap S.sign height

    height_negative : (i j x y : R.carrier) → R.neg (R.add (R.mul i x) (R.mul j y)) ≡ R.add (R.mul i (R.neg x)) (R.mul j (R.neg y))
    height_negative i j x y =
        ring R L (i ∷ (j ∷ (x ∷ (y ∷ [])))) (neg (var 0 ⊗ var 2 ⊕ var 1 ⊗ var 3)) (var 0 ⊗ neg (var 2) ⊕ var 1 ⊗ neg (var 3)) refl

    is_greater : (o : Ordering) → is_gt o ≡ true → o ≡ Greater
    is_greater Less e = absurd (cc e)
    is_greater Equal e = absurd (cc e)
    is_greater Greater e = refl

    -- i x + j y, where i + j is positive, i and j are not negative and x and y are positive
    mixed_pos : (x y : R.carrier) → IsPositive S x → IsPositive S y → IsPositive S (R.add (R.mul h.i x) (R.mul h.j y))
    mixed_pos x y f g = at_case (nonneg_cases S L O h.i h.i_nonneg)
      where
        at_case : IsPositive S h.i ⊎ (h.i ≡ R.int (pos 0)) → IsPositive S (R.add (R.mul h.i x) (R.mul h.j y))
        at_case (inl k) = pos_add_nonneg S L O (R.mul h.i x) (R.mul h.j y) (O.sign-mul h.i x k f)
            (nonneg_mul S L O h.j y h.j_nonneg (pos_nonneg S L O y g))
        at_case (inr e) =
            let z : R.add (R.mul h.i x) (R.mul h.j y) ≡ R.mul (R.add h.i h.j) y =
            ap (λ i. R.add (R.mul i x) (R.mul h.j y)) e
            ∙ ring R L (x ∷ (y ∷ (h.j ∷ []))) (con (pos 0) ⊗ var 0 ⊕ var 2 ⊗ var 1) ((con (pos 0) ⊕ var 2) ⊗ var 1) refl
            ∙ ap (λ i. R.mul (R.add i h.j) y) (sym e) in
            ap S.sign z ∙ O.sign-mul (R.add h.i h.j) y h.some g

    middle : above a p ≡ above b p → above c p ≡ above a p
    middle e = at_test (above a p) refl
      where
        at_test : (t : Bool) → above a p ≡ t → above c p ≡ above a p
        at_test true f =
            ap is_gt (c_sign ∙ mixed_pos _ _ (is_greater _ f) (is_greater _ (sym e ∙ f))) ∙ sym f
        at_test false f =
            ap is_gt c_sign
            ∙ neg_not_pos S L O _ (subst (IsNonNegative S) (sym (height_negative h.i h.j _ _))
            (nonneg_add S L O _ _ (nonneg_mul S L O _ _ h.i_nonneg (not_pos S L O _ f))
            (nonneg_mul S L O _ _ h.j_nonneg (not_pos S L O _ (sym e ∙ f)))))
            ∙ sym f

    -- where i is 0, c is as high as b; where j is 0, as a
    at_b : h.i ≡ R.int (pos 0) → IsPositive S h.j → above c p ≡ above b p
    at_b e k =
        ap is_gt (c_sign
        ∙ ap S.sign (ap (λ i. R.add (R.mul i (difference R (R.mul p.d a.y) p.y)) (R.mul h.j (difference R (R.mul p.d b.y) p.y))) e
        ∙ ring R L (difference R (R.mul p.d a.y) p.y ∷ (difference R (R.mul p.d b.y) p.y ∷ (h.j ∷ [])))
        (con (pos 0) ⊗ var 0 ⊕ var 2 ⊗ var 1) (var 2 ⊗ var 1) refl)
        ∙ sign-scale S L O h.j (difference R (R.mul p.d b.y) p.y) k)

    at_a : h.j ≡ R.int (pos 0) → IsPositive S h.i → above c p ≡ above a p
    at_a e k =
        ap is_gt (c_sign
        ∙ ap S.sign (ap (λ j. R.add (R.mul h.i (difference R (R.mul p.d a.y) p.y)) (R.mul j (difference R (R.mul p.d b.y) p.y))) e
        ∙ ring R L (difference R (R.mul p.d a.y) p.y ∷ (difference R (R.mul p.d b.y) p.y ∷ (h.i ∷ [])))
        (var 2 ⊗ var 0 ⊕ con (pos 0) ⊗ var 1) (var 2 ⊗ var 0) refl)
        ∙ sign-scale S L O h.i (difference R (R.mul p.d a.y) p.y) k)

    one_of : h.i ≡ R.int (pos 0) → h.j ≡ R.int (pos 0) → ⊥
    one_of e f = cc (sym h.some ∙ ap S.sign (ap₂ R.add e f ∙ L.add_zero (R.int (pos 0))) ∙ O.zero_equal)

    -- the crossing of an edge is the sum over its two parts
    pub crossing-parts : crossing S a b p ≡ crossing S a c p +ℤ crossing S c b p
    crossing-parts = at_case (nonneg_cases S L O h.i h.i_nonneg) (nonneg_cases S L O h.j h.j_nonneg)
      where
        at_case : IsPositive S h.i ⊎ (h.i ≡ R.int (pos 0)) → IsPositive S h.j ⊎ (h.j ≡ R.int (pos 0))
            → crossing S a b p ≡ crossing S a c p +ℤ crossing S c b p
        at_case (inl i) (inl j) =
            crossing_of-middle (above a p) (above b p) (above c p) (S.sign (side R a b p)) middle
            ∙ ap₂ (λ u v. crossing_of (above a p) (above c p) u +ℤ crossing_of (above c p) (above b p) v) (sym (first_sign j)) (sym (second_sign i))
        at_case (inr e) (inl j) =
            sym (+ℤ_idr (crossing S a b p))
            ∙ ap₂ (λ u v. u +ℤ v)
            (ap₂ (crossing_of (above a p)) (sym (at_b e j)) (sym (first_sign j)))
            (sym (ap (λ u. crossing_of u (above b p) (S.sign (side R c b p))) (at_b e j) ∙ crossing_of-same (above b p) _))
        at_case (inl i) (inr e) =
            sym (+ℤ_idl (crossing S a b p))
            ∙ ap₂ (λ u v. u +ℤ v)
            (sym (ap (λ u. crossing_of (above a p) u (S.sign (side R a c p))) (at_a e i) ∙ crossing_of-same (above a p) _))
            (ap₂ (λ u v. crossing_of u (above b p) v) (sym (at_a e i)) (sym (second_sign i)))
        at_case (inr e) (inr f) = absurd (one_of e f)
