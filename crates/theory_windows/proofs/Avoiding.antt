-- Edges that avoid an open box, and how far a mean of two numbers is above another number.
use Rattle.std.proofs.Common.{◌≡◌, List, [], ◌∷◌, pos, refl, sym, ap, ◌∙◌, Bool, true, false}
use Rattle.std.proofs.lemmas.Bool.{and_parts}
use Rattle.theory_ring.specs.Ring.{Ops, Laws, difference}
use Rattle.theory_ring.specs.Sign.{Signed, OrderLaws, IsPositive, IsNonNegative}
use Rattle.theory_plane.specs.Plane.{PlanePoint, TestPoint, side}
use Rattle.theory_plane.specs.Box.{OpenBox, is_shorter}
use Rattle.theory_ring.proofs.Normaliser.{Expr, var, con, neg, exprs, ring, ◌⊕◌, ◌⊖◌, ◌⊗◌}
use Rattle.theory_ring.proofs.Signs.{pos_nonneg, zero_nonneg, not_pos, pos_add_nonneg, sign-scale}
use Rattle.theory_plane.proofs.Crossing.{above, A, B, P}
use Rattle.theory_plane.proofs.BoxHelly.{Weights}
use Rattle.theory_plane.proofs.BoxOverlap.{greater}
use Rattle.theory_plane.proofs.BoxPoints.{Between_sides, MeanInBox}

-- two tests that hold together
pub together : (b c : Bool) → (b ≡ true → c ≡ false → ⊥) → (c ≡ true → b ≡ false → ⊥) → b ≡ c
together true true f g = refl
together true false f g = absurd (f refl refl)
together false true f g = absurd (g refl refl)
together false false f g = refl

module _ (S : Signed) (L : Laws S.ops) (O : OrderLaws S) where
  abbrev R : Ops
  R = S.ops

  abbrev pub zero_of : R.carrier
  zero_of = R.int (pos 0)

  -- no mean of the ends is in the box
  abbrev pub Avoids : OpenBox R.carrier → PlanePoint R.carrier → PlanePoint R.carrier → Type 0
  Avoids box a b = (u : Weights S) → MeanInBox S L O a b box u → ⊥

  -- how far the mean of s and t with weights u is above z/d, times d and the sum of the weights
  abbrev pub over : R.carrier → R.carrier → R.carrier → R.carrier → Weights S → R.carrier
  over z d s t u = difference R (R.mul d (R.add (R.mul u.i s) (R.mul u.j t))) (R.mul (R.add u.i u.j) z)

  abbrev all : R.carrier → R.carrier → R.carrier → R.carrier → Weights S → R.carrier → R.carrier → List R.carrier
  all z d s t u c w = z ∷ (d ∷ (s ∷ (t ∷ (u.i ∷ (u.j ∷ (c ∷ (w ∷ [])))))))

  abbrev pub over_expr : Expr → Expr
  over_expr z = var 1 ⊗ (var 4 ⊗ var 2 ⊕ var 5 ⊗ var 3) ⊖ (var 4 ⊕ var 5) ⊗ z

  -- a mean between two numbers of the box, in one coordinate
  pub between_inside : (c w s t x y d : R.carrier) (u : Weights S) → IsPositive S d
      → is_shorter S (difference R x (R.mul d c)) (R.mul d w) ≡ true → is_shorter S (difference R y (R.mul d c)) (R.mul d w) ≡ true
      → IsNonNegative S (over x d s t u) → IsNonNegative S (R.neg (over y d s t u)) → Between_sides S L O c w s t u
  between_inside c w s t x y d u d_pos in_x in_y from_x to_y = (
    sym (sign-scale S L O d _ d_pos)
        ∙ ap S.sign (ring R L (all y d s t u c w)
        (var 1 ⊗ (var 4 ⊗ (var 7 ⊖ (var 2 ⊖ var 6)) ⊕ var 5 ⊗ (var 7 ⊖ (var 3 ⊖ var 6))))
        ((var 4 ⊕ var 5) ⊗ (var 1 ⊗ var 7 ⊖ (var 0 ⊖ var 1 ⊗ var 6)) ⊕ neg (over_expr (var 0))) refl)
        ∙ pos_add_nonneg S L O _ _ (O.sign-mul _ _ u.some (greater _ (and_parts _ _ in_y).0)) to_y,
    sym (sign-scale S L O d _ d_pos)
        ∙ ap S.sign (ring R L (all x d s t u c w)
        (var 1 ⊗ (var 4 ⊗ (var 7 ⊕ (var 2 ⊖ var 6)) ⊕ var 5 ⊗ (var 7 ⊕ (var 3 ⊖ var 6))))
        ((var 4 ⊕ var 5) ⊗ (var 1 ⊗ var 7 ⊖ neg (var 0 ⊖ var 1 ⊗ var 6)) ⊕ over_expr (var 0)) refl)
        ∙ pos_add_nonneg S L O _ _ (O.sign-mul _ _ u.some (greater _ (and_parts _ _ in_x).1)) from_x,
  )

  pub zero_nn : (x : R.carrier) → x ≡ zero_of → IsNonNegative S x
  zero_nn x e = zero_nonneg S L O x (ap S.sign e ∙ O.zero_equal)

  pub neg_zero_nn : (x : R.carrier) → x ≡ zero_of → IsNonNegative S (R.neg x)
  neg_zero_nn x e = zero_nn (R.neg x) (ap R.neg e ∙ ring R L [] (neg (con (pos 0))) (con (pos 0)) refl)

  -- ---- the point of a rising edge at a height
  module _ (a b : PlanePoint R.carrier) (y d : R.carrier) (d_pos : IsPositive S d)
      (low : IsNonNegative S (R.neg (difference R (R.mul d a.y) y)))
      (high : IsPositive S (difference R (R.mul d b.y) y)) where
    abbrev pub level : Weights S
    level = record {
      i = difference R (R.mul d b.y) y;
      j = R.neg (difference R (R.mul d a.y) y);
      i_nonneg = pos_nonneg S L O _ high;
      j_nonneg = low;
      some = pos_add_nonneg S L O _ _ high low;
    }

    pub at_level : over y d a.y b.y level ≡ zero_of
    at_level = ring R L (y ∷ (d ∷ (a.y ∷ (b.y ∷ []))))
        (var 1 ⊗ ((var 1 ⊗ var 3 ⊖ var 0) ⊗ var 2 ⊕ neg (var 1 ⊗ var 2 ⊖ var 0) ⊗ var 3) ⊖
        ((var 1 ⊗ var 3 ⊖ var 0) ⊕ neg (var 1 ⊗ var 2 ⊖ var 0)) ⊗ var 0)
        (con (pos 0)) refl

    -- a point of this height is as far left of the edge as it is left of that point
    beside_level : (x : R.carrier) → over x d a.x b.x level ≡ R.mul d (side R a b (record { x = x; y = y; d = d }))
    beside_level x = ring R L (a.x ∷ (a.y ∷ (b.x ∷ (b.y ∷ (x ∷ (y ∷ (x ∷ (y ∷ (d ∷ [])))))))))
        (var 8 ⊗ ((var 8 ⊗ var 3 ⊖ var 7) ⊗ var 0 ⊕ neg (var 8 ⊗ var 1 ⊖ var 7) ⊗ var 2) ⊖
        ((var 8 ⊗ var 3 ⊖ var 7) ⊕ neg (var 8 ⊗ var 1 ⊖ var 7)) ⊗ var 6)
        (var 8 ⊗ side exprs A B P) refl

    pub side_sign : (x : R.carrier) → S.sign (over x d a.x b.x level) ≡ S.sign (side R a b (record { x = x; y = y; d = d }))
    side_sign x = ap S.sign (beside_level x) ∙ sign-scale S L O d _ d_pos

  pub falls_low : (a : PlanePoint R.carrier) (p : TestPoint R.carrier) → above S L O a p ≡ false
      → IsNonNegative S (R.neg (difference R (R.mul p.d a.y) p.y))
  falls_low a p e = not_pos S L O _ e

  pub rises_high : (a : PlanePoint R.carrier) (p : TestPoint R.carrier) → above S L O a p ≡ true → IsPositive S (difference R (R.mul p.d a.y) p.y)
  rises_high a p e = greater _ e

  pub avoids-turned : (box : OpenBox R.carrier) (a b : PlanePoint R.carrier) → Avoids box a b → Avoids box b a
  avoids-turned box a b h u m = h (record {
    i = u.j;
    j = u.i;
    i_nonneg = u.j_nonneg;
    j_nonneg = u.i_nonneg;
    some = ap S.sign (L.add_comm _ _) ∙ u.some;
  }) (
    (ap S.sign (L.add_comm _ _) ∙ m.0.0, ap S.sign (L.add_comm _ _) ∙ m.0.1),
    (ap S.sign (L.add_comm _ _) ∙ m.1.0, ap S.sign (L.add_comm _ _) ∙ m.1.1),
  )

  module _ (box : OpenBox R.carrier) where
    -- a coordinate of a point in the box
    abbrev pub InX : R.carrier → R.carrier → Type 0
    InX x d = is_shorter S (difference R x (R.mul d box.centre.x)) (R.mul d (R.int (pos box.w))) ≡ true

    abbrev pub InY : R.carrier → R.carrier → Type 0
    InY y d = is_shorter S (difference R y (R.mul d box.centre.y)) (R.mul d (R.int (pos box.h))) ≡ true

    -- two points of the box, the second not below the first on one vertical line: (x/d, y1/d) and (x/d, y2/d)
    pub record Strip : Type 0 where
      pub x : R.carrier
      pub y1 : R.carrier
      pub y2 : R.carrier
      pub d : R.carrier
      pub d_pos : IsPositive S d
      pub in_x : InX x d
      pub in1 : InY y1 d
      pub in2 : InY y2 d
      pub order : IsNonNegative S (difference R y2 y1)
