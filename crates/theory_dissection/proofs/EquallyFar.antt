-- Two points that are ahead of u in one direction, and equally far from it, are one.
use Rattle.std.proofs.Common.{◌≡◌, List, [], ◌∷◌, pos, refl, sym, ap, ap₂, ◌∙◌}
use Rattle.std.specs.declared.cmp.Ordering.{Ordering}
use Rattle.std.specs.declared.cmp.Ordering.TheVariants.{Less, Equal, Greater}
use Rattle.theory_ring.specs.Ring.{Ops, Laws, difference}
use Rattle.theory_ring.specs.Sign.{Signed, OrderLaws, IsPositive, IsNonNegative}
use Rattle.theory_plane.specs.Plane.{PlanePoint}
use Rattle.theory_ring.proofs.Normaliser.{var, con, neg, ring, ring_from, ◌⊕◌, ◌⊖◌, ◌⊗◌}
use Rattle.theory_ring.proofs.Signs.{pos_nonneg, zero_nonneg, nonneg_mul, less_neg, zero_factor}
use Rattle.theory_plane.proofs.Inside.{both_zero}
use Rattle.theory_plane.proofs.Linear.{cancel}
use Rattle.theory_substitution.specs.Points.{Points, PointLaws}
use Rattle.theory_substitution.specs.Plane.{plane_point, twice_squared_length}
use Rattle.theory_substitution.proofs.Lengths.{height, norm-is}
use Rattle.theory_dissection.proofs.Ahead.{Ahead}

module _ (S : Signed) (L : Laws S.ops) (O : OrderLaws S) where
  abbrev R : Ops
  R = S.ops

  abbrev zero_of : R.carrier
  zero_of = R.int (pos 0)

  square_nonneg : (x : R.carrier) → IsNonNegative S (R.mul x x)
  square_nonneg x = at_sign (S.sign x) refl
    where
      at_sign : (o : Ordering) → S.sign x ≡ o → IsNonNegative S (R.mul x x)
      at_sign Greater e = pos_nonneg S L O _ (O.sign-mul x x e e)
      at_sign Equal e = zero_nonneg S L O _ (ap S.sign
          (ap₂ R.mul (O.equal_zero x e) (O.equal_zero x e)
          ∙ ring R L [] (con (pos 0) ⊗ con (pos 0)) (con (pos 0)) refl) ∙ O.zero_equal)
      at_sign Less e =
          pos_nonneg S L O _ (ap S.sign (ring R L (x ∷ []) (var 0 ⊗ var 0) (neg (var 0) ⊗ neg (var 0)) refl)
          ∙ O.sign-mul _ _ (less_neg S L O x e) (less_neg S L O x e))

  square_zero : (x : R.carrier) → R.mul x x ≡ zero_of → x ≡ zero_of
  square_zero x e = at_sign (S.sign x) refl
    where
      at_sign : (o : Ordering) → S.sign x ≡ o → x ≡ zero_of
      at_sign Greater h = zero_factor S L O x x h e
      at_sign Equal h = O.equal_zero x h
      at_sign Less h =
          zero_factor S L O (R.neg x) x (less_neg S L O x h)
          (ring R L (x ∷ []) (neg (var 0) ⊗ var 0) (neg (var 0 ⊗ var 0)) refl ∙ ap R.neg e
          ∙ ring R L [] (neg (con (pos 0))) (con (pos 0)) refl)

  -- x² + h y² is 0 for the origin alone
  pub only_origin : (h x y : R.carrier) → IsPositive S h → R.add (R.mul x x) (R.mul h (R.mul y y)) ≡ zero_of → (x ≡ zero_of) × (y ≡ zero_of)
  only_origin h x y p e =
      let both = both_zero S L O (R.mul x x) (R.mul h (R.mul y y)) (square_nonneg x)
      (nonneg_mul S L O _ _ (pos_nonneg S L O h p) (square_nonneg y)) e in
      (square_zero x both.0, square_zero y (zero_factor S L O h (R.mul y y) p both.1))

  -- β (x, y) = α (x', y') with α and β positive, and equal lengths
  pub one_length : (h α β x y x' y' : R.carrier) → IsPositive S h → IsPositive S α → IsPositive S β → R.mul β x ≡ R.mul α x' → R.mul β y ≡ R.mul α y'
      → R.add (R.mul x x) (R.mul h (R.mul y y)) ≡ R.add (R.mul x' x') (R.mul h (R.mul y' y')) → (x ≡ x') × (y ≡ y')
  one_length h α β x y x' y' h_pos α_pos β_pos ex ey same = at_sign (S.sign (difference R α β)) refl
    where
      all : List R.carrier
      all = h ∷ (α ∷ (β ∷ (x ∷ (y ∷ (x' ∷ (y' ∷ []))))))

      -- (α - β)(α + β)(x² + h y²) is 0
      product : R.mul (R.add α β) (R.mul (difference R α β) (R.add (R.mul x x) (R.mul h (R.mul y y)))) ≡ zero_of
      product =
          ring_from R L all ((var 1 ⊕ var 2) ⊗ ((var 1 ⊖ var 2) ⊗ (var 3 ⊗ var 3 ⊕ var 0 ⊗ (var 4 ⊗ var 4)))) (con (pos 0))
          ((var 1 ⊗ var 1, var 3 ⊗ var 3 ⊕ var 0 ⊗ (var 4 ⊗ var 4), var 5 ⊗ var 5 ⊕ var 0 ⊗ (var 6 ⊗ var 6))
          ∷ ((neg (var 2 ⊗ var 3 ⊕ var 1 ⊗ var 5), var 2 ⊗ var 3, var 1 ⊗ var 5)
          ∷ ((neg (var 0 ⊗ (var 2 ⊗ var 4 ⊕ var 1 ⊗ var 6)), var 2 ⊗ var 4, var 1 ⊗ var 6) ∷ [])))
          (same, (ex, (ey, tt))) refl

      gone : R.mul (difference R α β) (R.add (R.mul x x) (R.mul h (R.mul y y))) ≡ zero_of
      gone = zero_factor S L O (R.add α β) _ (O.sign-add α β α_pos β_pos) product

      -- where both are the origin
      at_origin : R.add (R.mul x x) (R.mul h (R.mul y y)) ≡ zero_of → (x ≡ x') × (y ≡ y')
      at_origin e =
          let here = only_origin h x y h_pos e in
          let there = only_origin h x' y' h_pos (sym same ∙ e) in
          (here.0 ∙ sym there.0, here.1 ∙ sym there.1)

      at_sign : (o : Ordering) → S.sign (difference R α β) ≡ o → (x ≡ x') × (y ≡ y')
      at_sign Greater e = at_origin (zero_factor S L O (difference R α β) _ e gone)
      at_sign Less e =
          at_origin (zero_factor S L O (R.neg (difference R α β)) _ (less_neg S L O _ e)
          (ring R L (difference R α β ∷ (R.add (R.mul x x) (R.mul h (R.mul y y)) ∷ [])) (neg (var 0) ⊗ var 1)
          (neg (var 0 ⊗ var 1)) refl ∙ ap R.neg gone
          ∙ ring R L [] (neg (con (pos 0))) (con (pos 0)) refl))
      at_sign Equal e = (one x x' ex, one y y' ey)
        where
          one : (u v : R.carrier) → R.mul β u ≡ R.mul α v → u ≡ v
          one u v f =
              cancel S L O β u v β_pos
              (ring_from R L (α ∷ (β ∷ (u ∷ (v ∷ [])))) (var 1 ⊗ (var 2 ⊖ var 3)) (con (pos 0))
              ((con (pos 1), var 1 ⊗ var 2, var 0 ⊗ var 3) ∷ ((var 3, var 0 ⊖ var 1, con (pos 0)) ∷ []))
              (f, (O.equal_zero _ e, tt)) refl)

module _ (P : Points) (W : PointLaws P) where
  abbrev K : Ops
  K = P.ring

  abbrev V : Ops
  V = P.real.ops

  abbrev put : K.carrier → PlanePoint V.carrier
  put = plane_point P

  x-difference : (a b : K.carrier) → P.x (difference K b a) ≡ difference V (P.x b) (P.x a)
  x-difference a b =
      ring_from V W.of_real (P.x b ∷ (P.x a ∷ (P.x (difference K b a) ∷ []))) (var 2) (var 0 ⊖ var 1) ((con (pos 1), var 2 ⊕ var 1, var 0) ∷ [])
      (sym (W.x-add (difference K b a) a) ∙ ap P.x (ring K W.of_ring (a ∷ (b ∷ [])) ((var 1 ⊖ var 0) ⊕ var 0) (var 1) refl), tt) refl

  y-difference : (a b : K.carrier) → P.y (difference K b a) ≡ difference V (P.y b) (P.y a)
  y-difference a b =
      ring_from V W.of_real (P.y b ∷ (P.y a ∷ (P.y (difference K b a) ∷ []))) (var 2) (var 0 ⊖ var 1) ((con (pos 1), var 2 ⊕ var 1, var 0) ∷ [])
      (sym (W.y-add (difference K b a) a) ∙ ap P.y (ring K W.of_ring (a ∷ (b ∷ [])) ((var 1 ⊖ var 0) ⊕ var 0) (var 1) refl), tt) refl

  -- u→v has the direction of c→d, and w→u that of d→c; v and w are equally far from u
  pub equally_far : (c d u v w : K.carrier) → Ahead P.real (put c) (put d) (put u) (put v) → Ahead P.real (put d) (put c) (put w) (put u)
      → twice_squared_length P (difference K v u) ≡ twice_squared_length P (difference K u w) → v ≡ w
  equally_far c d u v w h g far =
      let at = one_length P.real W.of_real W.of_order (height P W) (V.mul h.q g.p) (V.mul g.q h.p)
      (P.x (difference K v u)) (P.y (difference K v u)) (V.neg (P.x (difference K u w)))
      (V.neg (P.y (difference K u w)))
      W.cosine_below (W.of_order.sign-mul _ _ h.q_pos g.p_pos) (W.of_order.sign-mul _ _ g.q_pos h.p_pos)
      (ap (V.mul (V.mul g.q h.p)) (x-difference u v)
      ∙ turned (P.x c) (P.x d) (P.x u) (P.x v) (P.x w) h.run-x g.run-x
      ∙ ap (λ z. V.mul (V.mul h.q g.p) (V.neg z)) (sym (x-difference w u)))
      (ap (V.mul (V.mul g.q h.p)) (y-difference u v)
      ∙ turned (P.y c) (P.y d) (P.y u) (P.y v) (P.y w) h.run-y g.run-y
      ∙ ap (λ z. V.mul (V.mul h.q g.p) (V.neg z)) (sym (y-difference w u)))
      (sym (norm-is P W (difference K v u)) ∙ ap (V.mul (V.int (pos 2))) far ∙ norm-is P W (difference K u w)
      ∙ ring V W.of_real (height P W ∷ (P.x (difference K u w) ∷ (P.y (difference K u w) ∷ [])))
      (var 1 ⊗ var 1 ⊕ var 0 ⊗ (var 2 ⊗ var 2))
      (neg (var 1) ⊗ neg (var 1) ⊕ var 0 ⊗ (neg (var 2) ⊗ neg (var 2))) refl) in
      W.separate v w (same (P.x u) (P.x v) (P.x w)
      (sym (x-difference u v) ∙ at.0 ∙ ap V.neg (x-difference w u)))
      (same (P.y u) (P.y v) (P.y w) (sym (y-difference u v) ∙ at.1 ∙ ap V.neg (y-difference w u)))
    where
      turned : (c d u v w : V.carrier) → V.mul h.p (difference V v u) ≡ V.mul h.q (difference V d c)
          → V.mul g.p (difference V u w) ≡ V.mul g.q (difference V c d)
          → V.mul (V.mul g.q h.p) (difference V v u) ≡ V.mul (V.mul h.q g.p) (V.neg (difference V u w))
      turned c d u v w e f =
          ring_from V W.of_real (c ∷ (d ∷ (u ∷ (v ∷ (w ∷ (h.p ∷ (h.q ∷ (g.p ∷ (g.q ∷ [])))))))))
          ((var 8 ⊗ var 5) ⊗ (var 3 ⊖ var 2)) ((var 6 ⊗ var 7) ⊗ neg (var 2 ⊖ var 4))
          ((var 8, var 5 ⊗ (var 3 ⊖ var 2), var 6 ⊗ (var 1 ⊖ var 0))
          ∷ ((var 6, var 7 ⊗ (var 2 ⊖ var 4), var 8 ⊗ (var 0 ⊖ var 1)) ∷ [])) (e, (f, tt)) refl

      same : (u v w : V.carrier) → difference V v u ≡ V.neg (difference V u w) → v ≡ w
      same u v w e = ring_from V W.of_real (u ∷ (v ∷ (w ∷ []))) (var 1) (var 2) ((con (pos 1), var 1 ⊖ var 0, neg (var 0 ⊖ var 2)) ∷ []) (e, tt) refl
