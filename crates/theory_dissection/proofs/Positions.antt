-- Positions along a line c→d: which of two points comes first, and what lies along a piece.
use Rattle.std.proofs.Common.{◌≡◌, List, [], ◌∷◌, pos, refl, ap, ◌∙◌}
use Rattle.std.specs.Ordering.{is_lt, ordering_reverse}
use Rattle.std.specs.declared.cmp.Ordering.{Ordering}
use Rattle.std.specs.declared.cmp.Ordering.TheVariants.{Less, Equal, Greater}
use Rattle.theory_ring.specs.Ring.{Ops, Laws, difference}
use Rattle.theory_ring.specs.Sign.{Signed, OrderLaws, IsPositive, IsNonNegative}
use Rattle.theory_plane.specs.Plane.{PlanePoint}
use Rattle.theory_ring.proofs.Normaliser.{Expr, var, con, neg, ring, ring_from, ◌⊕◌, ◌⊖◌, ◌⊗◌}
use Rattle.theory_ring.proofs.Signs.{nonneg_add, nonneg_mul, pos_nonneg, zero_nonneg, pos_add_nonneg, less_neg}
use Rattle.theory_plane.proofs.Linear.{cancel}
use Rattle.theory_dissection.proofs.Ahead.{Ahead}

-- den (x - c) = num (d - c)
pub record At (S : Signed) (c d x : PlanePoint S.ops.carrier) : Type 0 where
  pub num : S.ops.carrier
  pub den : S.ops.carrier
  pub den_pos : IsPositive S den
  pub at_x : S.ops.mul den (difference S.ops x.x c.x) ≡ S.ops.mul num (difference S.ops d.x c.x)
  pub at_y : S.ops.mul den (difference S.ops x.y c.y) ≡ S.ops.mul num (difference S.ops d.y c.y)

module _ (S : Signed) (L : Laws S.ops) (O : OrderLaws S) where
  abbrev R : Ops
  R = S.ops

  abbrev zero_of : R.carrier
  zero_of = R.int (pos 0)

  zero_nn : IsNonNegative S zero_of
  zero_nn = zero_nonneg S L O zero_of O.zero_equal

  pub ahead-self : (a b : PlanePoint R.carrier) → Ahead S a b a b
  ahead-self a b = record {
    p = R.int (pos 1);
    q = R.int (pos 1);
    s = zero_of;
    p_pos = O.one_greater;
    q_pos = O.one_greater;
    s_nonneg = zero_nn;
    run-x = refl;
    run-y = refl;
    start-x = start a.x b.x;
    start-y = start a.y b.y;
    rest = zero_of;
    rest_nonneg = zero_nn;
    whole = ring R L [] (con (pos 1)) ((con (pos 0) ⊕ con (pos 1)) ⊕ con (pos 0)) refl;
  }
    where
      start : (x y : R.carrier) → R.mul (R.int (pos 1)) (difference R x x) ≡ R.mul zero_of (difference R y x)
      start x y = ring R L (x ∷ (y ∷ [])) (con (pos 1) ⊗ (var 0 ⊖ var 0)) (con (pos 0) ⊗ (var 1 ⊖ var 0)) refl

  pub ahead-trans : (c d a b u v : PlanePoint R.carrier) → Ahead S c d a b → Ahead S a b u v → Ahead S c d u v
  ahead-trans c d a b u v h g = record {
    p = R.mul h.p g.p;
    q = R.mul h.q g.q;
    s = R.add (R.mul g.s h.q) (R.mul g.p h.s);
    p_pos = O.sign-mul _ _ h.p_pos g.p_pos;
    q_pos = O.sign-mul _ _ h.q_pos g.q_pos;
    s_nonneg = nonneg_add S L O _ _ (nonneg_mul S L O _ _ g.s_nonneg (pos_nonneg S L O _ h.q_pos))
        (nonneg_mul S L O _ _ (pos_nonneg S L O _ g.p_pos) h.s_nonneg);
    run-x = run c.x d.x a.x b.x u.x v.x h.run-x g.run-x;
    run-y = run c.y d.y a.y b.y u.y v.y h.run-y g.run-y;
    start-x = start c.x d.x a.x b.x u.x h.run-x h.start-x g.start-x;
    start-y = start c.y d.y a.y b.y u.y h.run-y h.start-y g.start-y;
    rest = R.add (R.mul g.p h.rest) (R.mul h.q g.rest);
    rest_nonneg = nonneg_add S L O _ _ (nonneg_mul S L O _ _ (pos_nonneg S L O _ g.p_pos) h.rest_nonneg)
        (nonneg_mul S L O _ _ (pos_nonneg S L O _ h.q_pos) g.rest_nonneg);
    whole =
        ring_from R L (h.p ∷ (h.q ∷ (h.s ∷ (h.rest ∷ (g.p ∷ (g.q ∷ (g.s ∷ (g.rest ∷ [])))))))) (var 0 ⊗ var 4)
        (((var 6 ⊗ var 1 ⊕ var 4 ⊗ var 2) ⊕ var 1 ⊗ var 5) ⊕ (var 4 ⊗ var 3 ⊕ var 1 ⊗ var 7))
        ((var 4, var 0, (var 2 ⊕ var 1) ⊕ var 3) ∷ ((var 1, var 4, (var 6 ⊕ var 5) ⊕ var 7) ∷ [])) (h.whole, (g.whole, tt)) refl;
  }
    where
      run : (c d a b u v : R.carrier) → R.mul h.p (difference R b a) ≡ R.mul h.q (difference R d c)
          → R.mul g.p (difference R v u) ≡ R.mul g.q (difference R b a)
          → R.mul (R.mul h.p g.p) (difference R v u) ≡ R.mul (R.mul h.q g.q) (difference R d c)
      run c d a b u v e f =
          ring_from R L (c ∷ (d ∷ (a ∷ (b ∷ (u ∷ (v ∷ (h.p ∷ (h.q ∷ (g.p ∷ (g.q ∷ []))))))))))
          ((var 6 ⊗ var 8) ⊗ (var 5 ⊖ var 4)) ((var 7 ⊗ var 9) ⊗ (var 1 ⊖ var 0))
          ((var 9, var 6 ⊗ (var 3 ⊖ var 2), var 7 ⊗ (var 1 ⊖ var 0))
          ∷ ((var 6, var 8 ⊗ (var 5 ⊖ var 4), var 9 ⊗ (var 3 ⊖ var 2)) ∷ [])) (e, (f, tt)) refl

      start : (c d a b u : R.carrier) → R.mul h.p (difference R b a) ≡ R.mul h.q (difference R d c)
          → R.mul h.p (difference R a c) ≡ R.mul h.s (difference R d c)
          → R.mul g.p (difference R u a) ≡ R.mul g.s (difference R b a)
          → R.mul (R.mul h.p g.p) (difference R u c) ≡ R.mul (R.add (R.mul g.s h.q) (R.mul g.p h.s)) (difference R d c)
      start c d a b u e k f =
          ring_from R L (c ∷ (d ∷ (a ∷ (b ∷ (u ∷ (h.p ∷ (h.q ∷ (h.s ∷ (g.p ∷ (g.s ∷ []))))))))))
          ((var 5 ⊗ var 8) ⊗ (var 4 ⊖ var 0)) ((var 9 ⊗ var 6 ⊕ var 8 ⊗ var 7) ⊗ (var 1 ⊖ var 0))
          ((var 9, var 5 ⊗ (var 3 ⊖ var 2), var 6 ⊗ (var 1 ⊖ var 0))
          ∷ ((var 8, var 5 ⊗ (var 2 ⊖ var 0), var 7 ⊗ (var 1 ⊖ var 0))
          ∷ ((var 5, var 8 ⊗ (var 4 ⊖ var 2), var 9 ⊗ (var 3 ⊖ var 2)) ∷ [])))
          (e, (k, (f, tt))) refl

  module _ (c d : PlanePoint R.carrier) where
    -- ---- the ends of what lies along the line
    abbrev pub start_at : (a b : PlanePoint R.carrier) → Ahead S c d a b → At S c d a
    start_at a b h = record { num = h.s; den = h.p; den_pos = h.p_pos; at_x = h.start-x; at_y = h.start-y }

    pub end_at : (a b : PlanePoint R.carrier) → Ahead S c d a b → At S c d b
    end_at a b h = record {
      num = R.add h.s h.q;
      den = h.p;
      den_pos = h.p_pos;
      at_x = sum a.x b.x c.x d.x h.run-x h.start-x;
      at_y = sum a.y b.y c.y d.y h.run-y h.start-y;
    }
      where
        sum : (a b c d : R.carrier) → R.mul h.p (difference R b a) ≡ R.mul h.q (difference R d c)
            → R.mul h.p (difference R a c) ≡ R.mul h.s (difference R d c)
            → R.mul h.p (difference R b c) ≡ R.mul (R.add h.s h.q) (difference R d c)
        sum a b c d e f =
            ring_from R L (a ∷ (b ∷ (c ∷ (d ∷ (h.p ∷ (h.q ∷ (h.s ∷ []))))))) (var 4 ⊗ (var 1 ⊖ var 2)) ((var 6 ⊕ var 5) ⊗ (var 3 ⊖ var 2))
            ((con (pos 1), var 4 ⊗ (var 1 ⊖ var 0), var 5 ⊗ (var 3 ⊖ var 2))
            ∷ ((con (pos 1), var 4 ⊗ (var 0 ⊖ var 2), var 6 ⊗ (var 3 ⊖ var 2)) ∷ [])) (e, (f, tt)) refl

    -- how far y is behind x, multiplied by both denominators
    abbrev pub gap : {x y : PlanePoint R.carrier} → At S c d x → At S c d y → R.carrier
    gap a b = difference R (R.mul b.num a.den) (R.mul a.num b.den)

    -- x, u, v, y one after another, u before v: u→v lies along x→y
    pub along-piece : (x y u v : PlanePoint R.carrier) (ax : At S c d x) (ay : At S c d y) (au : At S c d u) (av : At S c d v)
        → IsNonNegative S (gap ax au) → IsPositive S (gap au av) → IsNonNegative S (gap av ay) → Ahead S x y u v
    along-piece x y u v ax ay au av xu uv vy = record {
      p = R.add (R.add s q) rest;
      q = q;
      s = s;
      p_pos = pos_add_nonneg S L O _ _ (ap S.sign (L.add_comm s q) ∙ pos_add_nonneg S L O q s q_pos s_nn) rest_nn;
      q_pos = q_pos;
      s_nonneg = s_nn;
      run-x = run c.x d.x x.x y.x u.x v.x ax.at_x ay.at_x au.at_x av.at_x;
      run-y = run c.y d.y x.y y.y u.y v.y ax.at_y ay.at_y au.at_y av.at_y;
      start-x = start c.x d.x x.x y.x u.x ax.at_x ay.at_x au.at_x;
      start-y = start c.y d.y x.y y.y u.y ax.at_y ay.at_y au.at_y;
      rest = rest;
      rest_nonneg = rest_nn;
      whole = refl;
    }
      where
        s : R.carrier
        s = R.mul (gap ax au) (R.mul ay.den av.den)

        q : R.carrier
        q = R.mul (gap au av) (R.mul ax.den ay.den)

        rest : R.carrier
        rest = R.mul (gap av ay) (R.mul ax.den au.den)

        s_nn : IsNonNegative S s
        s_nn = nonneg_mul S L O _ _ xu (pos_nonneg S L O _ (O.sign-mul _ _ ay.den_pos av.den_pos))

        q_pos : IsPositive S q
        q_pos = O.sign-mul _ _ uv (O.sign-mul _ _ ax.den_pos ay.den_pos)

        rest_nn : IsNonNegative S rest
        rest_nn = nonneg_mul S L O _ _ vy (pos_nonneg S L O _ (O.sign-mul _ _ ax.den_pos au.den_pos))

        -- numerators 0 to 3 and denominators 4 to 7 of x, y, u, v; then c, d, x, y, u, v
        all : R.carrier → R.carrier → R.carrier → R.carrier → R.carrier → R.carrier → List R.carrier
        all c d x y u v = ax.num ∷ (ay.num ∷ (au.num ∷ (av.num ∷ (ax.den ∷ (ay.den ∷ (au.den ∷ (av.den ∷ (c ∷ (d ∷ (x ∷ (y ∷ (u ∷ (v ∷ [])))))))))))))

        S' : Expr
        S' = (var 2 ⊗ var 4 ⊖ var 0 ⊗ var 6) ⊗ (var 5 ⊗ var 7)

        Q' : Expr
        Q' = (var 3 ⊗ var 6 ⊖ var 2 ⊗ var 7) ⊗ (var 4 ⊗ var 5)

        T' : Expr
        T' = (var 1 ⊗ var 7 ⊖ var 3 ⊗ var 5) ⊗ (var 4 ⊗ var 6)

        P' : Expr
        P' = (S' ⊕ Q') ⊕ T'

        big : R.carrier
        big = R.mul (R.mul ax.den ay.den) (R.mul au.den av.den)

        big_pos : IsPositive S big
        big_pos = O.sign-mul _ _ (O.sign-mul _ _ ax.den_pos ay.den_pos) (O.sign-mul _ _ au.den_pos av.den_pos)

        run : (c d x y u v : R.carrier) → R.mul ax.den (difference R x c) ≡ R.mul ax.num (difference R d c)
            → R.mul ay.den (difference R y c) ≡ R.mul ay.num (difference R d c)
            → R.mul au.den (difference R u c) ≡ R.mul au.num (difference R d c) → R.mul av.den (difference R v c) ≡ R.mul av.num (difference R d c)
            → R.mul (R.add (R.add s q) rest) (difference R v u) ≡ R.mul q (difference R y x)
        run c d x y u v ex ey eu ev =
            cancel S L O big _ _ big_pos
            (ring_from R L (all c d x y u v) (((var 4 ⊗ var 5) ⊗ (var 6 ⊗ var 7)) ⊗ (P' ⊗ (var 13 ⊖ var 12) ⊖ Q' ⊗ (var 11 ⊖ var 10))) (con (pos 0))
            ((Q' ⊗ (var 5 ⊗ (var 6 ⊗ var 7)), var 4 ⊗ (var 10 ⊖ var 8), var 0 ⊗ (var 9 ⊖ var 8))
            ∷ ((neg (Q' ⊗ (var 4 ⊗ (var 6 ⊗ var 7))), var 5 ⊗ (var 11 ⊖ var 8), var 1 ⊗ (var 9 ⊖ var 8))
            ∷ ((neg (P' ⊗ (var 4 ⊗ (var 5 ⊗ var 7))), var 6 ⊗ (var 12 ⊖ var 8), var 2 ⊗ (var 9 ⊖ var 8))
            ∷ ((P' ⊗ (var 4 ⊗ (var 5 ⊗ var 6)), var 7 ⊗ (var 13 ⊖ var 8), var 3 ⊗ (var 9 ⊖ var 8))
            ∷ []))))
            (ex, (ey, (eu, (ev, tt)))) refl)

        start : (c d x y u : R.carrier) → R.mul ax.den (difference R x c) ≡ R.mul ax.num (difference R d c)
            → R.mul ay.den (difference R y c) ≡ R.mul ay.num (difference R d c)
            → R.mul au.den (difference R u c) ≡ R.mul au.num (difference R d c)
            → R.mul (R.add (R.add s q) rest) (difference R u x) ≡ R.mul s (difference R y x)
        start c d x y u ex ey eu =
            cancel S L O big _ _ big_pos
            (ring_from R L (all c d x y u u) (((var 4 ⊗ var 5) ⊗ (var 6 ⊗ var 7)) ⊗ (P' ⊗ (var 12 ⊖ var 10) ⊖ S' ⊗ (var 11 ⊖ var 10))) (con (pos 0))
            ((S' ⊗ (var 5 ⊗ (var 6 ⊗ var 7)) ⊖ P' ⊗ (var 5 ⊗ (var 6 ⊗ var 7)), var 4 ⊗ (var 10 ⊖ var 8), var 0 ⊗ (var 9 ⊖ var 8))
            ∷ ((neg (S' ⊗ (var 4 ⊗ (var 6 ⊗ var 7))), var 5 ⊗ (var 11 ⊖ var 8), var 1 ⊗ (var 9 ⊖ var 8))
            ∷ ((P' ⊗ (var 4 ⊗ (var 5 ⊗ var 7)), var 6 ⊗ (var 12 ⊖ var 8), var 2 ⊗ (var 9 ⊖ var 8)) ∷ [])))
            (ex, (ey, (eu, tt))) refl)

    pub start_before_end : (a b : PlanePoint R.carrier) (h : Ahead S c d a b) → IsPositive S (gap (start_at a b h) (end_at a b h))
    unfolding end_at
    start_before_end a b h =
        ap S.sign (ring R L (h.p ∷ (h.q ∷ (h.s ∷ []))) ((var 2 ⊕ var 1) ⊗ var 0 ⊖ var 2 ⊗ var 0)
        (var 1 ⊗ var 0) refl) ∙ O.sign-mul _ _ h.q_pos h.p_pos

    pub same_position : {x : PlanePoint R.carrier} (a : At S c d x) → IsNonNegative S (gap a a)
    same_position a = zero_nonneg S L O _ (ap S.sign
        (ring R L (a.num ∷ (a.den ∷ [])) (var 0 ⊗ var 1 ⊖ var 0 ⊗ var 1) (con (pos 0)) refl) ∙ O.zero_equal)

    pub turned_gap : {x y : PlanePoint R.carrier} (a : At S c d x) (b : At S c d y) → gap b a ≡ R.neg (gap a b)
    turned_gap a b = ring R L (a.num ∷ (a.den ∷ (b.num ∷ (b.den ∷ [])))) (var 0 ⊗ var 3 ⊖ var 2 ⊗ var 1) (neg (var 2 ⊗ var 1 ⊖ var 0 ⊗ var 3)) refl

    -- nothing that lies along the line begins at its end or behind
    pub not_behind : (x a b : PlanePoint R.carrier) (ax : At S c d x) (h : Ahead S c d a b) → x ≡ d
        → ((d.x ≡ c.x) → (d.y ≡ c.y) → ⊥) → IsNonNegative S (gap ax (start_at a b h)) → ⊥
    not_behind x a b ax h at_end apart nn = at_sign (S.sign (difference R ax.den ax.num)) refl
      where
        product : (x c d : R.carrier) → x ≡ d → R.mul ax.den (difference R x c) ≡ R.mul ax.num
            (difference R d c) → R.mul (difference R ax.den ax.num) (difference R d c) ≡ zero_of
        product x c d e f =
            ring_from R L (x ∷ (c ∷ (d ∷ (ax.den ∷ (ax.num ∷ []))))) ((var 3 ⊖ var 4) ⊗ (var 2 ⊖ var 1)) (con (pos 0))
            ((con (pos 1), var 3 ⊗ (var 0 ⊖ var 1), var 4 ⊗ (var 2 ⊖ var 1)) ∷ ((neg (var 3), var 0, var 2) ∷ [])) (f, (e, tt)) refl

        in_x : R.mul (difference R ax.den ax.num) (difference R d.x c.x) ≡ zero_of
        in_x = product x.x c.x d.x (ap (λ (z : PlanePoint R.carrier). z.x) at_end) ax.at_x

        in_y : R.mul (difference R ax.den ax.num) (difference R d.y c.y) ≡ zero_of
        in_y = product x.y c.y d.y (ap (λ (z : PlanePoint R.carrier). z.y) at_end) ax.at_y

        turned : (u : R.carrier) → R.mul (difference R ax.den ax.num) u ≡ zero_of → R.mul (R.neg (difference R ax.den ax.num)) u ≡ zero_of
        turned u e = ring R L (difference R ax.den ax.num ∷ (u ∷ [])) (neg (var 0) ⊗ var 1)
            (neg (var 0 ⊗ var 1)) refl ∙ ap R.neg e ∙ ring R L [] (neg (con (pos 0))) (con (pos 0)) refl

        at_sign : (o : Ordering) → S.sign (difference R ax.den ax.num) ≡ o → ⊥
        at_sign Greater e = apart (cancel S L O _ d.x c.x e in_x) (cancel S L O _ d.y c.y e in_y)
        at_sign Less e = apart (cancel S L O _ d.x c.x (less_neg S L O _ e) (turned _ in_x))
            (cancel S L O _ d.y c.y (less_neg S L O _ e) (turned _ in_y))
        at_sign Equal e = cc (nn, ap is_lt negative)
          where
            -- the gap is - den (q + rest)
            negative : S.sign (gap ax (start_at a b h)) ≡ Less
            negative =
                ap S.sign (
                ring_from R L (ax.num ∷ (ax.den ∷ (h.p ∷ (h.q ∷ (h.s ∷ (h.rest ∷ []))))))
                (var 4 ⊗ var 1 ⊖ var 0 ⊗ var 2) (neg (var 1 ⊗ (var 3 ⊕ var 5)))
                ((var 2, var 1 ⊖ var 0, con (pos 0)) ∷ ((neg (var 1), var 2, (var 4 ⊕ var 3) ⊕ var 5) ∷ [])) (O.equal_zero _ e, (h.whole, tt)) refl)
                ∙ O.sign-neg _ ∙ ap ordering_reverse (O.sign-mul _ _ ax.den_pos (pos_add_nonneg S L O h.q h.rest h.q_pos h.rest_nonneg))
