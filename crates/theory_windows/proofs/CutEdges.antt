-- An edge that is cut into parts meets an open box exactly where one of its parts does.
use Rattle.std.proofs.Common.{◌≡◌, ◌⊎◌, inl, inr, List, [], ◌∷◌, pos, refl, sym, ap, ◌∙◌, Ordering, Less, Equal, Greater, is_lt}
use Rattle.theory_ring.specs.Ring.{Ops, Laws, difference}
use Rattle.theory_ring.specs.Sign.{Signed, OrderLaws, IsPositive, IsNonNegative}
use Rattle.theory_plane.specs.Plane.{PlanePoint, TestPoint}
use Rattle.theory_plane.specs.Segment.{Between}
use Rattle.theory_plane.specs.Box.{OpenBox, scaled, EdgeMeetsBox}
use Rattle.theory_ring.proofs.Normaliser.{Expr, var, con, neg, ring, ring_from, ◌⊕◌, ◌⊖◌, ◌⊗◌}
use Rattle.theory_ring.proofs.Signs.{pos_nonneg, nonneg_cases, less_neg, nonneg_add, nonneg_mul}
use Rattle.theory_plane.proofs.Linear.{cancel}
use Rattle.theory_plane.proofs.Segment.{between-turned}
use Rattle.theory_plane.proofs.OnSegment.{between-on_segment, on_segment-between}
use Rattle.theory_windows.specs.CutEdges.{CutMeets, AreCuts, last_from, PartMeets, CutsMeet}

module _ (S : Signed) (L : Laws S.ops) (O : OrderLaws S) where
  abbrev R : Ops
  R = S.ops

  abbrev zero_of : R.carrier
  zero_of = R.int (pos 0)

  abbrev I : Expr
  I = var 0

  abbrev J : Expr
  J = var 1

  abbrev K : Expr
  K = var 2

  abbrev M : Expr
  M = var 3

  -- ---- p on the first part is on the whole
  module _ (a b c p : PlanePoint R.carrier) (h : Between S a b c) (g : Between S a c p) where
    one_way : (x y z w : R.carrier) → R.mul (R.add h.i h.j) z ≡ R.add (R.mul h.i x) (R.mul h.j y)
        → R.mul (R.add g.i g.j) w ≡ R.add (R.mul g.i x) (R.mul g.j z)
        → R.mul (R.add (R.add (R.mul g.i (R.add h.i h.j)) (R.mul g.j h.i)) (R.mul g.j h.j)) w ≡ R.add
        (R.mul (R.add (R.mul g.i (R.add h.i h.j)) (R.mul g.j h.i)) x) (R.mul (R.mul g.j h.j) y)
    one_way x y z w e f =
        ring_from R L (h.i ∷ (h.j ∷ (g.i ∷ (g.j ∷ (x ∷ (y ∷ (z ∷ (w ∷ []))))))))
        (((K ⊗ (I ⊕ J) ⊕ M ⊗ I) ⊕ M ⊗ J) ⊗ var 7) ((K ⊗ (I ⊕ J) ⊕ M ⊗ I) ⊗ var 4 ⊕ (M ⊗ J) ⊗ var 5)
        ((I ⊕ J, (K ⊕ M) ⊗ var 7, K ⊗ var 4 ⊕ M ⊗ var 6) ∷ ((M, (I ⊕ J) ⊗ var 6, I ⊗ var 4 ⊕ J ⊗ var 5) ∷ [])) (f, (e, tt)) refl

    first-part : Between S a b p
    first-part = record {
      i = R.add (R.mul g.i (R.add h.i h.j)) (R.mul g.j h.i);
      j = R.mul g.j h.j;
      i_nonneg = nonneg_add S L O _ _ (nonneg_mul S L O _ _ g.i_nonneg (pos_nonneg S L O _ h.some)) (nonneg_mul S L O _ _ g.j_nonneg h.i_nonneg);
      j_nonneg = nonneg_mul S L O _ _ g.j_nonneg h.j_nonneg;
      some = ap S.sign (ring R L (h.i ∷ (h.j ∷ (g.i ∷ (g.j ∷ [])))) ((K ⊗ (I ⊕ J) ⊕ M ⊗ I) ⊕ M ⊗ J)
          ((I ⊕ J) ⊗ (K ⊕ M)) refl) ∙ O.sign-mul _ _ h.some g.some;
      at_x = one_way a.x b.x c.x p.x h.at_x g.at_x;
      at_y = one_way a.y b.y c.y p.y h.at_y g.at_y;
    }

  -- ---- p on the whole, not beyond c, is on the first part
  module _ (a b c p : PlanePoint R.carrier) (h : Between S a b c) (g : Between S a b p) where
    -- at least 0 where p doesn't come after c
    abbrev before : R.carrier
    before = difference R (R.mul g.i h.j) (R.mul g.j h.i)

    one_back : (x y z w : R.carrier) → R.mul (R.add h.i h.j) z ≡ R.add (R.mul h.i x) (R.mul h.j y)
        → R.mul (R.add g.i g.j) w ≡ R.add (R.mul g.i x) (R.mul g.j y)
        → R.mul (R.add before (R.mul g.j (R.add h.i h.j))) w ≡ R.add (R.mul before x) (R.mul (R.mul g.j (R.add h.i h.j)) z)
    one_back x y z w e f =
        ring_from R L (h.i ∷ (h.j ∷ (g.i ∷ (g.j ∷ (x ∷ (y ∷ (z ∷ (w ∷ []))))))))
        (((K ⊗ J ⊖ M ⊗ I) ⊕ M ⊗ (I ⊕ J)) ⊗ var 7) ((K ⊗ J ⊖ M ⊗ I) ⊗ var 4 ⊕ (M ⊗ (I ⊕ J)) ⊗ var 6)
        ((J, (K ⊕ M) ⊗ var 7, K ⊗ var 4 ⊕ M ⊗ var 5) ∷ ((neg M, (I ⊕ J) ⊗ var 6, I ⊗ var 4 ⊕ J ⊗ var 5) ∷ [])) (f, (e, tt)) refl

    in-first : IsPositive S h.j → IsNonNegative S before → Between S a c p
    in-first j_pos k = record {
      i = before;
      j = R.mul g.j (R.add h.i h.j);
      i_nonneg = k;
      j_nonneg = nonneg_mul S L O _ _ g.j_nonneg (pos_nonneg S L O _ h.some);
      some = ap S.sign (ring R L (h.i ∷ (h.j ∷ (g.i ∷ (g.j ∷ [])))) ((K ⊗ J ⊖ M ⊗ I) ⊕ M ⊗ (I ⊕ J)) (J ⊗ (K ⊕ M)) refl) ∙ O.sign-mul _ _ j_pos g.some;
      at_x = one_back a.x b.x c.x p.x h.at_x g.at_x;
      at_y = one_back a.y b.y c.y p.y h.at_y g.at_y;
    }

  -- where c is a
  at-start : (a b c p : PlanePoint R.carrier) → (h : Between S a b c) → h.j ≡ zero_of → Between S a b p → Between S c b p
  at-start a b c p h e g = record {
    i = g.i;
    j = g.j;
    i_nonneg = g.i_nonneg;
    j_nonneg = g.j_nonneg;
    some = g.some;
    at_x = g.at_x ∙ ap (λ x. R.add (R.mul g.i x) (R.mul g.j b.x)) (sym (same a.x b.x c.x h.at_x));
    at_y = g.at_y ∙ ap (λ y. R.add (R.mul g.i y) (R.mul g.j b.y)) (sym (same a.y b.y c.y h.at_y));
  }
    where
      same : (x y z : R.carrier) → R.mul (R.add h.i h.j) z ≡ R.add (R.mul h.i x) (R.mul h.j y) → z ≡ x
      same x y z k = cancel S L O (R.add h.i h.j) z x h.some (
          ring_from R L (h.i ∷ (h.j ∷ (x ∷ (y ∷ (z ∷ []))))) ((I ⊕ J) ⊗ (var 4 ⊖ var 2)) (con (pos 0))
          ((con (pos 1), (I ⊕ J) ⊗ var 4, I ⊗ var 2 ⊕ J ⊗ var 3) ∷ ((var 3 ⊖ var 2, J, con (pos 0)) ∷ [])) (k, (e, tt)) refl)

  -- the same mean from the other end
  abbrev other_end : (a b c : PlanePoint R.carrier) → Between S a b c → Between S b a c
  other_end a b c h = record {
    i = h.j;
    j = h.i;
    i_nonneg = h.j_nonneg;
    j_nonneg = h.i_nonneg;
    some = ap S.sign (L.add_comm h.j h.i) ∙ h.some;
    at_x = ap (λ k. R.mul k c.x) (L.add_comm h.j h.i) ∙ h.at_x ∙ L.add_comm _ _;
    at_y = ap (λ k. R.mul k c.y) (L.add_comm h.j h.i) ∙ h.at_y ∙ L.add_comm _ _;
  }

  split : (a b c p : PlanePoint R.carrier) → Between S a b c → Between S a b p → Between S a c p ⊎ Between S c b p
  split a b c p h g = at_ends (nonneg_cases S L O h.i h.i_nonneg) (nonneg_cases S L O h.j h.j_nonneg)
    where
      at_sign : IsPositive S h.i → IsPositive S h.j → (o : Ordering) → S.sign (before a b c p h g) ≡ o → Between S a c p ⊎ Between S c b p
      at_sign i_pos j_pos Greater e = inl (in-first a b c p h g j_pos (ap is_lt e))
      at_sign i_pos j_pos Equal e = inl (in-first a b c p h g j_pos (ap is_lt e))
      at_sign i_pos j_pos Less e = inr (between-turned S L O c b p (in-first b a c p (other_end a b c h) (other_end a b p g) i_pos
          (pos_nonneg S L O _ (ap S.sign (ring R L (h.i ∷ (h.j ∷ (g.i ∷ (g.j ∷ [])))) (M ⊗ I ⊖ K ⊗ J)
          (neg (K ⊗ J ⊖ M ⊗ I)) refl) ∙ less_neg S L O _ e))))

      at_ends : IsPositive S h.i ⊎ (h.i ≡ zero_of) → IsPositive S h.j ⊎ (h.j ≡ zero_of) → Between S a c p ⊎ Between S c b p
      at_ends i (inr e) = inr (at-start a b c p h e g)
      at_ends (inr e) (inl j) = inl (between-turned S L O a c p (at-start b a c p (other_end a b c h) e (other_end a b p g)))
      at_ends (inl i) (inl j) = at_sign i j (S.sign (before a b c p h g)) refl

  -- ---- multiples of the three points
  mean-scaled : (d : R.carrier) (a b c : PlanePoint R.carrier) → Between S a b c → Between S (scaled R d a) (scaled R d b) (scaled R d c)
  mean-scaled d a b c h = record {
    i = h.i;
    j = h.j;
    i_nonneg = h.i_nonneg;
    j_nonneg = h.j_nonneg;
    some = h.some;
    at_x = times a.x b.x c.x h.at_x;
    at_y = times a.y b.y c.y h.at_y;
  }
    where
      times : (x y z : R.carrier) → R.mul (R.add h.i h.j) z ≡ R.add (R.mul h.i x) (R.mul h.j y)
          → R.mul (R.add h.i h.j) (R.mul d z) ≡ R.add (R.mul h.i (R.mul d x)) (R.mul h.j (R.mul d y))
      times x y z e = ring_from R L (h.i ∷ (h.j ∷ (x ∷ (y ∷ (z ∷ (d ∷ [])))))) ((I ⊕ J) ⊗ (var 5 ⊗ var 4)) (I ⊗ (var 5 ⊗ var 2) ⊕ J ⊗ (var 5 ⊗ var 3))
          ((var 5, (I ⊕ J) ⊗ var 4, I ⊗ var 2 ⊕ J ⊗ var 3) ∷ []) (e, tt) refl

  -- the point of a test point before division
  abbrev place : TestPoint R.carrier → PlanePoint R.carrier
  place p = record { x = p.x; y = p.y }

  abbrev On : PlanePoint R.carrier → PlanePoint R.carrier → TestPoint R.carrier → Type 0
  On a b p = Between S (scaled R p.d a) (scaled R p.d b) (place p)

  module _ (box : OpenBox R.carrier) where
    -- another edge through the same test point
    through : (a b a' b' : PlanePoint R.carrier) → (m : EdgeMeetsBox S a b box) → On a' b' m.0 → EdgeMeetsBox S a' b' box
    through a b a' b' m h = (m.0, m.1, m.2, on_segment-between S L O (scaled R m.0.d a') (scaled R m.0.d b') (place m.0) h)

    on : (a b : PlanePoint R.carrier) → (m : EdgeMeetsBox S a b box) → On a b m.0
    on a b m = between-on_segment S L O (scaled R m.0.d a) (scaled R m.0.d b) (place m.0) m.3

    meets-parts : (a b c : PlanePoint R.carrier) → Between S a b c → EdgeMeetsBox S a b box → EdgeMeetsBox S a c box ⊎ EdgeMeetsBox S c b box
    meets-parts a b c h m = at_case (split (scaled R m.0.d a) (scaled R m.0.d b) (scaled R m.0.d c)
        (place m.0) (mean-scaled m.0.d a b c h) (on a b m))
      where
        at_case : On a c m.0 ⊎ On c b m.0 → EdgeMeetsBox S a c box ⊎ EdgeMeetsBox S c b box
        at_case (inl k) = inl (through a b a c m k)
        at_case (inr k) = inr (through a b c b m k)

    part-meets : (a b c : PlanePoint R.carrier) → Between S a b c → EdgeMeetsBox S a c box ⊎ EdgeMeetsBox S c b box → EdgeMeetsBox S a b box
    part-meets a b c h (inl m) = through a c a b m
        (first-part (scaled R m.0.d a) (scaled R m.0.d b) (scaled R m.0.d c) (place m.0)
        (mean-scaled m.0.d a b c h) (on a c m))
    part-meets a b c h (inr m) = through c b a b m (between-turned S L O (scaled R m.0.d a) (scaled R m.0.d b) (place m.0)
        (first-part (scaled R m.0.d b) (scaled R m.0.d a) (scaled R m.0.d c) (place m.0) (mean-scaled m.0.d b a c (between-turned S L O b a c h))
        (between-turned S L O (scaled R m.0.d b) (scaled R m.0.d c) (place m.0) (on c b m))))

    cuts-to : (a v : PlanePoint R.carrier) (vs : List (PlanePoint R.carrier)) → AreCuts S a v vs
        → EdgeMeetsBox S a (last_from v vs) box → EdgeMeetsBox S a v box ⊎ PartMeets S box v vs
    cuts-to a v [] h m = inl m
    cuts-to a v (w ∷ ws) h m = at_case (cuts-to a w ws h.1 m)
      where
        at_case : EdgeMeetsBox S a w box ⊎ PartMeets S box w ws → EdgeMeetsBox S a v box ⊎ PartMeets S box v (w ∷ ws)
        at_case (inr k) = inr (inr k)
        at_case (inl k) = at_part (meets-parts a w v (between-on_segment S L O a w v h.0) k)
          where
            at_part : EdgeMeetsBox S a v box ⊎ EdgeMeetsBox S v w box → EdgeMeetsBox S a v box ⊎ PartMeets S box v (w ∷ ws)
            at_part (inl l) = inl l
            at_part (inr l) = inr (inl l)

    cuts-from : (a v : PlanePoint R.carrier) (vs : List (PlanePoint R.carrier)) → AreCuts S a v vs
        → EdgeMeetsBox S a v box ⊎ PartMeets S box v vs → EdgeMeetsBox S a (last_from v vs) box
    cuts-from a v [] h (inl m) = m
    cuts-from a v [] h (inr m) = elim m [ ]
    cuts-from a v (w ∷ ws) h (inl m) = cuts-from a w ws h.1 (inl (part-meets a w v (between-on_segment S L O a w v h.0) (inl m)))
    cuts-from a v (w ∷ ws) h (inr (inl m)) = cuts-from a w ws h.1 (inl (part-meets a w v (between-on_segment S L O a w v h.0) (inr m)))
    cuts-from a v (w ∷ ws) h (inr (inr m)) = cuts-from a w ws h.1 (inr m)

  pub cut_meets : CutMeets S
  cut_meets box a b c h = (
    λ m. meets-parts box a b c (between-on_segment S L O a b c h) m,
    λ m. part-meets
        box a b c (between-on_segment S L O a b c h) m,
  )

  pub cuts_meet : CutsMeet S
  cuts_meet box a v vs h = (λ m. cuts-to box a v vs h m, λ m. cuts-from box a v vs h m)
