-- A box round a point, so small that edges that don't contain the point avoid it: the plane is scaled by a
-- whole number, and the box has half extents 1.
use Rattle.std.specs.List.{AllByRecursion}
use Rattle.std.proofs.Common.{◌≡◌, ◌⊎◌, inl, inr, ℕ, suc, List, [], ◌∷◌, pos, negsuc, refl, sym, ap, ◌∙◌, Bool, true, false, not, ◌&&◌, ◌||◌, Ordering, Less, Equal, Greater, is_gt, is_lt, is_eq, arith}
use Rattle.std.proofs.lemmas.Bool.{and_parts}
use Rattle.theory_ring.specs.Ring.{Ops, Laws, difference}
use Rattle.theory_ring.specs.Sign.{Signed, OrderLaws, IsPositive, IsNonNegative, less}
use Rattle.theory_ring.proofs.Normaliser.{var, con, neg, ring, ring_from, ◌⊕◌, ◌⊖◌, ◌⊗◌}
use Rattle.theory_ring.proofs.Signs.{pos_nonneg, less_neg, pos_add_nonneg, nonneg_add, nonneg_mul, sign-scale}
use Rattle.theory_plane.specs.Plane.{PlanePoint, TestPoint, test_point, orientation}
use Rattle.theory_plane.specs.Segment.{between, on_segment, Between}
use Rattle.theory_plane.specs.Box.{OpenBox, is_shorter, in_box, scaled}
use Rattle.theory_plane.proofs.OnSegment.{between-on_segment, on_segment-between}
use Rattle.theory_plane.proofs.BoxOverlap.{greater}
use Rattle.theory_plane.proofs.BoxPoints.{whole_positive, test_positive}
use Rattle.theory_windows.specs.Outlines.{PlaneEdge, MeetsBox}
use Rattle.theory_windows.proofs.Meeting.{below_parts}
use Rattle.theory_windows.proofs.Multiples.{Steps, reaches, all_reach}
use Rattle.theory_windows.proofs.Window.{centre-in_box}
use Rattle.theory_stars.proofs.ScaledPatch.{both_ends}

module _ (S : Signed) (L : Laws S.ops) (O : OrderLaws S) where
  abbrev R : Ops
  R = S.ops

  -- ---- numbers
  -- of four numbers, |xi| < d and |eta| < d, and M above |alpha| + |beta|
  four_corners : (d xi eta alpha beta m : R.carrier)
      → R.mul (R.mul (R.int (pos 4)) d) (difference R (R.mul d m) (R.add (R.mul alpha xi) (R.mul beta eta)))
      ≡ R.add
      (R.add (R.mul (R.mul (difference R (R.mul d (R.int (pos 1))) xi)
      (difference R (R.mul d (R.int (pos 1))) eta)) (R.add (R.mul m (R.int (pos 1))) (R.add alpha beta)))
      (R.mul (R.mul (difference R (R.mul d (R.int (pos 1))) xi)
      (difference R (R.mul d (R.int (pos 1))) (R.neg eta)))
      (R.add (R.mul m (R.int (pos 1))) (difference R alpha beta))))
      (R.add (R.mul (R.mul (difference R (R.mul d (R.int (pos 1))) (R.neg xi))
      (difference R (R.mul d (R.int (pos 1))) eta))
      (R.add (R.mul m (R.int (pos 1))) (difference R beta alpha)))
      (R.mul (R.mul (difference R (R.mul d (R.int (pos 1))) (R.neg xi))
      (difference R (R.mul d (R.int (pos 1))) (R.neg eta)))
      (R.add (R.mul m (R.int (pos 1))) (R.neg (R.add alpha beta)))))
  four_corners d xi eta alpha beta m = ring R L (d ∷ (xi ∷ (eta ∷ (alpha ∷ (beta ∷ (m ∷ []))))))
      ((con (pos 4) ⊗ var 0) ⊗ (var 0 ⊗ var 5 ⊖ (var 3 ⊗ var 1 ⊕ var 4 ⊗ var 2)))
      (((((var 0 ⊗ con (pos 1) ⊖ var 1) ⊗ (var 0 ⊗ con (pos 1) ⊖ var 2)) ⊗ (var 5 ⊗ con (pos 1) ⊕ (var 3 ⊕ var 4)))
      ⊕ ((var 0 ⊗ con (pos 1) ⊖ var 1) ⊗ (var 0 ⊗ con (pos 1) ⊖ neg (var 2))) ⊗ (var 5 ⊗ con (pos 1) ⊕ (var 3 ⊖ var 4)))
      ⊕ ((((var 0 ⊗ con (pos 1) ⊖ neg (var 1)) ⊗ (var 0 ⊗ con (pos 1) ⊖ var 2)) ⊗ (var 5 ⊗ con (pos 1) ⊕ (var 4 ⊖ var 3)))
      ⊕ ((var 0 ⊗ con (pos 1) ⊖ neg (var 1)) ⊗ (var 0 ⊗ con (pos 1) ⊖ neg (var 2))) ⊗ (var 5 ⊗ con (pos 1) ⊕ neg (var 3 ⊕ var 4)))) refl

  no_zero : (x y : R.carrier) → IsPositive S x → IsNonNegative S y → x ≡ R.neg y → ⊥
  no_zero x y p q e = cc (sym (pos_add_nonneg S L O x y p q) ∙ ap S.sign (ap (λ z. R.add z y) e ∙ L.add_comm _ _ ∙ L.add_neg y) ∙ O.zero_equal)

  module _ (v : PlanePoint R.carrier) where
    -- how far z is from v in the direction of (alpha, beta)
    abbrev lean : R.carrier → R.carrier → PlanePoint R.carrier → R.carrier
    lean alpha beta z = R.add (R.mul alpha (difference R z.x v.x)) (R.mul beta (difference R z.y v.y))

    -- both ends of an edge are on one side of v
    record Apart (e : PlaneEdge S) : Type 0 where
      alpha : R.carrier
      beta : R.carrier
      starts : IsPositive S (lean alpha beta e.from)
      ends : IsPositive S (lean alpha beta e.to)

    abbrev bounds : R.carrier → R.carrier → List (Steps S)
    bounds alpha beta =
        record { size = R.int (pos 1); from = R.add alpha beta } ∷ (record { size = R.int (pos 1); from = difference R alpha beta }
        ∷ (record { size = R.int (pos 1); from = difference R beta alpha } ∷ (record { size = R.int (pos 1); from = R.neg (R.add alpha beta) } ∷ [])))

    abbrev pub box_round : R.carrier → OpenBox R.carrier
    box_round k = record { centre = scaled R k v; w = 1; h = 1 }

    -- ---- where k is large enough the edge avoids the box
    module _ (e : PlaneEdge S) (s : Apart e) (m : R.carrier) (bounded : AllByRecursion (reaches S m) (bounds s.alpha s.beta)) (k : R.carrier)
        (starts : IsPositive S (R.add (R.mul k (lean s.alpha s.beta e.from)) (R.neg m)))
        (ends : IsPositive S (R.add (R.mul k (lean s.alpha s.beta e.to)) (R.neg m)))
        (p : TestPoint R.carrier) (d_pos : IsPositive S p.d) (inside : in_box S (box_round k) p ≡ true)
        (on : Between S (scaled R p.d (scaled R k e.from)) (scaled R p.d (scaled R k e.to)) (record { x = p.x; y = p.y })) where
      abbrev xi : R.carrier
      xi = difference R p.x (R.mul p.d (R.mul k v.x))

      abbrev eta : R.carrier
      eta = difference R p.y (R.mul p.d (R.mul k v.y))

      abbrev reach : R.carrier
      reach = difference R (R.mul p.d m) (R.add (R.mul s.alpha xi) (R.mul s.beta eta))

      reach_positive : IsPositive S reach
      reach_positive =
          let h : (is_shorter S xi (R.mul p.d (R.int (pos 1))) ≡ true)
          × (is_shorter S eta (R.mul p.d (R.int (pos 1))) ≡ true) = and_parts _ _ inside in
          let in_x = below_parts S L O xi (R.mul p.d (R.int (pos 1))) h.0 in
          let in_y = below_parts S L O eta (R.mul p.d (R.int (pos 1))) h.1 in
          sym (sign-scale S L O (R.mul (R.int (pos 4)) p.d) reach (O.sign-mul _ _ (whole_positive S L O 3) d_pos))
          ∙ ap S.sign (four_corners p.d xi eta s.alpha s.beta m)
          ∙ O.sign-add _ _ (O.sign-add _ _ (O.sign-mul _ _ (O.sign-mul _ _ in_x.0 in_y.0) bounded.0)
          (O.sign-mul _ _ (O.sign-mul _ _ in_x.0 in_y.1) bounded.1.0))
          (O.sign-add _ _ (O.sign-mul _ _ (O.sign-mul _ _ in_x.1 in_y.0) bounded.1.1.0)
          (O.sign-mul _ _ (O.sign-mul _ _ in_x.1 in_y.1) bounded.1.1.1.0))

      abbrev passed : R.carrier
      passed =
          R.mul p.d (R.add (R.mul on.i (R.add (R.mul k (lean s.alpha s.beta e.from)) (R.neg m)))
          (R.mul on.j (R.add (R.mul k (lean s.alpha s.beta e.to)) (R.neg m))))

      passed_nonneg : IsNonNegative S passed
      passed_nonneg = nonneg_mul S L O _ _ (pos_nonneg S L O _ d_pos)
          (nonneg_add S L O _ _ (nonneg_mul S L O _ _ on.i_nonneg (pos_nonneg S L O _ starts))
          (nonneg_mul S L O _ _ on.j_nonneg (pos_nonneg S L O _ ends)))

      abbrev these : List R.carrier
      these = on.i ∷ (on.j ∷ (p.d ∷ (k ∷ (m ∷ (s.alpha
          ∷ (s.beta ∷ (e.from.x ∷ (e.from.y ∷ (e.to.x ∷ (e.to.y ∷ (v.x ∷ (v.y ∷ (p.x ∷ (p.y ∷ []))))))))))))))

      reach_is : R.mul (R.add on.i on.j) reach ≡ R.neg passed
      reach_is = ring_from R L these
          ((var 0 ⊕ var 1) ⊗ (var 2 ⊗ var 4 ⊖ (var 5 ⊗ (var 13 ⊖ var 2 ⊗ (var 3 ⊗ var 11)) ⊕ var 6 ⊗ (var 14 ⊖ var 2 ⊗ (var 3 ⊗ var 12)))))
          (neg (var 2 ⊗ (var 0 ⊗ (var 3 ⊗ (var 5 ⊗ (var 7 ⊖ var 11) ⊕ var 6 ⊗ (var 8 ⊖ var 12)) ⊕ neg (var 4))
          ⊕ var 1 ⊗ (var 3 ⊗ (var 5 ⊗ (var 9 ⊖ var 11) ⊕ var 6 ⊗ (var 10 ⊖ var 12)) ⊕ neg (var 4)))))
          ((neg (var 5), (var 0 ⊕ var 1) ⊗ var 13, var 0 ⊗ (var 2 ⊗ (var 3 ⊗ var 7)) ⊕ var 1 ⊗ (var 2 ⊗ (var 3 ⊗ var 9)))
          ∷ ((neg (var 6), (var 0 ⊕ var 1) ⊗ var 14, var 0 ⊗ (var 2 ⊗ (var 3 ⊗ var 8)) ⊕ var 1 ⊗ (var 2 ⊗ (var 3 ⊗ var 10))) ∷ []))
          (on.at_x, (on.at_y, tt)) refl

      outside : ⊥
      outside = no_zero _ _ (O.sign-mul _ _ on.some reach_positive) passed_nonneg reach_is

    avoids : (e : PlaneEdge S) (s : Apart e) (m : R.carrier) → AllByRecursion (reaches S m) (bounds s.alpha s.beta) → (k : R.carrier)
        → IsPositive S (R.add (R.mul k (lean s.alpha s.beta e.from)) (R.neg m)) → IsPositive S (R.add (R.mul k (lean s.alpha s.beta e.to)) (R.neg m))
        → MeetsBox S (box_round k) (both_ends (scaled R k) e) → ⊥
    avoids e s m bounded k starts ends h =
        let p : TestPoint R.carrier = h.0 in
        outside e s m bounded k starts ends p (test_positive S L O p h.1) h.2
        (between-on_segment S L O (scaled R p.d (scaled R k e.from)) (scaled R p.d (scaled R k e.to)) (record { x = p.x; y = p.y }) h.3)

    -- ---- an edge that doesn't contain v has both ends on one side of it
    one_is : (r s : R.carrier) → R.add (R.mul (R.int (pos 1)) r) (R.mul (R.int (pos 0)) s) ≡ r
    one_is r s = ring R L (r ∷ (s ∷ [])) (con (pos 1) ⊗ var 0 ⊕ con (pos 0) ⊗ var 1) (var 0) refl

    other_is : (r s : R.carrier) → R.add (R.mul (R.int (pos 0)) r) (R.mul (R.int (pos 1)) s) ≡ s
    other_is r s = ring R L (r ∷ (s ∷ [])) (con (pos 0) ⊗ var 0 ⊕ con (pos 1) ⊗ var 1) (var 1) refl

    minus_one_is : (r t s : R.carrier) → R.add (R.mul (R.int (negsuc 0)) (difference R r t)) (R.mul (R.int (pos 0)) s) ≡ difference R t r
    minus_one_is r t s = ring R L (r ∷ (t ∷ (s ∷ []))) (con (negsuc 0) ⊗ (var 0 ⊖ var 1) ⊕ con (pos 0) ⊗ var 2) (var 1 ⊖ var 0) refl

    minus_other_is : (r t s : R.carrier) → R.add (R.mul (R.int (pos 0)) s) (R.mul (R.int (negsuc 0)) (difference R r t)) ≡ difference R t r
    minus_other_is r t s = ring R L (r ∷ (t ∷ (s ∷ []))) (con (pos 0) ⊗ var 2 ⊕ con (negsuc 0) ⊗ (var 0 ⊖ var 1)) (var 1 ⊖ var 0) refl

    contrary : (r s : R.carrier) → is_gt (S.sign (difference R s r)) ≡ true → is_gt (S.sign (difference R r s)) ≡ true → ⊥
    contrary r s g h =
        no_zero (difference R s r) (difference R r s) (greater _ g) (pos_nonneg S L O _ (greater _ h))
        (ring R L (r ∷ (s ∷ [])) (var 1 ⊖ var 0) (neg (var 0 ⊖ var 1)) refl)

    abbrev Beyond : R.carrier → R.carrier → R.carrier → Type 0
    Beyond s r t = (IsPositive S (difference R s r) × IsPositive S (difference R t r))
        ⊎ (IsPositive S (difference R r s) × IsPositive S (difference R r t))

    beyond : (s r t : R.carrier) → between S s r t ≡ false → Beyond s r t
    beyond s r t e = at_tests (less S r s) (less S t r) (less S r t) (less S s r) refl refl refl refl e
      where
        at_tests : (a b c d : Bool) → less S r s ≡ a → less S t r ≡ b → less S r t ≡ c → less S s r ≡ d
            → not a && not b || not c && not d ≡ false → Beyond s r t
        at_tests true b true d f g h k q = inl (greater _ f, greater _ h)
        at_tests true b false true f g h k q = absurd (contrary r s f k)
        at_tests true b false false f g h k q = absurd (last b q)
          where
            last : (b : Bool) → not true && not b || not false && not false ≡ false → ⊥
            last true e = cc e
            last false e = cc e
        at_tests false true true d f g h k q = absurd (contrary r t h g)
        at_tests false true false true f g h k q = inr (greater _ k, greater _ g)
        at_tests false true false false f g h k q = absurd (cc q)
        at_tests false false c d f g h k q = absurd (cc q)

    not_both : (b c : Bool) → b && c ≡ false → (b ≡ false) ⊎ (c ≡ false)
    not_both true c e = inr e
    not_both false c e = inl refl

    apart_of : (e : PlaneEdge S) → on_segment S e.from e.to v ≡ false → Apart e
    apart_of e h = at_sign (S.sign turn) refl
      where
        turn : R.carrier
        turn = orientation R e.from e.to v

        these : List R.carrier
        these = e.from.x ∷ (e.from.y ∷ (e.to.x ∷ (e.to.y ∷ (v.x ∷ (v.y ∷ [])))))

        in_x : Beyond e.from.x v.x e.to.x → Apart e
        in_x (inl g) = record {
          alpha = R.int (pos 1);
          beta = R.int (pos 0);
          starts = ap S.sign (one_is _ _)
              ∙ g.0;
          ends = ap S.sign (one_is _ _) ∙ g.1;
        }
        in_x (inr g) = record {
          alpha = R.int (negsuc 0);
          beta = R.int (pos 0);
          starts = ap S.sign (minus_one_is _ _ _) ∙ g.0;
          ends = ap S.sign (minus_one_is _ _ _) ∙ g.1;
        }

        in_y : Beyond e.from.y v.y e.to.y → Apart e
        in_y (inl g) = record {
          alpha = R.int (pos 0);
          beta = R.int (pos 1);
          starts = ap S.sign (other_is _ _)
              ∙ g.0;
          ends = ap S.sign (other_is _ _) ∙ g.1;
        }
        in_y (inr g) = record {
          alpha = R.int (pos 0);
          beta = R.int (negsuc 0);
          starts = ap S.sign (minus_other_is _ _ _) ∙ g.0;
          ends = ap S.sign (minus_other_is _ _ _) ∙ g.1;
        }

        at_rest : is_eq (S.sign turn) ≡ true → (is_eq (S.sign turn) && between S e.from.x v.x e.to.x ≡ false)
            ⊎ (between S e.from.y v.y e.to.y ≡ false) → Apart e
        at_rest k (inr g) = in_y (beyond _ _ _ g)
        at_rest k (inl g) = at_line (not_both _ _ g)
          where
            at_line : (is_eq (S.sign turn) ≡ false) ⊎ (between S e.from.x v.x e.to.x ≡ false) → Apart e
            at_line (inl f) = absurd (cc (sym k ∙ f))
            at_line (inr f) = in_x (beyond _ _ _ f)

        at_sign : (o : Ordering) → S.sign turn ≡ o → Apart e
        at_sign Greater k = record {
          alpha = difference R e.to.y e.from.y;
          beta = difference R e.from.x e.to.x;
          starts = ap S.sign (ring R L these ((var 3 ⊖ var 1) ⊗ (var 0 ⊖ var 4) ⊕ (var 0 ⊖ var 2) ⊗
              (var 1 ⊖ var 5)) ((var 2 ⊖ var 0) ⊗ (var 5 ⊖ var 1) ⊖ (var 3 ⊖ var 1) ⊗ (var 4 ⊖ var 0)) refl)
              ∙ k;
          ends = ap S.sign (ring R L these ((var 3 ⊖ var 1) ⊗ (var 2 ⊖ var 4) ⊕ (var 0 ⊖ var 2) ⊗
              (var 3 ⊖ var 5)) ((var 2 ⊖ var 0) ⊗ (var 5 ⊖ var 1) ⊖ (var 3 ⊖ var 1) ⊗ (var 4 ⊖ var 0)) refl)
              ∙ k;
        }
        at_sign Less k = record {
          alpha = difference R e.from.y e.to.y;
          beta = difference R e.to.x e.from.x;
          starts = ap S.sign (ring R L these ((var 1 ⊖ var 3) ⊗ (var 0 ⊖ var 4) ⊕ (var 2 ⊖ var 0) ⊗
              (var 1 ⊖ var 5)) (neg ((var 2 ⊖ var 0) ⊗ (var 5 ⊖ var 1) ⊖ (var 3 ⊖ var 1) ⊗ (var 4 ⊖ var 0)))
              refl) ∙ less_neg S L O turn k;
          ends = ap S.sign (ring R L these ((var 1 ⊖ var 3) ⊗ (var 2 ⊖ var 4) ⊕ (var 2 ⊖ var 0) ⊗
              (var 3 ⊖ var 5)) (neg ((var 2 ⊖ var 0) ⊗ (var 5 ⊖ var 1) ⊖ (var 3 ⊖ var 1) ⊗ (var 4 ⊖ var 0)))
              refl) ∙ less_neg S L O turn k;
        }
        at_sign Equal k = at_rest (ap is_eq k) (not_both _ _ h)

    -- ---- several edges
    record Avoided (es : List (PlaneEdge S)) : Type 0 where
      steps : List (Steps S)
      sizes : AllByRecursion (λ g. IsPositive S g.size) steps
      far : (k : R.carrier) → AllByRecursion (reaches S k) steps
          → AllByRecursion (λ e. on_segment S e.from e.to v ≡ false
          → MeetsBox S (box_round k) (both_ends (scaled R k) e) → ⊥) es

    avoided : (es : List (PlaneEdge S)) → Avoided es
    avoided [] = record { steps = []; sizes = tt; far = λ k h. tt }
    avoided (e ∷ es) = at_test (on_segment S e.from e.to v) refl (avoided es)
      where
        at_test : (b : Bool) → on_segment S e.from e.to v ≡ b → Avoided es → Avoided (e ∷ es)
        at_test true h a = record { steps = a.steps; sizes = a.sizes; far = λ k r. (λ f. absurd (cc (sym h ∙ f)), a.far k r) }
        at_test false h a = at_apart (apart_of e h)
          where
            at_apart : Apart e → Avoided (e ∷ es)
            at_apart s = at_bound (all_reach S L O (bounds s.alpha s.beta) (O.one_greater, (O.one_greater, (O.one_greater, (O.one_greater, tt)))))
              where
                at_bound : (n : ℕ) × AllByRecursion (reaches S (R.int (pos (suc n)))) (bounds s.alpha s.beta) → Avoided (e ∷ es)
                at_bound m = record {
                  steps = record { size = lean s.alpha s.beta e.from; from = R.neg (R.int (pos (suc m.0))) }
                      ∷ (record { size = lean s.alpha s.beta e.to; from = R.neg (R.int (pos (suc m.0))) } ∷ a.steps);
                  sizes = (s.starts, (s.ends, a.sizes));
                  far = λ k r. (λ f. avoids e s (R.int (pos (suc m.0))) m.1 k r.0 r.1.0, a.far k r.1.1);
                }

    pub small_box : (es : List (PlaneEdge S)) → (n : ℕ)
        × AllByRecursion (λ e. on_segment S e.from e.to v ≡ false
        → MeetsBox S (box_round (R.int (pos (suc n)))) (both_ends (scaled R (R.int (pos (suc n)))) e) → ⊥)
        es
    small_box es = at_steps (avoided es)
      where
        at_steps : Avoided es → (n : ℕ) × AllByRecursion
            (λ e. on_segment S e.from e.to v ≡ false
            → MeetsBox S (box_round (R.int (pos (suc n)))) (both_ends (scaled R (R.int (pos (suc n)))) e) → ⊥)
            es
        at_steps a = let k = all_reach S L O a.steps a.sizes in (k.0, a.far (R.int (pos (suc k.0))) k.1)

    -- ---- and an edge that contains v meets it
    pub meets_round : (n : ℕ) (e : PlaneEdge S) → on_segment S e.from e.to v ≡ true
        → MeetsBox S (box_round (R.int (pos (suc n)))) (both_ends (scaled R (R.int (pos (suc n)))) e)
    meets_round n e h = (
      test_point R (scaled R k v),
      (0, refl),
      centre-in_box S L O (box_round k) (omega arith) (omega arith),
      on_segment-between S L O (scaled R (R.int (pos 1)) (scaled R k e.from)) (scaled R (R.int (pos 1)) (scaled R k e.to)) (scaled R k v) (record {
        i = on.i;
        j = on.j;
        i_nonneg = on.i_nonneg;
        j_nonneg = on.j_nonneg;
        some = on.some;
        at_x = times_k e.from.x e.to.x v.x on.at_x;
        at_y = times_k e.from.y e.to.y v.y on.at_y;
      }),
    )
      where
        k : R.carrier
        k = R.int (pos (suc n))

        on : Between S e.from e.to v
        on = between-on_segment S L O e.from e.to v h

        times_k : (a b c : R.carrier) → R.mul (R.add on.i on.j) c ≡ R.add (R.mul on.i a) (R.mul on.j b)
            → R.mul (R.add on.i on.j) (R.mul k c) ≡ R.add (R.mul on.i (R.mul (R.int (pos 1)) (R.mul k a)))
            (R.mul on.j (R.mul (R.int (pos 1)) (R.mul k b)))
        times_k a b c e = ring_from R L (on.i ∷ (on.j ∷ (a ∷ (b ∷ (c ∷ (k ∷ [])))))) ((var 0 ⊕ var 1) ⊗ (var 5 ⊗ var 4))
            (var 0 ⊗ (con (pos 1) ⊗ (var 5 ⊗ var 2)) ⊕ var 1 ⊗ (con (pos 1) ⊗ (var 5 ⊗ var 3)))
            ((var 5, (var 0 ⊕ var 1) ⊗ var 4, var 0 ⊗ var 2 ⊕ var 1 ⊗ var 3) ∷ []) (e, tt) refl

  -- the ends of an edge are on it
  pub start-on : (a b : PlanePoint R.carrier) → on_segment S a b a ≡ true
  start-on a b = on_segment-between S L O a b a (record {
    i = R.int (pos 1);
    j = R.int (pos 0);
    i_nonneg = ap is_lt O.one_greater;
    j_nonneg = ap is_lt O.zero_equal;
    some = ap S.sign (L.add_zero _) ∙ O.one_greater;
    at_x = ring R L (a.x ∷ (b.x ∷ [])) ((con (pos 1) ⊕ con (pos 0)) ⊗ var 0) (con (pos 1) ⊗ var 0 ⊕ con (pos 0) ⊗ var 1) refl;
    at_y = ring R L (a.y ∷ (b.y ∷ [])) ((con (pos 1) ⊕ con (pos 0)) ⊗ var 0) (con (pos 1) ⊗ var 0 ⊕ con (pos 0) ⊗ var 1) refl;
  })

  pub end-on : (a b : PlanePoint R.carrier) → on_segment S a b b ≡ true
  end-on a b = on_segment-between S L O a b b (record {
    i = R.int (pos 0);
    j = R.int (pos 1);
    i_nonneg = ap is_lt O.zero_equal;
    j_nonneg = ap is_lt O.one_greater;
    some = ap S.sign (L.add_comm _ _ ∙ L.add_zero _) ∙ O.one_greater;
    at_x = ring R L (a.x ∷ (b.x ∷ [])) ((con (pos 0) ⊕ con (pos 1)) ⊗ var 1) (con (pos 0) ⊗ var 0 ⊕ con (pos 1) ⊗ var 1) refl;
    at_y = ring R L (a.y ∷ (b.y ∷ [])) ((con (pos 0) ⊕ con (pos 1)) ⊗ var 1) (con (pos 0) ⊗ var 0 ⊕ con (pos 1) ⊗ var 1) refl;
  })
