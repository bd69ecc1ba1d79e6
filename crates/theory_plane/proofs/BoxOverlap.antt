-- An edge has a point in two half planes exactly where the test says so.
use Rattle.std.proofs.Common.{◌≡◌, ◌⊎◌, inl, inr, List, [], ◌∷◌, pos, sym, ap, ◌∙◌, refl, subst, true, ◌&&◌, ◌||◌, Ordering, Less, Equal, Greater}
use Rattle.std.specs.Ordering.{is_gt}
use Rattle.std.proofs.lemmas.Bool.{and_parts, and_from, or_cases, or_left, or_right}
use Rattle.theory_ring.specs.Ring.{Ops, Laws, difference}
use Rattle.theory_ring.specs.Sign.{Signed, OrderLaws}
use Rattle.theory_ring.proofs.Normaliser.{Expr, var, con, neg, exprs, ring, ring_from, ◌⊕◌, ◌⊖◌, ◌⊗◌}
use Rattle.theory_ring.specs.Sign.{IsPositive, IsNonNegative}
use Rattle.theory_plane.specs.BoxTest.{Depths, overlap, passes_both, meets_both}
use Rattle.theory_ring.proofs.Signs.{pos_nonneg, zero_nonneg, nonneg_cases, not_pos, neg_not_pos, pos_add_nonneg, nonneg_add, nonneg_mul, sign-scale, zero_times}
use Rattle.theory_plane.proofs.BoxHelly.{Weights, IsConvex, Meet}

-- how far a point of the edge is inside the half plane, times the sum of the point's weights
abbrev pub depth : (S : Signed) → Depths S.ops.carrier → Weights S → S.ops.carrier
depth S f u = S.ops.add (S.ops.mul u.i f.at_start) (S.ops.mul u.j f.at_end)

-- the points of the edge in an open half plane
abbrev pub Inside : (S : Signed) → Depths S.ops.carrier → Weights S → Type 0
Inside S f u = IsPositive S (depth S f u)

pub greater : (o : Ordering) → is_gt o ≡ true → o ≡ Greater
greater Less h = absurd (cc h)
greater Equal h = absurd (cc h)
greater Greater h = refl

-- a depth as expressions: two variables
abbrev start : Depths Expr
start = record { at_start = var 0; at_end = var 1 }

abbrev stop : Depths Expr
stop = record { at_start = var 2; at_end = var 3 }

module _ (S : Signed) (L : Laws S.ops) (O : OrderLaws S) where
  abbrev R : Ops
  R = S.ops

  pub positive_or : (x : R.carrier) → IsPositive S x ⊎ IsNonNegative S (R.neg x)
  positive_or x = at_sign (S.sign x) refl
    where
      at_sign : (o : Ordering) → S.sign x ≡ o → IsPositive S x ⊎ IsNonNegative S (R.neg x)
      at_sign Less e = inr (not_pos S L O x (ap is_gt e))
      at_sign Equal e = inr (not_pos S L O x (ap is_gt e))
      at_sign Greater e = inl e

  -- a mean of positive numbers is positive
  pub weighted : (i j x y : R.carrier) → IsNonNegative S i → IsNonNegative S j → IsPositive S (R.add i j) → IsPositive S x → IsPositive S y
      → IsPositive S (R.add (R.mul i x) (R.mul j y))
  weighted i j x y i_nonneg j_nonneg some f g = at_case (nonneg_cases S L O j j_nonneg)
    where
      at_case : IsPositive S j ⊎ (j ≡ R.int (pos 0)) → IsPositive S (R.add (R.mul i x) (R.mul j y))
      at_case (inl h) =
          ap S.sign (L.add_comm _ _) ∙ pos_add_nonneg S L O (R.mul j y) (R.mul i x) (O.sign-mul j y h g)
          (nonneg_mul S L O i x i_nonneg (pos_nonneg S L O x f))
      at_case (inr e) =
          let h : IsPositive S i = ap S.sign (sym (L.add_zero i) ∙ ap (R.add i) (sym e)) ∙ some in
          pos_add_nonneg S L O (R.mul i x) (R.mul j y) (O.sign-mul i x h f) (nonneg_mul S L O j y j_nonneg (pos_nonneg S L O y g))

  -- a half plane is convex
  pub convex-inside : (f : Depths R.carrier) → IsConvex S (Inside S f)
  convex-inside f u w v m p q =
      sym (sign-scale S L O m.k (depth S f v) m.k_pos) ∙ ap S.sign same
      ∙ weighted m.i m.j (depth S f u) (depth S f w) m.i_nonneg m.j_nonneg m.some p q
    where
      these : List R.carrier
      these = m.k ∷ (m.i ∷ (m.j ∷ (u.i ∷ (u.j ∷ (v.i ∷ (v.j ∷ (w.i ∷ (w.j ∷ (f.at_start ∷ (f.at_end ∷ []))))))))))

      same : R.mul m.k (depth S f v) ≡ R.add (R.mul m.i (depth S f u)) (R.mul m.j (depth S f w))
      same = ring_from R L these
          (var 0 ⊗ (var 5 ⊗ var 9 ⊕ var 6 ⊗ var 10)) (var 1 ⊗ (var 3 ⊗ var 9 ⊕ var 4 ⊗ var 10) ⊕ var 2 ⊗ (var 7 ⊗ var 9 ⊕ var 8 ⊗ var 10))
          ((var 9, var 0 ⊗ var 5, var 1 ⊗ var 3 ⊕ var 2 ⊗ var 7)
          ∷ ((var 10, var 0 ⊗ var 6, var 1 ⊗ var 4 ⊕ var 2 ⊗ var 8) ∷ [])) (m.at_i, (m.at_j, tt)) refl

  -- ---- from the test to a common point
  at_starts : (f g : Depths R.carrier) → IsPositive S f.at_start → IsPositive S g.at_start → Meet S (Inside S f) (Inside S g)
  at_starts f g p q = (
    record {
      i = R.int (pos 1);
      j = R.int (pos 0);
      i_nonneg = pos_nonneg S L O (R.int (pos 1)) O.one_greater;
      j_nonneg = zero_nonneg S L O (R.int (pos 0)) O.zero_equal;
      some = ap S.sign (L.add_zero (R.int (pos 1))) ∙ O.one_greater;
    },
    ap S.sign (here f) ∙ p,
    ap S.sign (here g) ∙ q,
  )
    where
      here : (f : Depths R.carrier) → R.add (R.mul (R.int (pos 1)) f.at_start) (R.mul (R.int (pos 0)) f.at_end) ≡ f.at_start
      here f = ring R L (f.at_start ∷ (f.at_end ∷ [])) (con (pos 1) ⊗ var 0 ⊕ con (pos 0) ⊗ var 1) (var 0) refl

  at_ends : (f g : Depths R.carrier) → IsPositive S f.at_end → IsPositive S g.at_end → Meet S (Inside S f) (Inside S g)
  at_ends f g p q = (
    record {
      i = R.int (pos 0);
      j = R.int (pos 1);
      i_nonneg = zero_nonneg S L O (R.int (pos 0)) O.zero_equal;
      j_nonneg = pos_nonneg S L O (R.int (pos 1)) O.one_greater;
      some = ap S.sign (L.add_comm _ _ ∙ L.add_zero (R.int (pos 1))) ∙ O.one_greater;
    },
    ap S.sign (here f) ∙ p,
    ap S.sign (here g) ∙ q,
  )
    where
      here : (f : Depths R.carrier) → R.add (R.mul (R.int (pos 0)) f.at_start) (R.mul (R.int (pos 1)) f.at_end) ≡ f.at_end
      here f = ring R L (f.at_start ∷ (f.at_end ∷ [])) (con (pos 0) ⊗ var 0 ⊕ con (pos 1) ⊗ var 1) (var 1) refl

  -- between the place where the edge enters the half plane of g and that where it leaves that of f
  on_the_way : (f g : Depths R.carrier) → IsPositive S f.at_start → IsPositive S g.at_end → IsPositive S (overlap R f g)
      → IsNonNegative S (R.neg f.at_end) → IsNonNegative S (R.neg g.at_start) → Meet S (Inside S f) (Inside S g)
  on_the_way f g p q d h k =
      let i_pos : IsPositive S (difference R g.at_end f.at_end) = pos_add_nonneg S L O g.at_end (R.neg f.at_end) q h in
      let j_pos : IsPositive S (difference R f.at_start g.at_start) = pos_add_nonneg S L O f.at_start (R.neg g.at_start) p k in (
        record {
          i = difference R g.at_end f.at_end;
          j = difference R f.at_start g.at_start;
          i_nonneg = pos_nonneg S L O _ i_pos;
          j_nonneg = pos_nonneg S L O _ j_pos;
          some = O.sign-add _ _ i_pos j_pos;
        },
        ap S.sign (ring R L these ((var 3 ⊖ var 1) ⊗ var 0 ⊕ (var 0 ⊖ var 2) ⊗ var 1) (overlap exprs start stop) refl) ∙ d,
        ap S.sign (ring R L these ((var 3 ⊖ var 1) ⊗ var 2 ⊕ (var 0 ⊖ var 2) ⊗ var 3) (overlap exprs start stop) refl) ∙ d,
      )
    where
      these : List R.carrier
      these = f.at_start ∷ (f.at_end ∷ (g.at_start ∷ (g.at_end ∷ [])))

  passing : (f g : Depths R.carrier) → passes_both S f g ≡ true → Meet S (Inside S f) (Inside S g)
  passing f g h = at_case (positive_or f.at_end) (positive_or g.at_start)
    where
      first : (is_gt (S.sign f.at_start) && is_gt (S.sign g.at_end) ≡ true) × (is_gt (S.sign (overlap R f g)) ≡ true)
      first = and_parts _ _ h

      ends : (is_gt (S.sign f.at_start) ≡ true) × (is_gt (S.sign g.at_end) ≡ true)
      ends = and_parts _ _ first.0

      at_case : IsPositive S f.at_end ⊎ IsNonNegative S (R.neg f.at_end) → IsPositive S g.at_start
          ⊎ IsNonNegative S (R.neg g.at_start) → Meet S (Inside S f) (Inside S g)
      at_case (inl p) k = at_ends f g p (greater _ ends.1)
      at_case (inr p) (inl q) = at_starts f g (greater _ ends.0) q
      at_case (inr p) (inr q) = on_the_way f g (greater _ ends.0) (greater _ ends.1) (greater _ first.1) p q

  pub meets_both-meet : (f g : Depths R.carrier) → meets_both S f g ≡ true → Meet S (Inside S f) (Inside S g)
  meets_both-meet f g h = at_last (or_cases _ _ h)
    where
      at_start : (is_gt (S.sign f.at_start) && is_gt (S.sign g.at_start) ≡ true)
          ⊎ (is_gt (S.sign f.at_end) && is_gt (S.sign g.at_end) ≡ true) → Meet S (Inside S f) (Inside S g)
      at_start (inl e) = let k = and_parts _ _ e in at_starts f g (greater _ k.0) (greater _ k.1)
      at_start (inr e) = let k = and_parts _ _ e in at_ends f g (greater _ k.0) (greater _ k.1)

      at_way : (is_gt (S.sign f.at_start) && is_gt (S.sign g.at_start) || is_gt (S.sign f.at_end)
          && is_gt (S.sign g.at_end) ≡ true) ⊎ (passes_both S f g ≡ true) → Meet S (Inside S f) (Inside S g)
      at_way (inl e) = at_start (or_cases _ _ e)
      at_way (inr e) = passing f g e

      at_last : (is_gt (S.sign f.at_start) && is_gt (S.sign g.at_start) || is_gt (S.sign f.at_end)
          && is_gt (S.sign g.at_end) || passes_both S f g ≡ true) ⊎ (passes_both S g f ≡ true)
          → Meet S (Inside S f) (Inside S g)
      at_last (inl e) = at_way (or_cases _ _ e)
      at_last (inr e) = let m = passing g f e in (m.0, m.2, m.1)

  -- ---- from a common point to the test
  -- an edge with a point in the half plane that doesn't start in it ends in it
  ends_inside : (f : Depths R.carrier) (u : Weights S) → IsNonNegative S (R.neg f.at_start) → Inside S f u → IsPositive S f.at_end
  ends_inside f u h p = at_case (positive_or f.at_end)
    where
      outside : IsNonNegative S (R.neg f.at_end) → IsNonNegative S (R.neg (depth S f u))
      outside k = subst (IsNonNegative S)
          (ring R L (u.i ∷ (u.j ∷ (f.at_start ∷ (f.at_end ∷ [])))) (var 0 ⊗ neg (var 2) ⊕ var 1 ⊗ neg (var 3))
          (neg (var 0 ⊗ var 2 ⊕ var 1 ⊗ var 3)) refl)
          (nonneg_add S L O _ _ (nonneg_mul S L O u.i (R.neg f.at_start) u.i_nonneg h) (nonneg_mul S L O u.j (R.neg f.at_end) u.j_nonneg k))

      at_case : IsPositive S f.at_end ⊎ IsNonNegative S (R.neg f.at_end) → IsPositive S f.at_end
      at_case (inl k) = k
      at_case (inr k) = absurd (cc (neg_not_pos S L O (depth S f u) (outside k), ap is_gt p))

  -- one that has a point in both, leaves that of f and ends in that of g enters the second before it leaves the first
  enters_first : (f g : Depths R.carrier) (u : Weights S) → Inside S f u → Inside S g u
      → IsNonNegative S (R.neg f.at_end) → IsPositive S g.at_end → IsPositive S (overlap R f g)
  enters_first f g u p q h k = at_case (nonneg_cases S L O u.i u.i_nonneg)
    where
      product : IsPositive S (R.mul u.i (overlap R f g))
      product =
          ap S.sign (sym (ring R L (u.i ∷ (u.j ∷ (f.at_start ∷ (f.at_end ∷ (g.at_start ∷ (g.at_end ∷ []))))))
          (var 5 ⊗ (var 0 ⊗ var 2 ⊕ var 1 ⊗ var 3) ⊕ neg (var 3) ⊗ (var 0 ⊗ var 4 ⊕ var 1 ⊗ var 5)) (var 0 ⊗ (var 2 ⊗ var 5 ⊖ var 4 ⊗ var 3)) refl))
          ∙ pos_add_nonneg S L O (R.mul g.at_end (depth S f u)) (R.mul (R.neg f.at_end) (depth S g u)) (O.sign-mul g.at_end (depth S f u) k p)
          (nonneg_mul S L O (R.neg f.at_end) (depth S g u) h (pos_nonneg S L O (depth S g u) q))

      at_case : IsPositive S u.i ⊎ (u.i ≡ R.int (pos 0)) → IsPositive S (overlap R f g)
      at_case (inl e) = sym (sign-scale S L O u.i (overlap R f g) e) ∙ product
      at_case (inr e) = absurd (cc (product, ap S.sign (ap (λ z. R.mul z (overlap R f g)) e ∙ zero_times S L O (overlap R f g)) ∙ O.zero_equal))

  passes : (f g : Depths R.carrier) (u : Weights S) → IsPositive S f.at_start → Inside S f u → Inside S g u
      → IsNonNegative S (R.neg f.at_end) → IsPositive S g.at_end → passes_both S f g ≡ true
  passes f g u s p q h k =
      and_from _ _ (and_from _ _ (ap is_gt s) (ap is_gt k)) (ap is_gt (enters_first f g u p q h k))

  pub meet-meets_both : (f g : Depths R.carrier) → Meet S (Inside S f) (Inside S g) → meets_both S f g ≡ true
  meet-meets_both f g m = at_start (positive_or f.at_start) (positive_or g.at_start)
    where
      starts : IsPositive S f.at_start → IsPositive S g.at_start → meets_both S f g ≡ true
      starts p q = or_left _ _ (or_left _ _ (or_left _ _ (and_from _ _ (ap is_gt p) (ap is_gt q))))

      ends : IsPositive S f.at_end → IsPositive S g.at_end → meets_both S f g ≡ true
      ends p q = or_left _ _ (or_left _ _ (or_right _ _ (and_from _ _ (ap is_gt p) (ap is_gt q))))

      leaves_f : IsPositive S f.at_start → IsPositive S g.at_end → IsPositive S f.at_end ⊎ IsNonNegative S (R.neg f.at_end) → meets_both S f g ≡ true
      leaves_f s k (inl e) = ends e k
      leaves_f s k (inr e) = or_left _ _ (or_right _ _ (passes f g m.0 s m.1 m.2 e k))

      leaves_g : IsPositive S g.at_start → IsPositive S f.at_end → IsPositive S g.at_end ⊎ IsNonNegative S (R.neg g.at_end) → meets_both S f g ≡ true
      leaves_g s k (inl e) = ends k e
      leaves_g s k (inr e) = or_right _ _ (passes g f m.0 s m.2 m.1 e k)

      at_start : IsPositive S f.at_start ⊎ IsNonNegative S (R.neg f.at_start) → IsPositive S g.at_start
          ⊎ IsNonNegative S (R.neg g.at_start) → meets_both S f g ≡ true
      at_start (inl p) (inl q) = starts p q
      at_start (inl p) (inr q) = leaves_f p (ends_inside g m.0 q m.2) (positive_or f.at_end)
      at_start (inr p) (inl q) = leaves_g q (ends_inside f m.0 p m.1) (positive_or g.at_end)
      at_start (inr p) (inr q) = ends (ends_inside f m.0 p m.1) (ends_inside g m.0 q m.2)
