-- A point beside all vertices of a polygon, on one side of them in X or in Y, counts 0: it isn't a member.
use Rattle.std.proofs.Common.{◌≡◌, ℤ, pos, ◌+ℤ◌, ◌-ℤ◌, neg_ℤ, List, [], ◌∷◌, Bool, true, false, cond, refl, sym, ap, ap₂, ◌∙◌, Ordering, Less, Equal}
use Rattle.std.proofs.Common.{Greater, arith}
use Rattle.std.proofs.lemmas.Int.{ints}
use Rattle.std.specs.List.{AllByRecursion}
use Rattle.std.specs.Ordering.{ordering_reverse}
use Rattle.theory_ring.specs.Ring.{Ops, Laws, difference}
use Rattle.theory_ring.specs.Sign.{Signed, OrderLaws, IsPositive}
use Rattle.theory_plane.specs.Plane.{PlanePoint, TestPoint, side}
use Rattle.theory_plane.specs.Crossing.{crossing, crossing_of, count_from, count}
use Rattle.theory_ring.proofs.Normaliser.{neg, ring, ◌⊕◌, ◌⊖◌, ◌⊗◌}
use Rattle.theory_ring.proofs.Signs.{pos_nonneg, not_pos, pos_add_nonneg, nonneg_mul, sign-scale}
use Rattle.theory_plane.proofs.BoxOverlap.{greater}
use Rattle.theory_plane.proofs.Crossing.{above, crossing-turned, these, A, B, P}

telescope : (x y z : ℤ) → (y -ℤ x) +ℤ (z -ℤ y) ≡ z -ℤ x
telescope x y z = omega (arith, ints)

no_change : (x : ℤ) → x -ℤ x ≡ pos 0
no_change x = omega (arith, ints)

turned_change : (u x y : ℤ) → u ≡ x -ℤ y → neg_ℤ u ≡ y -ℤ x
turned_change u x y e = omega (arith, ints)

is_less : (o : Ordering) → ordering_reverse o ≡ Greater → o ≡ Less
is_less Less e = refl
is_less Equal e = absurd (cc e)
is_less Greater e = absurd (cc e)

module _ (S : Signed) (L : Laws S.ops) (O : OrderLaws S) where
  abbrev R : Ops
  R = S.ops

  -- ---- where each crossing is the change of a number of vertices, the count is 0
  module _ (p : TestPoint R.carrier) (Q : PlanePoint R.carrier → Type 0) (h : PlanePoint R.carrier → ℤ)
      (changes : (a b : PlanePoint R.carrier) → Q a → Q b → crossing S a b p ≡ h b -ℤ h a) where
    changed_from : (first cur : PlanePoint R.carrier) (vs : List (PlanePoint R.carrier)) → Q first → Q cur → AllByRecursion Q vs
        → count_from S p first cur vs ≡ h first -ℤ h cur
    changed_from first cur [] f c all = changes cur first c f
    changed_from first cur (v ∷ vs) f c all =
        ap₂ (λ x y. x +ℤ y) (changes cur v c all.0) (changed_from first v vs f all.0 all.1) ∙ telescope (h cur) (h v) (h first)

    changed : (vs : List (PlanePoint R.carrier)) → AllByRecursion Q vs → count S vs p ≡ pos 0
    changed [] all = refl
    changed (v ∷ vs) all = changed_from v v vs all.0 all.0 all.1 ∙ no_change (h v)

  module _ (p : TestPoint R.carrier) (d_pos : IsPositive S p.d) where
    abbrev height : PlanePoint R.carrier → R.carrier
    height v = difference R (R.mul p.d v.y) p.y

    -- how far a vertex is right of the point
    abbrev pub ahead : PlanePoint R.carrier → R.carrier
    ahead v = difference R (R.mul p.d v.x) p.x

    -- ---- in Y
    level : (x y : Bool) (s : Ordering) → x ≡ y → crossing_of x y s ≡ pos 0
    level true true s e = refl
    level true false s e = absurd (cc e)
    level false true s e = absurd (cc e)
    level false false s e = refl

    pub all-above : (t : Bool) (vs : List (PlanePoint R.carrier)) → AllByRecursion (λ v. above S L O v p ≡ t) vs → count S vs p ≡ pos 0
    all-above t vs all = changed p (λ v. above S L O v p ≡ t) (λ v. pos 0) (λ a b f g. level _ _ _ (f ∙ sym g)) vs all

    -- ---- in X
    -- the side of a rising edge is a mean of how far its ends are right of the point
    side-ahead : (a b : PlanePoint R.carrier) → R.mul p.d (side R a b p) ≡ R.add (R.mul (height b) (ahead a)) (R.mul (R.neg (height a)) (ahead b))
    side-ahead a b = ring R L (these S L O a b a p) (P.d ⊗ ((B.x ⊖ A.x) ⊗ (P.y ⊖ P.d ⊗ A.y) ⊖ (B.y ⊖ A.y) ⊗ (P.x ⊖ P.d ⊗ A.x)))
        ((P.d ⊗ B.y ⊖ P.y) ⊗ (P.d ⊗ A.x ⊖ P.x) ⊕ neg (P.d ⊗ A.y ⊖ P.y) ⊗ (P.d ⊗ B.x ⊖ P.x)) refl

    side-behind : (a b : PlanePoint R.carrier)
        → R.mul p.d (R.neg (side R a b p)) ≡ R.add (R.mul (height b) (R.neg (ahead a))) (R.mul (R.neg (height a)) (R.neg (ahead b)))
    side-behind a b = ring R L (these S L O a b a p) (P.d ⊗ neg ((B.x ⊖ A.x) ⊗ (P.y ⊖ P.d ⊗ A.y) ⊖ (B.y ⊖ A.y) ⊗ (P.x ⊖ P.d ⊗ A.x)))
        ((P.d ⊗ B.y ⊖ P.y) ⊗ neg (P.d ⊗ A.x ⊖ P.x) ⊕ neg (P.d ⊗ A.y ⊖ P.y) ⊗ neg (P.d ⊗ B.x ⊖ P.x)) refl

    module _ (a b : PlanePoint R.carrier) (low : above S L O a p ≡ false) (high : above S L O b p ≡ true) where
      rising-left : IsPositive S (ahead a) → IsPositive S (ahead b) → S.sign (side R a b p) ≡ Greater
      rising-left f g =
          sym (sign-scale S L O p.d _ d_pos) ∙ ap S.sign (side-ahead a b)
          ∙ pos_add_nonneg S L O _ _ (O.sign-mul _ _ (greater _ high) f) (nonneg_mul S L O _ _ (not_pos S L O _ low) (pos_nonneg S L O _ g))

      rising-right : IsPositive S (R.neg (ahead a)) → IsPositive S (R.neg (ahead b)) → S.sign (side R a b p) ≡ Less
      rising-right f g = is_less _ (sym (O.sign-neg (side R a b p)) ∙ sym (sign-scale S L O p.d _ d_pos) ∙ ap S.sign (side-behind a b)
          ∙ pos_add_nonneg S L O _ _ (O.sign-mul _ _ (greater _ high) f) (nonneg_mul S L O _ _ (not_pos S L O _ low) (pos_nonneg S L O _ g)))

    -- 1 for a vertex above the point
    abbrev over : PlanePoint R.carrier → ℤ
    over v = cond (above S L O v p) (pos 1) (pos 0)

    abbrev Left : PlanePoint R.carrier → Type 0
    Left v = IsPositive S (ahead v)

    abbrev Right : PlanePoint R.carrier → Type 0
    Right v = IsPositive S (R.neg (ahead v))

    over-changes : (a b : PlanePoint R.carrier) → Left a → Left b → crossing S a b p ≡ over b -ℤ over a
    over-changes a b f g = at_heights (above S L O a p) (above S L O b p) refl refl
      where
        at_heights : (x y : Bool) → above S L O a p ≡ x → above S L O b p ≡ y → crossing S a b p ≡ cond y (pos 1) (pos 0) -ℤ cond x (pos 1) (pos 0)
        at_heights true true l k = λ i. crossing_of (l i) (k i) (S.sign (side R a b p))
        at_heights false false l k = λ i. crossing_of (l i) (k i) (S.sign (side R a b p))
        at_heights false true l k = λ i. crossing_of (l i) (k i) (rising-left a b l k f g i)
        at_heights true false l k =
            crossing-turned S L O b a p ∙ ap neg_ℤ (λ i. crossing_of (k i) (l i) (rising-left b a k l g f i))

    none-changes : (a b : PlanePoint R.carrier) → Right a → Right b → crossing S a b p ≡ pos 0 -ℤ pos 0
    none-changes a b f g = at_heights (above S L O a p) (above S L O b p) refl refl
      where
        at_heights : (x y : Bool) → above S L O a p ≡ x → above S L O b p ≡ y → crossing S a b p ≡ pos 0 -ℤ pos 0
        at_heights true true l k = λ i. crossing_of (l i) (k i) (S.sign (side R a b p))
        at_heights false false l k = λ i. crossing_of (l i) (k i) (S.sign (side R a b p))
        at_heights false true l k = λ i. crossing_of (l i) (k i) (rising-right a b l k f g i)
        at_heights true false l k =
            crossing-turned S L O b a p ∙ ap neg_ℤ (λ i. crossing_of (k i) (l i) (rising-right b a k l g f i))

    pub all-right : (vs : List (PlanePoint R.carrier)) → AllByRecursion (λ v. IsPositive S (ahead v)) vs → count S vs p ≡ pos 0
    all-right vs all = changed p Left over over-changes vs all

    pub all-left : (vs : List (PlanePoint R.carrier)) → AllByRecursion (λ v. IsPositive S (R.neg (ahead v))) vs → count S vs p ≡ pos 0
    all-left vs all = changed p Right (λ v. pos 0) none-changes vs all
