-- Edges traversed backwards.
use Rattle.std.proofs.Common.{◌≡◌, [], ◌∷◌, refl, sym, ap, ap₂, ◌∙◌, Bool, true, false, ◌&&◌, Ordering, Less, Equal, Greater, is_eq}
use Rattle.std.proofs.lemmas.Bool.{and_parts}
use Rattle.std.specs.Ordering.{ordering_reverse}
use Rattle.theory_ring.specs.Ring.{Ops, Laws, difference}
use Rattle.theory_ring.specs.Sign.{Signed, OrderLaws}
use Rattle.theory_plane.specs.Plane.{PlanePoint}
use Rattle.theory_plane.specs.Segment.{same_place}
use Rattle.theory_ring.proofs.Normaliser.{var, neg, ring, equal_of_diff, ◌⊖◌}
use Rattle.theory_ring.proofs.Booleans.{is_equal}
use Rattle.theory_windows.specs.Outlines.{PlaneEdge, is_reverse}
use Rattle.theory_substitution.specs.Points.{Points, PointLaws}
use Rattle.theory_substitution.specs.Plane.{plane_point}
use Rattle.theory_edge_to_edge.specs.Edges.{Edge, runs_back}
use Rattle.theory_edge_to_edge.proofs.LieCases.{same_place-self}
use Rattle.theory_windows.specs.FramePatch.{plane_edge}

-- tests that follow from one another are the same
pub same_tests : (b c : Bool) → (b ≡ true → c ≡ true) → (c ≡ true → b ≡ true) → b ≡ c
same_tests true c f g = sym (f refl)
same_tests false true f g = g refl
same_tests false false f g = refl

module _ (S : Signed) (L : Laws S.ops) (O : OrderLaws S) where
  abbrev R : Ops
  R = S.ops

  same-place : (a b : PlanePoint R.carrier) → same_place S a b ≡ true → a ≡ b
  same-place a b e =
      let h = and_parts _ _ e in
      λ i. record {
        x = sym (equal_of_diff R L b.x a.x (O.equal_zero _ (is_equal _ h.0))) i;
        y = sym (equal_of_diff R L b.y a.y (O.equal_zero _ (is_equal _ h.1))) i;
      }

  is_eq-reverse : (o : Ordering) → is_eq (ordering_reverse o) ≡ is_eq o
  is_eq-reverse Less = refl
  is_eq-reverse Equal = refl
  is_eq-reverse Greater = refl

  is_eq-turned : (r s : R.carrier) → is_eq (S.sign (difference R r s)) ≡ is_eq (S.sign (difference R s r))
  is_eq-turned r s = ap (λ z. is_eq (S.sign z))
      (ring R L (r ∷ (s ∷ [])) (var 0 ⊖ var 1) (neg (var 1 ⊖ var 0)) refl) ∙ ap is_eq (O.sign-neg _)
      ∙ is_eq-reverse _

  same_place-turned : (a b : PlanePoint R.carrier) → same_place S a b ≡ same_place S b a
  same_place-turned a b = ap₂ (λ s t. s && t) (is_eq-turned b.x a.x) (is_eq-turned b.y a.y)

  and_swapped : (s t : Bool) → s && t ≡ t && s
  and_swapped true true = refl
  and_swapped true false = refl
  and_swapped false true = refl
  and_swapped false false = refl

  pub reverse-turned : (e f : PlaneEdge S) → is_reverse S e f ≡ is_reverse S f e
  reverse-turned e f = ap₂ (λ s t. s && t) (same_place-turned f.from e.to) (same_place-turned f.to e.from)
      ∙ and_swapped (same_place S e.to f.from) (same_place S e.from f.to)

  pub reverse-is : (e f : PlaneEdge S) → is_reverse S e f ≡ true → f ≡ record { from = e.to; to = e.from }
  reverse-is e f h = λ i. record { from = same-place f.from e.to (and_parts _ _ h).0 i; to = same-place f.to e.from (and_parts _ _ h).1 i }

-- by the points between which edges run
module _ (P : Points) (W : PointLaws P) where
  one_place : (a b : P.ring.carrier) → same_place P.real (plane_point P a) (plane_point P b) ≡ P.same a b
  one_place a b = same_tests _ _
      (λ h. let e : plane_point P a ≡ plane_point P b = same-place P.real W.of_real W.of_order (plane_point P a) (plane_point P b) h in
      ap (P.same a) (sym (W.separate a b (ap (λ (z : PlanePoint P.real.ops.carrier). z.x) e)
      (ap (λ (z : PlanePoint P.real.ops.carrier). z.y) e))) ∙ W.same_self a)
      (λ h. ap (λ z. same_place P.real (plane_point P a) (plane_point P z)) (sym (W.same-is a b h)) ∙ same_place-self P W a)

  pub reverse-test : (e f : Edge P.ring.carrier) → is_reverse P.real (plane_edge P e) (plane_edge P f) ≡ runs_back P e f
  reverse-test e f = ap₂ (λ s t. s && t) (one_place f.from e.to) (one_place f.to e.from)
