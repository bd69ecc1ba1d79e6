-- A map that keeps segments takes two points to two points, and an edge that lies along another to one that does.
use Rattle.std.proofs.Common.{◌≡◌, [], ◌∷◌, pos, negsuc, true, not, ◌&&◌, refl, sym, ap, ◌∙◌}
use Rattle.std.proofs.lemmas.Bool.{and_parts, and_from, false_from_ne_true}
use Rattle.std.specs.Ordering.{is_eq}
use Rattle.theory_ring.proofs.Booleans.{is_equal}
use Rattle.theory_ring.specs.Ring.{Ops, Laws, difference}
use Rattle.theory_ring.specs.Sign.{Signed, OrderLaws}
use Rattle.theory_plane.specs.Plane.{PlanePoint}
use Rattle.theory_plane.specs.Segment.{Between, same_place, on_segment}
use Rattle.theory_ring.proofs.Normaliser.{var, con, ring, ring_from, ◌⊕◌, ◌⊖◌, ◌⊗◌}
use Rattle.theory_ring.proofs.Signs.{pos_nonneg, zero_nonneg}
use Rattle.theory_plane.proofs.OnSegment.{between-on_segment, on_segment-between}
use Rattle.theory_plane.proofs.Linear.{cancel}
use Rattle.theory_substitution.specs.Points.{Points, PointLaws}
use Rattle.theory_substitution.specs.Plane.{plane_point, Keeps}
use Rattle.theory_edge_to_edge.specs.Edges.{Edge, lies_along}
use Rattle.theory_edge_to_edge.proofs.LieCases.{same_place-self}
use Rattle.theory_dissection.specs.TileEdges.{image_of}
use Rattle.theory_dissection.proofs.Ahead.{Ahead, ahead}

module _ (S : Signed) (L : Laws S.ops) (O : OrderLaws S) where
  abbrev R : Ops
  R = S.ops

  pub between-start : (a b : PlanePoint R.carrier) → Between S a b a
  between-start a b = record {
    i = R.int (pos 1);
    j = R.int (pos 0);
    i_nonneg = pos_nonneg S L O _ O.one_greater;
    j_nonneg = zero_nonneg S L O _ O.zero_equal;
    some = ap S.sign (L.add_zero (R.int (pos 1))) ∙ O.one_greater;
    at_x = whole a.x b.x;
    at_y = whole a.y b.y;
  }
    where
      whole : (x y : R.carrier) → R.mul (R.add (R.int (pos 1)) (R.int (pos 0))) x ≡ R.add (R.mul (R.int (pos 1)) x) (R.mul (R.int (pos 0)) y)
      whole x y = ring R L (x ∷ (y ∷ [])) ((con (pos 1) ⊕ con (pos 0)) ⊗ var 0) (con (pos 1) ⊗ var 0 ⊕ con (pos 0) ⊗ var 1) refl

  pub between-end : (a b : PlanePoint R.carrier) → Between S a b b
  between-end a b = record {
    i = R.int (pos 0);
    j = R.int (pos 1);
    i_nonneg = zero_nonneg S L O _ O.zero_equal;
    j_nonneg = pos_nonneg S L O _ O.one_greater;
    some = ap S.sign (ring R L [] (con (pos 0) ⊕ con (pos 1)) (con (pos 1)) refl) ∙ O.one_greater;
    at_x = whole a.x b.x;
    at_y = whole a.y b.y;
  }
    where
      whole : (x y : R.carrier) → R.mul (R.add (R.int (pos 0)) (R.int (pos 1))) y ≡ R.add (R.mul (R.int (pos 0)) x) (R.mul (R.int (pos 1)) y)
      whole x y = ring R L (x ∷ (y ∷ [])) ((con (pos 0) ⊕ con (pos 1)) ⊗ var 1) (con (pos 0) ⊗ var 0 ⊕ con (pos 1) ⊗ var 1) refl

  between-self : (a b : PlanePoint R.carrier) → Between S a a b → (b.x ≡ a.x) × (b.y ≡ a.y)
  between-self a b h = (same b.x a.x h.at_x, same b.y a.y h.at_y)
    where
      same : (b a : R.carrier) → R.mul (R.add h.i h.j) b ≡ R.add (R.mul h.i a) (R.mul h.j a) → b ≡ a
      same b a e =
          cancel S L O (R.add h.i h.j) b a h.some
          (ring_from R L (h.i ∷ (h.j ∷ (a ∷ (b ∷ [])))) ((var 0 ⊕ var 1) ⊗ (var 3 ⊖ var 2)) (con (pos 0))
          ((con (pos 1), (var 0 ⊕ var 1) ⊗ var 3, var 0 ⊗ var 2 ⊕ var 1 ⊗ var 2) ∷ []) (e, tt) refl)

module _ (P : Points) (W : PointLaws P) where
  abbrev A : Type 0
  A = P.ring.carrier

  pub keeps-injective : (f : A → A) → Keeps P f → (a b : A) → f a ≡ f b → a ≡ b
  keeps-injective f keeps a b e =
      let there : on_segment P.real (plane_point P (f a)) (plane_point P (f a)) (plane_point P (f a)) ≡ true
      = on_segment-between P.real W.of_real W.of_order _ _ _
      (between-start P.real W.of_real W.of_order (plane_point P (f a)) (plane_point P (f a))) in
      let moved : on_segment P.real (plane_point P (f a)) (plane_point P (f a)) (plane_point P (f b)) ≡ true
      = ap (λ z. on_segment P.real (plane_point P (f a)) (plane_point P (f a)) (plane_point P z)) (sym e) ∙ there in
      let h = between-self P.real W.of_real W.of_order (plane_point P a) (plane_point P b)
      (between-on_segment P.real W.of_real W.of_order _ _ _ (sym (keeps.segments a a b) ∙ moved)) in
      W.separate a b (sym h.0) (sym h.1)

  -- what lying along says
  pub record Along (whole e : Edge A) : Type 0 where
    pub ends_differ : e.from ≡ e.to → ⊥
    pub end_on : on_segment P.real (plane_point P whole.from) (plane_point P whole.to) (plane_point P e.to) ≡ true
    pub start_on : on_segment P.real (plane_point P whole.from) (plane_point P e.to) (plane_point P e.from) ≡ true

  pub along_of : (whole e : Edge A) → lies_along P whole e ≡ true → Along whole e
  along_of whole e h =
      let c = plane_point P e.from in
      let d = plane_point P e.to in
      let a = plane_point P whole.from in
      let outer = and_parts (not (same_place P.real c d) && on_segment P.real a (plane_point P whole.to) d) (on_segment P.real a d c) h in
      let first = and_parts (not (same_place P.real c d)) (on_segment P.real a (plane_point P whole.to) d) outer.0 in
      record {
        ends_differ = λ g. let one = ap (λ z. same_place P.real (plane_point P e.from) (plane_point P z))
            g in cc (one, same_place-self P W e.from, first.0);
        end_on = first.1;
        start_on = outer.1;
      }

  -- an edge moved
  pub Along-image : (f : A → A) → Keeps P f → (whole e : Edge A) → Along whole e → Along (image_of P f whole) (image_of P f e)
  Along-image f keeps whole e h = record {
    ends_differ = λ g. h.ends_differ (keeps-injective f keeps e.from e.to g);
    end_on = keeps.segments whole.from whole.to e.to ∙ h.end_on;
    start_on = keeps.segments whole.from e.to e.from ∙ h.start_on;
  }

  abbrev pub AheadOf : Edge A → Edge A → Type 0
  AheadOf whole e = Ahead P.real (plane_point P whole.from) (plane_point P whole.to) (plane_point P e.from) (plane_point P e.to)

  pub ahead-along : (whole e : Edge A) → Along whole e → AheadOf whole e
  ahead-along whole e h =
      ahead P.real W.of_real W.of_order (plane_point P whole.from) (plane_point P whole.to) (plane_point P e.from) (plane_point P e.to)
      (between-on_segment P.real W.of_real W.of_order _ _ _ h.end_on) (between-on_segment P.real W.of_real W.of_order _ _ _ h.start_on)
      (λ x y. h.ends_differ (W.separate e.from e.to (sym x) (sym y)))

  same_place-is : (a b : A) → same_place P.real (plane_point P a) (plane_point P b) ≡ true → a ≡ b
  same_place-is a b h =
      let both = and_parts (is_eq (P.real.sign (difference P.real.ops (P.x b) (P.x a))))
      (is_eq (P.real.sign (difference P.real.ops (P.y b) (P.y a)))) h in
      W.separate a b (zero (P.x a) (P.x b) both.0) (zero (P.y a) (P.y b) both.1)
    where
      zero : (x y : P.real.ops.carrier) → is_eq (P.real.sign (difference P.real.ops y x)) ≡ true → x ≡ y
      zero x y e =
          ring_from P.real.ops W.of_real (x ∷ (y ∷ [])) (var 0) (var 1) ((con (negsuc 0), var 1 ⊖ var 0, con (pos 0)) ∷ [])
          (W.of_order.equal_zero _ (is_equal _ e), tt) refl

  -- and it is what lying along asks
  pub along_from : (whole e : Edge A) → Along whole e → lies_along P whole e ≡ true
  along_from whole e h =
      and_from _ _ (and_from _ _ (ap not (false_from_ne_true _ (λ g. h.ends_differ (same_place-is e.from e.to g)))) h.end_on) h.start_on
