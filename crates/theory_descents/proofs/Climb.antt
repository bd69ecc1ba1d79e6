-- The first level at which the ancestor's polygon passes the test is the least enough depth, and there the
-- tiles that meet the window cover it.
use Rattle.std.proofs.Common.{◌≡◌, ◌⊎◌, inl, inr, ℕ, ◌<◌, ◌≤◌, Bool, true, false, not, List, [], ◌∷◌, pos, int_eq, refl, sym, ap, ◌∙◌, subst}
use Rattle.std.specs.List.{AllByRecursion, list_any}
use Rattle.std.proofs.lemmas.Bool.{and_parts, and_from, cases_lt}
use Rattle.std.proofs.lemmas.Simd.{map-map}
use Rattle.theory_ring.specs.Ring.{Laws, power}
use Rattle.theory_ring.specs.Sign.{Signed, OrderLaws}
use Rattle.theory_ring.specs.Divisor.{DividesWhole}
use Rattle.theory_ring.proofs.Booleans.{equal_numbers}
use Rattle.theory_plane.specs.Plane.{TestPoint, IsTestPoint, test_point}
use Rattle.theory_plane.specs.Crossing.{member}
use Rattle.theory_plane.specs.Box.{OpenBox, in_box}
use Rattle.theory_plane.specs.BoxTest.{box_test}
use Rattle.theory_plane.proofs.BoxMeets.{box_test-meets, meets-box_test}
use Rattle.theory_addresses.specs.Address.{Address, depth, top_kind, Fits}
use Rattle.theory_addresses.specs.Search.{IsAmong}
use Rattle.theory_addresses.specs.Tables.{child_kinds}
use Rattle.theory_addresses.proofs.Lists.{IsAmong-map, AllByRecursion-among}
use Rattle.theory_substitution.specs.Plane.{plane_point}
use Rattle.theory_substitution.specs.Motion.{Motion, moved}
use Rattle.theory_substitution.specs.RuleParts.{vertices_of}
use Rattle.theory_substitution.specs.Supertile.{Placed, supertile}
use Rattle.theory_substitution.specs.Placement.{placement}
use Rattle.theory_plane.proofs.Triangle.{denominator_pos}
use Rattle.theory_dissection.proofs.Holder.{only_holder}
use Rattle.theory_edge_to_edge.specs.Contacts.{tables_of}
use Rattle.theory_dissection.specs.Polygons.{tile_polygon}
use Rattle.theory_dissection.proofs.Setting.{Setting}
use Rattle.theory_frames.specs.Contain.{ancestor_motion}
use Rattle.theory_frames.specs.Frame.{at_level, frame_tiles}
use Rattle.theory_frames.specs.Back.{back}
use Rattle.theory_frames.proofs.Frames.{at_level-depth}
use Rattle.theory_windows.specs.Outlines.{PlaneEdge, Polygon, edges, MeetsBox}
use Rattle.theory_windows.specs.GrownPolygon.{HoldsWindow}
use Rattle.theory_windows.specs.FramePatch.{frame_patch, frame_polygon}
use Rattle.theory_windows.specs.FrameWindow.{AreAllThatMeet, IsLeastDepth}
use Rattle.theory_windows.specs.Patch.{Covers}
use Rattle.theory_windows.proofs.ClosedChains.{closed_chain}
use Rattle.theory_windows.proofs.FramePatch.{frame_move, frame_keeps, moved_tile, outline-is}
use Rattle.theory_windows.proofs.Members.{number-one}
use Rattle.theory_windows.proofs.Window.{centre-in_box}
use Rattle.theory_descents.specs.Climb.{holds_window, HoldsByTest, ancestor_polygon, IsFirstHolding}
use Rattle.theory_descents.specs.Parts.{part_polygon, drawn_below}
use Rattle.theory_descents.proofs.MeetingTest.{some-or-none, any-passes, passes-any, all-each}
use Rattle.theory_descents.proofs.Descent.{motion-back, top-of, frame-dissection, frame-drawn}

not_true : (b : Bool) → not b ≡ true → b ≡ false
not_true true h = absurd (cc h)
not_true false h = refl

module _ (S : Signed) (L : Laws S.ops) (O : OrderLaws S) (whole : DividesWhole S) where
  module _ (box : OpenBox S.ops.carrier) (polygon : Polygon S) where
    abbrev edge_meets : PlaneEdge S → Bool
    edge_meets e = box_test S e.from e.to box

    by-test : holds_window S box polygon ≡ true → HoldsWindow S box polygon
    by-test h =
        let k = and_parts _ _ h in
        record { holds_centre = k.0; none_meets = none (not_true _ k.1) (some-or-none edge_meets (edges polygon)) }
      where
        none : list_any edge_meets (edges polygon) ≡ false → ((e : PlaneEdge S) × IsAmong e (edges polygon) × (edge_meets e ≡ true))
            ⊎ AllByRecursion (λ e. edge_meets e ≡ false) (edges polygon)
            → AllByRecursion (λ e. ¬ MeetsBox S box e) (edges polygon)
        none f (inl e) = absurd (cc (sym f ∙ passes-any edge_meets e.0 (edges polygon) e.1 e.2))
        none f (inr all) = all-each _ _ (edges polygon) (λ e g m. absurd (cc (sym g ∙ meets-box_test S L O e.from e.to box m))) all

    test-by : HoldsWindow S box polygon → holds_window S box polygon ≡ true
    test-by h = and_from _ _ h.holds_centre (at_test (list_any edge_meets (edges polygon)) refl)
      where
        each : (e : PlaneEdge S) (es : List (PlaneEdge S)) → IsAmong e es → AllByRecursion (λ e. ¬ MeetsBox S box e) es → ¬ MeetsBox S box e
        each e [] i all = elim i [ ]
        each e (d ∷ ds) (inl f) all = subst (λ x. ¬ MeetsBox S box x) (sym f) all.0
        each e (d ∷ ds) (inr i) all = each e ds i all.1

        at_test : (b : Bool) → list_any edge_meets (edges polygon) ≡ b → not b ≡ true
        at_test false f = refl
        at_test true f =
            let e = any-passes edge_meets (edges polygon) f in
            absurd (each e.0 (edges polygon) e.1 h.none_meets (box_test-meets S L O whole e.0.from e.0.to box e.2))

  pub holds_by_test : HoldsByTest S
  holds_by_test box polygon = (by-test box polygon, test-by box polygon)

  -- a polygon that holds a window has each point of it
  pub holds-each : (box : OpenBox S.ops.carrier) → 0 < box.w → 0 < box.h → (polygon : Polygon S) → HoldsWindow S box polygon
      → (p : TestPoint S.ops.carrier) → IsTestPoint S p → in_box S box p ≡ true → member S polygon p ≡ true
  holds-each box wide high polygon h p test i = ap (λ z. int_eq z (pos 1))
      (closed_chain S L O whole box polygon h.none_meets p (test_point S.ops box.centre) test (0, refl) i (centre-in_box S L O box wide high)
      ∙ equal_numbers _ _ h.holds_centre)

module _ (T : Setting) (whole : DividesWhole T.points.real) where
  open T use {points as P, laws as W, accepted.{refused, rule as r, numbered as N, edge_to_edge as D}}

  abbrev A : Type 0
  A = P.ring.carrier

  abbrev S : Signed
  S = P.real

  -- the frame's polygon is the ancestor's
  pub polygon-is : (f : Address) (n : ℕ) → frame_polygon P r f n ≡ ancestor_polygon P r f n
  polygon-is f n =
      sym (map-map (plane_point P) (λ z. moved P (back P (placement P r (at_level f n).digits)) (P.ring.mul (power P.ring r.factor n) z))
      (vertices_of r (top_kind (at_level f n))))
      ∙ ap (λ (g : Motion A). part_polygon P r (top_kind (at_level f n)) n g) (sym (motion-back T whole f n))

  pub climb_law : (f : Address) (box : OpenBox S.ops.carrier) (m n : ℕ) → IsFirstHolding P r f box m n → IsLeastDepth P r f box m n
  climb_law f box m n h = record {
    not_below = h.not_below;
    within = h.within;
    holds = subst (HoldsWindow S box) (sym (polygon-is f n)) ((holds_by_test S W.of_real W.of_order whole box (ancestor_polygon P r f n)).0 h.holds);
    least = λ k l w x. by_order k l x (cases_lt k n);
  }
    where
      by_order : (k : ℕ) → m ≤ k → HoldsWindow S box (frame_polygon P r f k) → (k < n) ⊎ (n ≤ k) → n ≤ k
      by_order k l x (inr c) = c
      by_order k l x (inl c) = absurd (cc (sym (h.none_before k l c)
          ∙ (holds_by_test S W.of_real W.of_order whole box (ancestor_polygon P r f k)).1 (subst (HoldsWindow S box) (polygon-is f k) x)))

  -- ---- the tiles cover the window
  module _ (f : Address) (fits : Fits (child_kinds (tables_of P r)) f) (n : ℕ) (within : n ≤ depth f) (box : OpenBox S.ops.carrier)
      (wide : 0 < box.w) (high : 0 < box.h) where
    abbrev drawn : List (Placed A)
    drawn = drawn_below P r box (top_kind (at_level f n)) n (ancestor_motion P r f n)

    are : AreAllThatMeet S (Placed A) (frame_patch P r (at_level f n)) box drawn
    are = frame-drawn T whole f fits n within box wide high

    -- a tile of the frame that holds a point of it
    holder : (p : TestPoint S.ops.carrier) → IsTestPoint S p → member S (ancestor_polygon P r f n) p ≡ true
        → (t : Placed A) × IsAmong t (frame_tiles P r (at_level f n)) × (member S (tile_polygon P r (λ z. z) t) p ≡ true)
    holder p test h =
        let s = only_holder T (frame_move T (at_level f n)) (frame_keeps T (at_level f n)) p (denominator_pos S W.of_real W.of_order p test)
        (top_kind (at_level f n)) n
        (top-of T whole f fits n within) (equal_numbers _ (pos 1) (ap (λ vs. member S vs p) (polygon-is f n) ∙ h)) in (
          moved_tile T (at_level f n) s.0,
          IsAmong-map (moved_tile T (at_level f n)) s.0 (supertile P r (top_kind (at_level f n)) (depth (at_level f n)))
              (subst (λ m. IsAmong s.0 (supertile P r (top_kind (at_level f n)) m)) (sym (at_level-depth f n within)) s.1.holder.among),
          ap (λ vs. member S vs p) (outline-is T (at_level f n) s.0) ∙ ap (λ z. int_eq z (pos 1)) s.1.holder.holds,
        )

    pub covers_law : HoldsWindow S box (ancestor_polygon P r f n) → Covers S (Placed A) (frame_patch P r (at_level f n)) box drawn
    covers_law h p test i =
        let t = holder p test (holds-each S W.of_real W.of_order whole box wide high (ancestor_polygon P r f n) h p test i) in
        number-one (λ u. member S (tile_polygon P r (λ z. z) u) p) t.0 drawn are.distinct ((are.meeting t.0 t.1).0 (p, test, i, t.2)) t.2
        (λ u j k. (frame-dissection T whole f fits n within).one_holder u t.0
        (AllByRecursion-among (λ x. IsAmong x (frame_tiles P r (at_level f n))) u drawn j are.of_patch) t.1 p test k t.2)
