-- A right state as the program keeps it, and back.
use Rattle.std.proofs.Common.{◌≡◌, ℕ, ◌^◌, ℤ, List, [], ◌∷◌, map, length, refl, sym, ap, ap₂, ◌∙◌, subst}
use Rattle.std.specs.List.{AllByRecursion, AllZip}
use Rattle.theory_addresses.proofs.Lists.{AllByRecursion-each}
use Rattle.cyclo_points.specs.declared.order.Order.{Order}
use Rattle.cyclo_points.specs.declared.order.Order.TheVariants.{Four, Six, Eight, Ten}
use Rattle.cyclo_points.specs.declared.point.Point.{Point}
use Rattle.cyclo_points.specs.Order.{points_of}
use Rattle.cyclo_points.specs.Point.{point_in, quad_of, IsOf, IsWithin, Within}
use Rattle.cyclo_points.specs.Quad.{Quad}
use Rattle.cyclo_points.proofs.SamePoints.{point_in-exact}
use Rattle.theory_walks.specs.Frames.{FrameValue}
use Rattle.rule_model.specs.Tiling.{Tiling}
use Rattle.theory_substitution.specs.Plane.{plane_point}
use Rattle.theory_windows.specs.GrowingPatch.{IsOfDepth}
use Rattle.theory_windows.specs.Laws.{OpenTestLaw}
use Rattle.theory_windows.specs.OpenEdges.{NumberedEdge}
use Rattle.window_cover.specs.declared.ends.Ends.{Ends}
use Rattle.window_cover.specs.Border.{Waiting, first_waiting}
use Rattle.window_cover.specs.Found.{BorderEdge, CoverValue, first_of}
use Rattle.window_cover.specs.Packed.{point_of_words, unpacked, packed}
use Rattle.window_cover.specs.Right.{growing, tiles_found, numbered, HasEnds, IsRight}
use Rattle.window_cover.specs.Windows.{TileOf, box_of, polygon_of}
use Rattle.window_cover.specs.Working.{working, state_of, IsEdgeWaiting, IsWorking}
use Rattle.window_cover.proofs.Unpacked.{from-again}

-- ---- points with the same coefficients
within-same : (n : ℕ) (p q : Point) → quad_of p ≡ quad_of q → IsWithin n q → IsWithin n p
within-same n p q e h = record {
  at_0 = subst (Within n) (sym (ap (λ (z : Quad ℤ). z.a0) e)) h.at_0;
  at_1 = subst (Within n) (sym (ap (λ (z : Quad ℤ). z.a1) e)) h.at_1;
  at_2 = subst (Within n) (sym (ap (λ (z : Quad ℤ). z.a2) e)) h.at_2;
  at_3 = subst (Within n) (sym (ap (λ (z : Quad ℤ). z.a3) e)) h.at_3;
}

order-same : (o : Order) (p q : Point) → quad_of p ≡ quad_of q → IsOf o q → IsOf o p
order-same Four p q e h = (ap (λ (z : Quad ℤ). z.a2) e ∙ h.0, ap (λ (z : Quad ℤ). z.a3) e ∙ h.1)
order-same Six p q e h = (ap (λ (z : Quad ℤ). z.a2) e ∙ h.0, ap (λ (z : Quad ℤ). z.a3) e ∙ h.1)
order-same Eight p q e h = tt
order-same Ten p q e h = tt

-- ---- the first open edge
pub first-packed : (border : List BorderEdge) → first_waiting (map packed border) ≡ first_of border
first-packed [] = refl
first-packed (o ∷ os) = refl

pub first-unpacked : (border : List Waiting) → first_waiting border ≡ first_of (map unpacked border)
first-unpacked [] = refl
first-unpacked (o ∷ os) = refl

module _ (t : Tiling) where
  waits : (o : BorderEdge) → HasEnds t o → IsEdgeWaiting t (packed o) (numbered t o)
  waits o h = record {
    same_tile = refl;
    same_edge = refl;
    from = o.from;
    to = o.to;
    from_within = h.from_within;
    to_within = h.to_within;
    from_in_order = h.from_in_order;
    to_in_order = h.to_in_order;
    its_ends = refl;
    starts = refl;
    ends_there = refl;
  }

  all-wait : (border : List BorderEdge) → AllByRecursion (HasEnds t) border → AllZip (IsEdgeWaiting t) (map packed border) (map (numbered t) border)
  all-wait [] h = tt
  all-wait (o ∷ os) h = (waits o h.0, all-wait os h.1)

  module _ (w : Waiting) (n : NumberedEdge (points_of t.order).real) (h : IsEdgeWaiting t w n) where
    from-is : quad_of (unpacked w).from ≡ quad_of h.from
    from-is = ap (λ (e : Ends). quad_of (point_of_words e.start_low e.start_high)) h.its_ends ∙ from-again h.from h.from_within

    to-is : quad_of (unpacked w).to ≡ quad_of h.to
    to-is = ap (λ (e : Ends). quad_of (point_of_words e.end_low e.end_high)) h.its_ends ∙ from-again h.to h.to_within

    has-ends : HasEnds t (unpacked w)
    has-ends = record {
      from_within = within-same (2 ^ 25) (unpacked w).from h.from from-is h.from_within;
      to_within = within-same (2 ^ 25) (unpacked w).to h.to to-is h.to_within;
      from_in_order = order-same t.order (unpacked w).from h.from from-is h.from_in_order;
      to_in_order = order-same t.order (unpacked w).to h.to to-is h.to_in_order;
    }

    numbered-is : numbered t (unpacked w) ≡ n
    numbered-is = λ i. record { tile = h.same_tile i; edge = h.same_edge i; line = record { from = starts i; to = stops i } }
      where
        starts : plane_point (points_of t.order) (point_in t.order (unpacked w).from) ≡ n.line.from
        starts = ap (plane_point (points_of t.order)) (point_in-exact t.order (unpacked w).from h.from from-is) ∙ h.starts

        stops : plane_point (points_of t.order) (point_in t.order (unpacked w).to) ≡ n.line.to
        stops = ap (plane_point (points_of t.order)) (point_in-exact t.order (unpacked w).to h.to to-is) ∙ h.ends_there

  all-numbered : (ws : List Waiting) (ns : List (NumberedEdge (points_of t.order).real))
      → AllZip (IsEdgeWaiting t) ws ns → map (numbered t) (map unpacked ws) ≡ ns
  all-numbered [] [] z = refl
  all-numbered [] (n ∷ ns) z = absurd z
  all-numbered (w ∷ ws) [] z = absurd z
  all-numbered (w ∷ ws) (n ∷ ns) z = ap₂ (λ (x : NumberedEdge (points_of t.order).real)
      (xs : List (NumberedEdge (points_of t.order).real)). x ∷ xs) (numbered-is w n z.0)
      (all-numbered ws ns z.1)

  all-ends : (ws : List Waiting) (ns : List (NumberedEdge (points_of t.order).real))
      → AllZip (IsEdgeWaiting t) ws ns → AllByRecursion (HasEnds t) (map unpacked ws)
  all-ends [] [] z = tt
  all-ends [] (n ∷ ns) z = absurd z
  all-ends (w ∷ ws) [] z = absurd z
  all-ends (w ∷ ws) (n ∷ ns) z = (has-ends w n z.0, all-ends ws ns z.1)

  -- ---- the state
  module _ (tested : OpenTestLaw (points_of t.order)) (f : FrameValue) (c : CoverValue) where
    abbrev tiles : List (TileOf t)
    tiles = tiles_found t f c

    pub open-are : IsRight t f c → map (numbered t) c.border ≡ (state_of t f (working c)).open_edges
    open-are right = (tested (box_of t c.window) (map (polygon_of t) tiles) (map (numbered t) c.border)).0 right.open_edges

    pub works : IsRight t f c → IsWorking t f (working c)
    works right = record {
      frame = right.frame;
      window = right.window;
      found = right.found;
      not_too_many = right.not_too_many;
      state = record {
        of_patch = AllByRecursion-each (IsOfDepth (points_of t.order).real (TileOf t) (growing t f)
            (length f.digits)) _ tiles (λ x h. h.0) right.of_frame;
        at_depth = AllByRecursion-each (IsOfDepth (points_of t.order).real (TileOf t) (growing t f)
            (length f.digits)) _ tiles (λ x h. h.1) right.of_frame;
        distinct = right.distinct;
        none_refused = right.none_refused;
        each_meets = right.each_meets;
        holds_centre = right.holds_centre;
        open_is = refl;
      };
      border = subst (AllZip (IsEdgeWaiting t) (map packed c.border)) (open-are right) (all-wait c.border right.ends);
    }

    -- where its ends are those of its words
    pub right-of : c.border ≡ map unpacked (map packed c.border) → IsWorking t f (working c) → IsRight t f c
    right-of exact work = record {
      frame = work.frame;
      window = work.window;
      found = work.found;
      not_too_many = work.not_too_many;
      of_frame = both _ _ tiles work.state.of_patch work.state.at_depth;
      distinct = work.state.distinct;
      none_refused = work.state.none_refused;
      each_meets = work.state.each_meets;
      holds_centre = work.state.holds_centre;
      ends = subst (AllByRecursion (HasEnds t)) (sym exact) (all-ends (map packed c.border) edges work.border);
      open_edges = (tested (box_of t c.window) (map (polygon_of t) tiles) (map (numbered t) c.border)).1
          (ap (map (numbered t)) exact ∙ all-numbered (map packed c.border) edges work.border);
    }
      where
        edges : List (NumberedEdge (points_of t.order).real)
        edges = (state_of t f (working c)).open_edges

        both : {A : Type 0} (Q R : A → Type 0) (xs : List A) → AllByRecursion Q xs → AllByRecursion R xs → AllByRecursion (λ x. Q x × R x) xs
        both Q R [] q r = tt
        both Q R (x ∷ xs) q r = ((q.0, r.0), both Q R xs q.1 r.1)
