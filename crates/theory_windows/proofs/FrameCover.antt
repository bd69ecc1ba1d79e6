-- The search for the tiles of a window on a frame.
use Rattle.std.proofs.Common.{◌≡◌, ℕ, ◌<◌, ◌≤◌, max, Bool, false, List, [], map, length, Some, slice_get, sym, ap, ◌∙◌, subst, arith}
use Rattle.std.specs.List.{AllByRecursion}
use Rattle.theory_ring.specs.Divisor.{DividesWhole}
use Rattle.theory_ring.specs.Sign.{Signed}
use Rattle.theory_plane.specs.Box.{OpenBox}
use Rattle.theory_addresses.specs.Address.{Address, depth}
use Rattle.theory_addresses.specs.Search.{IsAmong}
use Rattle.theory_addresses.proofs.Chains.{chain_of}
use Rattle.theory_addresses.proofs.Lists.{AllByRecursion-among}
use Rattle.theory_addresses.proofs.Ranges.{place-among, slice_get-image}
use Rattle.theory_substitution.specs.Supertile.{Placed}
use Rattle.theory_edge_to_edge.specs.Contacts.{tables_of}
use Rattle.theory_dissection.specs.OnBoundary.{IsOnBoundary}
use Rattle.theory_dissection.specs.Polygons.{tile_polygon}
use Rattle.theory_dissection.specs.TileEdges.{tile_at}
use Rattle.theory_dissection.proofs.Setting.{Setting}
use Rattle.theory_dissection.proofs.AcrossTouches.{same}
use Rattle.theory_dissection.proofs.RuleAddresses.{lowest_exists}
use Rattle.theory_frames.specs.Frame.{lifted_in}
use Rattle.theory_windows.specs.Distinct.{AreDistinct}
use Rattle.theory_windows.specs.Outlines.{Polygon, PlaneEdge, edges, MeetsBox}
use Rattle.theory_windows.specs.Meeting.{PolygonMeetsBox}
use Rattle.theory_windows.specs.AnyOrder.{HaveSameMembers}
use Rattle.theory_windows.specs.GrowingPatch.{GrowingPatch}
use Rattle.theory_windows.specs.EnoughDepth.{IsNotBeyond}
use Rattle.theory_windows.specs.OpenEdges.{NumberedEdge}
use Rattle.theory_windows.specs.SearchState.{outlines}
use Rattle.theory_windows.specs.SearchSteps.{IsStep, IsFinished}
use Rattle.theory_windows.specs.PatchWindow.{PatchWindow, LiesAcross}
use Rattle.theory_windows.specs.Refusals.{IsDepthLimit}
use Rattle.theory_windows.specs.OpenNumbers.{IsEdgeAt}
use Rattle.theory_windows.specs.FramePatch.{level_in, growing_frame, tile_of_ancestor, in_frame, line_of}
use Rattle.theory_windows.specs.FrameLaws.{IsEdgeInFrame}
use Rattle.theory_windows.specs.FrameWindow.{IsWindowWithin}
use Rattle.theory_windows.specs.FrameCover.{IsWindowOn, StateOn, IsRightOn, IsOpenCrossing, IsFrameAnswer}
use Rattle.theory_windows.proofs.Places.{distinct-map}
use Rattle.theory_windows.proofs.AnyOrder.{drawn_any_order, covers_any_order}
use Rattle.theory_windows.proofs.FromLevel.{one_across}
use Rattle.theory_windows.proofs.OpenNumbers.{open_numbers}
use Rattle.theory_windows.proofs.Steps.{step_right}
use Rattle.theory_windows.proofs.Finish.{finish_right}
use Rattle.theory_windows.proofs.Limits.{depth_refusal, goes_on, ends_within}
use Rattle.theory_windows.proofs.MovedTiles.{lines}
use Rattle.theory_windows.proofs.FramePatch.{frame-dissected}
use Rattle.theory_windows.proofs.Renamed.{longer}
use Rattle.theory_windows.proofs.GrownCrossings.{grown-crossing, last-boundary}
use Rattle.theory_windows.proofs.FrameDrawn.{lifted-one, drawn-to, covers-lifted}
use Rattle.theory_windows.proofs.FrameWindow.{enough-least, within-limits, limits-within}

at_most : (x y z : ℕ) → x ≤ y → y ≤ z → x ≤ z
at_most x y z k l = omega arith

is_some : {A : Type 0} {x y : A} → Some x ≡ Some y → x ≡ y
is_some e = cc (e)

module _ (T : Setting) (divides : DividesWhole T.points.real) (f : Address)
    (refused : T.points.ring.carrier → Bool) (box : OpenBox T.points.real.ops.carrier)
    (on : IsWindowOn T.points T.accepted f box) where
  open T use {points as P, laws as W, accepted.{rule as r, numbered as N, edge_to_edge as D}}

  abbrev A : Type 0
  A = P.ring.carrier

  abbrev S : Signed
  S = P.real

  abbrev F : GrowingPatch S (Placed A)
  F = growing_frame P refused r f

  abbrev G : PatchWindow S (Placed A)
  G = record { growing = F; dissected = frame-dissected T f (chain_of (tables_of P r) f on.frame); box = box; wide = on.wide; high = on.high }

  least-start : (m limit : ℕ) → IsWindowWithin P refused r f box m limit → m ≤ depth f
  least-start m limit h = at_most m h.depth (depth f) h.least.not_below h.least.within

  -- ---- an open edge of a tile
  module _ (s : StateOn P) (right : IsRightOn P refused T.accepted f box s) (o : NumberedEdge S) (i : IsAmong o s.open_edges) (a : Address)
      (tile : slice_get s.found o.tile ≡ Some (in_frame P r f a)) (h : IsEdgeInFrame P T.accepted f a o.edge) where
    own-line : slice_get (edges (tile_polygon P r (λ z. z) (in_frame P r f a))) o.edge ≡ Some (line_of P r (in_frame P r f a) o.edge)
    own-line = lines T (λ z. z) (same T) (in_frame P r f a)
        (lowest_exists T a.kind a.digits (chain_of (tables_of P r) a h.tile.fits)) o.edge h.edge_exists

    -- it is the edge of that number
    line-is : o.line ≡ line_of P r (in_frame P r f a) o.edge
    line-is =
        let n : IsEdgeAt S (outlines S (Placed A) F s.found) o
        = (open_numbers S W.of_real W.of_order divides box (outlines S (Placed A) F s.found) o
        (subst (IsAmong o) right.open_is i)).0 in
        let polygon : n.polygon ≡ tile_polygon P r (λ z. z) (in_frame P r f a)
        = is_some (sym n.tile_at ∙ slice_get-image (tile_polygon P r (λ z. z)) (in_frame P r f a) s.found o.tile tile) in
        is_some (sym n.edge_at ∙ ap (λ (vs : Polygon S). slice_get (edges vs) o.edge) polygon ∙ own-line)

    -- where it is on the boundary at the frame's own depth, the search stops
    module _ (own part : ℕ) (boundary : IsOnBoundary P r (tile_at P r (lifted_in f a)) o.edge own part) where
      none-across : (u : Placed A) → LiesAcross S (Placed A) F o.line u → ⊥
      none-across u x = last-boundary T f on.frame refused a o.edge h own part boundary u
          (subst (λ (e : PlaneEdge S). LiesAcross S (Placed A) F e u) line-is x)

      pub stop-cause : IsDepthLimit S (Placed A) F box (line_of P r (in_frame P r f a) o.edge) (in_frame P r f a)
      stop-cause =
          let x = depth_refusal S W.of_real W.of_order divides G s right o i (λ u y. absurd (none-across u y)) in
          record {
            of_tile = place-among (line_of P r (in_frame P r f a) o.edge) (edges (tile_polygon P r (λ z. z) (in_frame P r f a))) o.edge own-line;
            edge_meets = subst (MeetsBox S box) line-is x.2.edge_meets;
            tile_meets = AllByRecursion-among (λ (u : Placed A). PolygonMeetsBox S box (tile_polygon P r (λ z. z) u)) (in_frame P r f a) s.found
                (place-among (in_frame P r f a) s.found o.tile tile) right.each_meets;
            none_enough = x.2.none_enough;
          }

      pub stop-beyond : (m limit : ℕ) → IsWindowWithin P refused r f box m limit → ⊥
      stop-beyond m limit h =
          let x = goes_on S W.of_real W.of_order divides G m limit
          (within-limits T f on.frame refused box m limit (least-start m limit h) h) s right o i in
          none-across x.0 x.1

  -- ---- a step
  module _ (s : StateOn P) (right : IsRightOn P refused T.accepted f box s) (o : NumberedEdge S) (n : ℕ)
      (a b : Address) (g : ℕ) (c : IsOpenCrossing P T.accepted f s o n a b g) where
    here : IsEdgeInFrame P T.accepted f a o.edge
    here = record {
      frame = on.frame;
      tile = longer T f on.frame s.depth (at_most s.depth n (depth f) c.crossing.not_below c.crossing.within) a c.crossing.tile;
      edge_exists = c.crossing.edge_exists;
    }

    lies : LiesAcross S (Placed A) F o.line (in_frame P r f b)
    lies = subst (λ (e : PlaneEdge S). LiesAcross S (Placed A) F e (in_frame P r f b)) (sym (line-is s right o c.is_open a c.tile here))
        (grown-crossing T f on.frame refused s.depth n a o.edge b g c.crossing).0

    pub frame-step : IsStep S (Placed A) F box s (in_frame P r f b) × (max s.depth (level_in f (lifted_in f b)) ≡ n)
    frame-step = (
      step_right S W.of_real W.of_order divides G s right o c.is_open (in_frame P r f b) lies,
      (grown-crossing T f on.frame refused s.depth n a o.edge b g c.crossing).1,
    )

    pub frame-onward : (m limit : ℕ) → IsWindowWithin P refused r f box m limit
        → (refused (in_frame P r f b).motion.shift ≡ false) × (length s.found < limit)
    frame-onward m limit h =
        let x = goes_on S W.of_real W.of_order divides G m limit
        (within-limits T f on.frame refused box m limit (least-start m limit h) h) s right o c.is_open in (
          subst (λ (u : Placed A). refused u.motion.shift ≡ false)
              (one_across S W.of_real W.of_order F G.dissected o.line x.0 (in_frame P r f b) x.1 lies) x.2,
          x.3,
        )

  -- ---- the end
  module _ (s : StateOn P) (right : IsRightOn P refused T.accepted f box s) (none : s.open_edges ≡ []) where
    module _ (within : s.depth ≤ depth f) (tiles : List (Placed A)) (distinct : AreDistinct tiles)
        (deep : AllByRecursion (λ (t : Placed A). depth t.address ≡ s.depth) tiles)
        (members : HaveSameMembers s.found (map (tile_of_ancestor f) tiles)) where
      end : IsFinished S (Placed A) F box s
      end = finish_right S W.of_real W.of_order divides G s right none

      names-distinct : AreDistinct (map (tile_of_ancestor f) tiles)
      names-distinct = distinct-map (tile_of_ancestor f) tiles
          (λ x y i j e. lifted-one T f on.frame refused s.depth within x y
          (AllByRecursion-among _ x tiles i deep) (AllByRecursion-among _ y tiles j deep) e) distinct

      pub frame-answer : IsFrameAnswer P refused r f box s.depth tiles
      frame-answer = record {
        all_that_meet = drawn-to T f on.frame refused s.depth within box tiles deep
            (drawn_any_order F box s.depth s.found (map (tile_of_ancestor f) tiles) end.drawn names-distinct members);
        covers = (covers-lifted T f s.depth box tiles).1
            (covers_any_order F.patch G.dissected box s.found (map (tile_of_ancestor f) tiles) right.of_patch names-distinct members end.covers);
        least = λ m start beyond. enough-least T f on.frame refused box m s.depth start (end.least m beyond);
      }

    pub frame-ends : (m limit : ℕ) → m ≤ depth f → IsNotBeyond S (Placed A) F box m s.depth
        → length s.found ≤ limit → IsWindowWithin P refused r f box m limit
    frame-ends m limit start beyond few =
        limits-within T f on.frame refused box m limit start (ends_within S W.of_real W.of_order divides G m limit s right none beyond few)
