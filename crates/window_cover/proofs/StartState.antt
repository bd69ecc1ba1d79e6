-- The first state of the search: the tile that holds the centre of the window.
use Rattle.std.proofs.Common.{◌≡◌, ℕ, ◌<◌, ◌≤◌, false, List, ◌++◌, [], ◌∷◌, length, map, refl, sym, ap, ap₂, ◌∙◌, subst, arith}
use Rattle.std.specs.List.{AllByRecursion, AllZip}
use Rattle.std.proofs.Math.ListN.{length-map}
use Rattle.theory_addresses.specs.Address.{Address, depth}
use Rattle.theory_addresses.specs.Search.{IsAmong}
use Rattle.cyclo_points.specs.declared.point.Point.{Point}
use Rattle.cyclo_points.specs.Order.{NumberOf, points_of, is_refused}
use Rattle.cyclo_points.specs.Motion.{motion_in}
use Rattle.cyclo_points.specs.Point.{point_in}
use Rattle.theory_dissection.specs.Accepted.{AcceptedRule}
use Rattle.theory_dissection.specs.Polygons.{tile_polygon}
use Rattle.theory_frames.specs.Frame.{IsTileOf, at_level, frame_tiles, lifted_in}
use Rattle.theory_walks.specs.Ancestors.{full}
use Rattle.theory_walks.specs.Containing.{FrameHolds, IsOnlyHolder}
use Rattle.theory_walks.specs.Frames.{FrameValue, whole, at_depth, IsFrameOf, GrowsTo}
use Rattle.lazy_walk.specs.Standing.{Stands}
use Rattle.theory_walks.proofs.Ancestors.{full-later, level-at}
use Rattle.theory_walks.proofs.Walks.{StillFits, at_depth-depth}
use Rattle.plane_geom.specs.declared.window.Window.{Window}
use Rattle.rule_model.specs.declared.rule.Rule.{Rule}
use Rattle.rule_model.specs.Tiling.{Tiling, tiling_of, children}
use Rattle.theory_substitution.specs.Points.{Points}
use Rattle.tile_place.specs.declared.placed_tile.PlacedTile.{PlacedTile}
use Rattle.tile_place.specs.Searched.{placed_in}
use Rattle.tile_place.proofs.Plane.{IsSettled, its_rule}
use Rattle.tile_shape.specs.Views.{address_of}
use Rattle.theory_windows.specs.FrameCover.{IsLeastHolding, IsWindowOn}
use Rattle.theory_windows.specs.FramePatch.{frame_patch, growing_frame, tile_of_ancestor}
use Rattle.theory_windows.specs.EnoughDepth.{IsNotBeyond}
use Rattle.theory_windows.specs.GrowingPatch.{IsOfDepth}
use Rattle.theory_windows.specs.OpenTest.{open_edges_of}
use Rattle.theory_windows.specs.SearchState.{SearchState, IsRightState, started}
use Rattle.tile_place.specs.Corners.{AreCorners}
use Rattle.window_cover.specs.Admitted.{IsAdmitted, found_as}
use Rattle.window_cover.specs.Found.{Found, address_found}
use Rattle.window_cover.specs.NewEdges.{AreNew, left_open, opened}
use Rattle.window_cover.specs.Right.{name_of, growing, IsFound}
use Rattle.window_cover.specs.SearchLaws.{HasSearchLaws}
use Rattle.window_cover.specs.Windows.{TileOf, IsWindow, box_of}
use Rattle.window_cover.specs.Working.{Working, state_of, IsEdgeWaiting, IsWorking}
use Rattle.theory_walks.proofs.InFull.{names, deep, level-grown}
use Rattle.window_cover.proofs.FrameNames.{level-holds}
use Rattle.window_cover.proofs.NewOpen.{border-next, are-new}

module _ (m : Rule) (settled : IsSettled m) (fits : StillFits (children (tiling_of m))) (L : HasSearchLaws (points_of m.order))
    (f : FrameValue) (is : IsFrameOf (tiling_of m) f) (g : FrameValue) (h : GrowsTo (tiling_of m) f g) (w : Window) (fit : IsWindow w)
    (tile : PlacedTile) (stands : Stands (tiling_of m) g tile)
    (holder : IsOnlyHolder (tiling_of m) g (point_in m.order w.centre) (placed_in m.order tile))
    (least : (n : ℕ) → length f.digits ≤ n → n < length g.digits
    → ¬ FrameHolds (tiling_of m) (at_depth (tiling_of m) n f) (point_in m.order w.centre)) where
  abbrev t : Tiling
  t = tiling_of m

  abbrev P : Points
  P = points_of m.order

  abbrev T : AcceptedRule P
  T = its_rule m settled

  abbrev F : Address
  F = full t f

  abbrev pub b : Address
  b = address_of tile.addr

  abbrev pub own : TileOf t
  own = record { address = b; motion = motion_in m.order tile.motion }

  -- the tile by its name
  abbrev pub u : TileOf t
  u = tile_of_ancestor F own

  its_depth : length g.digits ≤ depth F
  its_depth = let d = deep m settled fits f is in omega (arith, d, h.is_frame.at_most_64)

  own_among : IsAmong own (frame_tiles P T.rule (at_level F (length g.digits)))
  own_among = subst (λ y. IsAmong own (frame_tiles P T.rule y)) (sym (level-grown m settled fits f is g h)) stands.in_frame.among

  pub of_depth : IsOfDepth P.real (TileOf t) (growing t f) (length g.digits) u
  of_depth = (L.lifted T F (names m settled fits f is) (is_refused m.order) (length g.digits) its_depth u).1
      (own, own_among, refl)

  abbrev p : NumberOf m.order
  p = point_in m.order w.centre

  least_holding : IsLeastHolding P T.rule F p (length f.digits) (length g.digits)
  least_holding = record {
    not_below = h.no_shallower;
    within = its_depth;
    holds = (L.levels T F (names m settled fits f is) u of_depth.0 p holder.here.holds (length g.digits) its_depth).1 of_depth.1;
    least = λ k low l e. least k low l (sym (level-holds t f k (at_depth t k f) p (level-at t f is k low (omega (arith, l, h.is_frame.at_most_64)))
        (at_depth-depth t f k (omega (arith, low, is.holds_base)))) ∙ e);
  }

  window-on : IsWindowOn P T F (box_of t w)
  window-on = record { frame = names m settled fits f is; wide = omega (arith, fit.some_width); high = omega (arith, fit.some_height) }

  exists : tile.addr.kind < length T.rule.kinds
  exists = subst (λ n. tile.addr.kind < n) (length-map T.rule.kinds _) stands.of_frame.fits.kind_exists

  pub kind_exists : tile.kind < length T.rule.kinds
  kind_exists = subst (λ n. n < length T.rule.kinds) (sym stands.its_kind) exists

  its_corners : (corners : List Point) → AreCorners t tile.kind tile.motion corners → AreCorners t tile.addr.kind tile.motion corners
  its_corners corners are = subst (λ n. AreCorners t n tile.motion corners) stands.its_kind are

  pub edges_new : (corners : List Point) → AreCorners t tile.kind tile.motion corners → AreNew corners []
  edges_new corners are =
      are-new m.order L.points T L.lines L.numbered u exists tile.motion refl corners (its_corners corners are) [] [] tt
      (frame_patch P T.rule F) (λ y. refl) (L.patch T F (names m settled fits f is)) of_depth.0 [] tt (box_of t w) L.open_numbers refl (λ i. i)

  -- what the law of the start says of it
  begun : IsNotBeyond P.real (TileOf t) (growing t f) (box_of t w) (length f.digits) (length g.digits)
      × (is_refused m.order own.motion.shift ≡ false
      → IsRightState P.real (TileOf t) (growing t f) (box_of t w)
      (started P.real (TileOf t) (growing t f) (box_of t w) (length g.digits) u))
  begun = L.start T F (is_refused m.order) p w.w w.h window-on (length f.digits) (length g.digits) least_holding own own_among holder.here.holds

  module _ (c d : Working) (empty : c ≡ record { window = w; found = []; border = [] }) (new : IsAdmitted t c d tile) where
    first : IsRightState P.real (TileOf t) (growing t f) (box_of t w) (started P.real (TileOf t) (growing t f) (box_of t w) (length g.digits) u)
    first = begun.1 new.unrefused

    new_found : d.found ≡ found_as tile ∷ []
    new_found = new.found ∙ ap (λ (y : Working). y.found ++ found_as tile ∷ []) empty

    same_window : d.window ≡ w
    same_window = new.same_window ∙ ap (λ (y : Working). y.window) empty

    abbrev name_by : Address → Found → TileOf t
    name_by y z = record { address = lifted_in y (address_found z); motion = motion_in m.order z.motion }

    same_found : map (name_of t g) d.found ≡ u ∷ []
    same_found =
        ap (λ y. map (name_by y) d.found) (full-later t f g h) ∙ ap (map (name_of t f)) new_found
        ∙ (λ i. record {
          address = lifted_in F (record { kind = stands.its_kind i; digits = b.digits });
          motion = motion_in m.order tile.motion;
        } ∷ [])

    state-is : state_of t g d ≡ started P.real (TileOf t) (growing t f) (box_of t w) (length g.digits) u
    state-is = λ i. record { found = same_found i; open_edges = same_edges i; depth = length g.digits }
      where
        same_edges : (state_of t g d).open_edges ≡ (started P.real (TileOf t) (growing t f) (box_of t w) (length g.digits) u).open_edges
        same_edges = ap₂ (λ x ns. open_edges_of P.real (box_of t x)
            (map (λ y. tile_polygon P T.rule (λ z. z) y) ns)) same_window same_found ∙ sym first.open_is

    pub one_tile : length d.found ≡ 1
    one_tile = ap length new_found

    pub its_window : d.window ≡ w
    its_window = same_window

    border_is : AllZip (IsEdgeWaiting t) d.border (state_of t g d).open_edges
    border_is =
        subst (λ ws. AllZip (IsEdgeWaiting t) ws (state_of t g d).open_edges)
        (sym (new.border ∙ ap (λ (y : Working). left_open new.corners (length new.corners) y.border
        ++ opened m.order y.window (length y.found) new.corners (length new.corners) y.border) empty))
        (subst (λ es. AllZip (IsEdgeWaiting t) (left_open new.corners (length new.corners) []
        ++ opened m.order w 0 new.corners (length new.corners) []) es)
        (sym (ap (λ (z : SearchState P.real (TileOf t)). z.open_edges) state-is))
        (border-next m.order L.points T L.lines L.numbered u exists tile.motion refl new.corners
        (its_corners new.corners new.are_corners) [] [] tt w 0))

    pub right-first : IsWorking t g d
    right-first = record {
      frame = h.is_frame;
      window = subst IsWindow (sym same_window) fit;
      found = subst (AllByRecursion (IsFound t g)) (sym new_found) (
        record {
          of_frame = subst (λ n. IsTileOf (children t) (whole g) (record { kind = n; digits = b.digits })) (sym stands.its_kind) stands.of_frame;
          turn_below = stands.turn_below;
          shift_within = new.shift_within;
          in_order = stands.in_order;
        },
        tt,
      );
      not_too_many = omega (arith, one_tile);
      state = subst (λ (x : Window). IsRightState P.real (TileOf t) (growing t g) (box_of t x) (state_of t g d)) (sym same_window)
          (subst (λ y. IsRightState P.real (TileOf t) (growing_frame P (is_refused m.order) T.rule y)
          (box_of t w) (state_of t g d)) (sym (full-later t f g h))
          (subst (IsRightState P.real (TileOf t) (growing t f) (box_of t w)) (sym state-is) first));
      border = border_is;
    }
