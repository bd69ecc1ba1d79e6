-- The next state of the search: one more tile is found, across the first open edge.
use Rattle.std.proofs.Common.{◌≡◌, inl, ℕ, ◌+◌, ◌<◌, max, false, not, ◌&&◌, Some, List, ◌++◌, [], ◌∷◌, length, map, slice_get, refl, sym, ap, ap₂, ◌∙◌, subst, arith, length-append}
use Rattle.std.specs.List.{filter, AllByRecursion, AllZip}
use Rattle.std.proofs.Math.ListN.{length-map}
use Rattle.std.proofs.lemmas.List.{map-append}
use Rattle.theory_addresses.specs.Address.{Address}
use Rattle.theory_addresses.specs.Search.{IsAmong}
use Rattle.theory_addresses.proofs.Lists.{AllByRecursion-each, AllByRecursion-append}
use Rattle.cyclo_points.specs.declared.point.Point.{Point}
use Rattle.cyclo_points.specs.Order.{points_of, is_refused}
use Rattle.cyclo_points.specs.Motion.{motion_in}
use Rattle.theory_dissection.specs.Accepted.{AcceptedRule}
use Rattle.theory_dissection.specs.Polygons.{tile_polygon}
use Rattle.theory_frames.specs.Frame.{IsTileOf, lifted_in}
use Rattle.theory_walks.specs.Ancestors.{full}
use Rattle.theory_walks.specs.Frames.{FrameValue, whole, GrowsTo}
use Rattle.theory_walks.proofs.Ancestors.{full-later}
use Rattle.theory_walks.proofs.Lifting.{IsTileOf-later}
use Rattle.theory_walks.proofs.Walks.{StillFits}
use Rattle.rule_model.specs.declared.rule.Rule.{Rule}
use Rattle.rule_model.specs.Tiling.{Tiling, tiling_of, children}
use Rattle.theory_substitution.specs.Motion.{followed}
use Rattle.theory_substitution.specs.Points.{Points}
use Rattle.tile_place.specs.declared.placed_tile.PlacedTile.{PlacedTile}
use Rattle.tile_place.proofs.Plane.{IsSettled, its_rule}
use Rattle.tile_shape.specs.Views.{address_of}
use Rattle.theory_windows.specs.FrameCover.{IsOpenCrossing}
use Rattle.theory_windows.specs.FramePatch.{in_frame, frame_patch, level_in, growing_frame}
use Rattle.theory_windows.specs.FrameSearch.{IsGrownCrossing}
use Rattle.theory_windows.specs.OpenEdges.{NumberedEdge, edges_of_tile}
use Rattle.theory_windows.specs.OpenTest.{open_edges_of, is_met}
use Rattle.theory_windows.specs.OpenStep.{closes_one}
use Rattle.theory_windows.specs.Outlines.{edges}
use Rattle.theory_plane.specs.BoxTest.{box_test}
use Rattle.plane_geom.specs.declared.window.Window.{Window}
use Rattle.theory_windows.specs.PatchWindow.{PatchWindow, LiesAcross}
use Rattle.theory_windows.specs.SearchState.{SearchState, IsRightState, stepped}
use Rattle.theory_windows.specs.SearchSteps.{IsStep}
use Rattle.window_cover.specs.declared.open_edge.OpenEdge.{OpenEdge}
use Rattle.tile_place.specs.Corners.{AreCorners}
use Rattle.window_cover.specs.Admitted.{IsAdmitted, found_as}
use Rattle.window_cover.specs.Border.{Waiting, first_waiting}
use Rattle.lazy_walk.specs.Crossed.{IsCrossedTo}
use Rattle.window_cover.specs.Found.{Found, address_found}
use Rattle.window_cover.specs.NewEdges.{AreNew, left_open, opened}
use Rattle.window_cover.specs.Right.{name_of, growing, IsFound}
use Rattle.window_cover.specs.SearchLaws.{HasSearchLaws}
use Rattle.window_cover.specs.Windows.{TileOf, IsWindow, box_of}
use Rattle.window_cover.specs.Working.{Working, state_of, IsEdgeWaiting, IsWorking}
use Rattle.theory_walks.proofs.InFull.{names}
use Rattle.window_cover.proofs.FrameNames.{grown}
use Rattle.window_cover.proofs.Names.{window-on, found-at, name-at, its_found, edge-exists, line-is}
use Rattle.window_cover.proofs.NewOpen.{border-next, are-new}

-- the first open edge, by both lists
pub record FirstIn (t : Tiling) (edges : List (NumberedEdge (points_of t.order).real)) (first : OpenEdge) : Type 0 where
  pub edge : NumberedEdge (points_of t.order).real
  pub rest : List (NumberedEdge (points_of t.order).real)
  pub is : edges ≡ edge ∷ rest
  pub same_tile : first.tile ≡ edge.tile
  pub same_edge : first.edge ≡ edge.edge

pub first-in : (t : Tiling) (border : List Waiting) (edges : List (NumberedEdge (points_of t.order).real))
    (first : OpenEdge) → AllZip (IsEdgeWaiting t) border edges → first_waiting border ≡ Some first
    → FirstIn t edges first
first-in t [] edges first z h = cc
first-in t (b ∷ bs) [] first z h = absurd z
first-in t (b ∷ bs) (e ∷ es) first z h =
    let one : b.edge ≡ first = cc in
    record {
      edge = e;
      rest = es;
      is = refl;
      same_tile = ap (λ (o : OpenEdge). o.tile) (sym one)
          ∙ z.0.same_tile;
      same_edge = ap (λ (o : OpenEdge). o.edge) (sym one) ∙ z.0.same_edge;
    }

module _ (m : Rule) (settled : IsSettled m) (fits : StillFits (children (tiling_of m)))
    (L : HasSearchLaws (points_of m.order)) (f : FrameValue) (g : FrameValue) (h : GrowsTo (tiling_of m) f g)
    (c : Working) (right : IsWorking (tiling_of m) f c) (first : OpenEdge)
    (is_first : first_waiting c.border ≡ Some first) (x : Found)
    (at : slice_get c.found first.tile ≡ Some x)
    (tile : PlacedTile) (back : ℕ) (crossed : IsCrossedTo (tiling_of m) f g (address_found x) x.motion first.edge tile back) where
  abbrev t : Tiling
  t = tiling_of m

  abbrev P : Points
  P = points_of m.order

  abbrev T : AcceptedRule P
  T = its_rule m settled

  abbrev F : Address
  F = full t f

  abbrev s : SearchState P.real (TileOf t)
  s = state_of t f c

  abbrev b : Address
  b = address_of tile.addr

  -- the tile across, by its name
  abbrev u : TileOf t
  u = in_frame P T.rule F b

  pub first_edge : FirstIn t s.open_edges first
  first_edge = first-in t c.border s.open_edges first right.border is_first

  abbrev o : NumberedEdge P.real
  o = first_edge.edge

  pub among : IsAmong o s.open_edges
  among = subst (λ es. IsAmong o es) (sym first_edge.is) (inl refl)

  pub at_o : slice_get c.found o.tile ≡ Some x
  at_o = subst (λ i. slice_get c.found i ≡ Some x) first_edge.same_tile at

  pub over : IsCrossedTo t f g (address_found x) x.motion o.edge tile back
  over = subst (λ e. IsCrossedTo t f g (address_found x) x.motion e tile back) first_edge.same_edge crossed

  pub crossing : IsGrownCrossing P T F (length f.digits) (length g.digits) (address_found x) o.edge b back
  crossing = grown m settled fits f right.frame g h (address_found x) b o.edge back
      (its_found m settled fits L f right.frame c right o.tile x at_o).of_frame
      (edge-exists m settled fits L f right.frame c right o among x at_o) over.only_tile_across over.least

  pub opening : IsOpenCrossing P T F s o (length g.digits) (address_found x) b back
  opening = record { is_open = among; tile = found-at m settled fits L f right.frame c right o.tile x at_o; crossing = crossing }

  pub step : IsStep P.real (TileOf t) (growing t f) (box_of t c.window) s u × (max s.depth (level_in F (lifted_in F b)) ≡ length g.digits)
  step = L.step T F (is_refused m.order) (box_of t c.window)
      (window-on m settled fits L f right.frame c right) s right.state o (length g.digits) (address_found x) b
      back opening

  pub placed : motion_in m.order tile.motion ≡ u.motion
  placed =
      over.motion_is ∙ ap (λ (y : TileOf t). followed P over.glue y.motion) (name-at m settled fits L f right.frame c right o.tile x at_o)
      ∙ sym (L.glued T F (length f.digits) (length g.digits) (address_found x) o.edge b back crossing over.glue over.glues)

  pub lies_across : LiesAcross P.real (TileOf t) (growing t f) o.line u
  lies_across = subst (λ l. LiesAcross P.real (TileOf t) (growing t f) l u) (line-is m settled fits L f right.frame c right o among x at_o)
      (L.grown T F (length f.digits) (length g.digits) (address_found x) o.edge b back crossing (is_refused m.order)).0

  exists : tile.addr.kind < length T.rule.kinds
  exists = subst (λ n. tile.addr.kind < n) (length-map T.rule.kinds _) over.of_frame.fits.kind_exists

  pub kind_exists : tile.kind < length T.rule.kinds
  kind_exists = subst (λ k. k < length T.rule.kinds) (sym over.its_kind) exists

  its_corners : (corners : List Point) → AreCorners t tile.kind tile.motion corners → AreCorners t tile.addr.kind tile.motion corners
  its_corners corners are = subst (λ k. AreCorners t k tile.motion corners) over.its_kind are

  -- what the new tile's edges must be for it to be taken in
  pub edges_new : (corners : List Point) → AreCorners t tile.kind tile.motion corners → AreNew corners c.border
  edges_new corners are =
      are-new m.order L.points T L.lines L.numbered u exists tile.motion placed corners (its_corners corners are) c.border s.open_edges right.border
      (frame_patch P T.rule F) (λ y. refl) (L.patch T F (names m settled fits f right.frame))
      lies_across.of_patch s.found right.state.of_patch (box_of t c.window) L.open_numbers
      right.state.open_is step.0.new

  module _ (d : Working) (new : IsAdmitted t c d tile) where
    abbrev G : PatchWindow P.real (TileOf t)
    G = record {
      growing = growing t f;
      dissected = L.patch T F (names m settled fits f right.frame);
      box = box_of t c.window;
      wide = (window-on m settled fits L f right.frame c right).wide;
      high = (window-on m settled fits L f right.frame c right).high;
    }

    unrefused : is_refused m.order u.motion.shift ≡ false
    unrefused = ap (λ k. is_refused m.order k.shift) (sym placed) ∙ new.unrefused

    next : IsRightState P.real (TileOf t) (growing t f) (box_of t c.window) (stepped P.real (TileOf t) (growing t f) (box_of t c.window) s u)
    next = step.0.right unrefused

    abbrev name_by : Address → Found → TileOf t
    name_by y z = record { address = lifted_in y (address_found z); motion = motion_in m.order z.motion }

    pub new_name : name_of t f (found_as tile) ≡ u
    new_name = λ i. record { address = lifted_in F (record { kind = over.its_kind i; digits = b.digits }); motion = placed i }

    same_found : map (name_of t g) d.found ≡ s.found ++ u ∷ []
    same_found =
        ap (λ y. map (name_by y) d.found) (full-later t f g h) ∙ ap (map (name_of t f)) new.found
        ∙ map-append (name_of t f) c.found (found_as tile ∷ [])
        ∙ ap (λ y. s.found ++ y ∷ []) new_name

    pub state-is : state_of t g d ≡ stepped P.real (TileOf t) (growing t f) (box_of t c.window) s u
    state-is = λ i. record { found = same_found i; open_edges = same_edges i; depth = sym step.1 i }
      where
        same_edges : (state_of t g d).open_edges ≡ (stepped P.real (TileOf t) (growing t f) (box_of t c.window) s u).open_edges
        same_edges = ap₂ (λ w ns. open_edges_of P.real (box_of t w)
            (map (λ y. tile_polygon P T.rule (λ z. z) y) ns)) new.same_window same_found ∙ sym next.open_is

    found_later : AllByRecursion (IsFound t g) c.found
    found_later = AllByRecursion-each (IsFound t f) (IsFound t g) c.found
        (λ y k. record {
          of_frame = IsTileOf-later t f g (address_found y) h right.frame k.of_frame;
          turn_below = k.turn_below;
          shift_within = k.shift_within;
          in_order = k.in_order;
        }) right.found

    found_new : IsFound t g (found_as tile)
    found_new = record {
      of_frame = subst (λ k. IsTileOf (children t) (whole g) (record { kind = k; digits = b.digits })) (sym over.its_kind) over.of_frame;
      turn_below = over.turn_below;
      shift_within = new.shift_within;
      in_order = over.in_order;
    }

    pub one_more : length d.found ≡ length c.found + 1
    one_more = ap length new.found ∙ length-append c.found (found_as tile ∷ [])

    border_is : AllZip (IsEdgeWaiting t) d.border (state_of t g d).open_edges
    border_is =
        subst (λ ws. AllZip (IsEdgeWaiting t) ws (state_of t g d).open_edges) (sym new.border)
        (subst (λ es. AllZip (IsEdgeWaiting t) (left_open new.corners (length new.corners) c.border
        ++ opened m.order c.window (length c.found) new.corners (length new.corners) c.border) es)
        (sym (ap (λ (z : SearchState P.real (TileOf t)). z.open_edges) state-is
        ∙ L.open_step G s right.state u lies_across.of_patch step.0.new
        ∙ ap next_edges (length-map c.found (name_of t f))))
        (border-next m.order L.points T L.lines L.numbered u exists tile.motion placed new.corners
        (its_corners new.corners new.are_corners) c.border s.open_edges right.border c.window
        (length c.found)))
      where
        next_edges : ℕ → List (NumberedEdge P.real)
        next_edges i =
            filter (λ n. not (is_met P.real (edges (tile_polygon P T.rule (λ z. z) u)) n.line)) s.open_edges
            ++ filter (λ n. box_test P.real n.line.from n.line.to (box_of t c.window)
            && not (closes_one P.real s.open_edges n.line))
            (edges_of_tile P.real i (tile_polygon P T.rule (λ z. z) u))

    pub right-next : IsWorking t g d
    right-next = record {
      frame = h.is_frame;
      window = subst IsWindow (sym new.same_window) right.window;
      found = subst (AllByRecursion (IsFound t g)) (sym new.found)
          (AllByRecursion-append (IsFound t g) c.found (found_as tile ∷ []) found_later (found_new, tt));
      not_too_many = omega (arith, new.room, one_more);
      state = subst (λ (w : Window). IsRightState P.real (TileOf t) (growing t g) (box_of t w) (state_of t g d)) (sym new.same_window)
          (subst (λ y. IsRightState P.real (TileOf t) (growing_frame P (is_refused m.order) T.rule y)
          (box_of t c.window) (state_of t g d)) (sym (full-later t f g h))
          (subst (IsRightState P.real (TileOf t) (growing t f) (box_of t c.window)) (sym state-is) next));
      border = border_is;
    }
