-- Where the first open edge is on the boundary at depth 64.
use Rattle.std.proofs.Common.{◌≡◌, ℕ, ◌<◌, inl, Some, length, slice_get, refl, sym, ap, ◌∙◌, subst, arith}
use Rattle.theory_addresses.specs.Address.{Address}
use Rattle.theory_addresses.specs.Search.{IsAmong}
use Rattle.theory_addresses.proofs.Lists.{AllByRecursion-among}
use Rattle.theory_addresses.proofs.Ranges.{place-among, slice_get-image}
use Rattle.cyclo_points.specs.Order.{points_of, is_refused}
use Rattle.theory_dissection.specs.Accepted.{AcceptedRule}
use Rattle.theory_frames.specs.Frame.{at_level, frame_tiles, lifted_in}
use Rattle.theory_walks.specs.Ancestors.{full}
use Rattle.theory_walks.specs.Boundary.{IsBoundaryEdge}
use Rattle.theory_walks.specs.Frames.{FrameValue, whole, at_depth, GrowsTo}
use Rattle.theory_walks.proofs.Ancestors.{full-later}
use Rattle.theory_walks.proofs.Crossings.{boundary-part}
use Rattle.theory_walks.proofs.Walks.{StillFits, later}
use Rattle.rule_model.specs.declared.rule.Rule.{Rule}
use Rattle.rule_model.specs.Tiling.{Tiling, tiling_of, children}
use Rattle.theory_substitution.specs.Points.{Points}
use Rattle.tile_place.specs.Crossed.{LiesOnBoundary}
use Rattle.tile_place.proofs.Plane.{IsSettled, its_rule}
use Rattle.tile_shape.specs.declared.address.Address as program
use Rattle.tile_shape.specs.Views.{address_of}
use Rattle.theory_windows.specs.FrameLaws.{IsEdgeInFrame}
use Rattle.theory_windows.specs.FramePatch.{in_frame, line_of}
use Rattle.theory_windows.specs.FrameWindow.{IsLeastDepth, IsWindowWithin}
use Rattle.theory_substitution.specs.RuleParts.{edge_count}
use Rattle.theory_windows.specs.Outlines.{MeetsBox}
use Rattle.theory_windows.specs.Refusals as patch
use Rattle.theory_windows.specs.SearchState.{SearchState}
use Rattle.window_cover.specs.declared.open_edge.OpenEdge.{OpenEdge}
use Rattle.window_cover.specs.Border.{first_waiting}
use Rattle.window_cover.specs.Causes.{IsCoverDepthLimit}
use Rattle.window_cover.specs.Found.{Found, address_found}
use Rattle.window_cover.specs.Limits.{IsCoverWithinLimits}
use Rattle.theory_windows.specs.Limits.{most_tiles}
use Rattle.window_cover.specs.Right.{name_of, growing}
use Rattle.window_cover.specs.SearchLaws.{HasSearchLaws}
use Rattle.window_cover.specs.Windows.{TileOf, box_of, IsLeastForWindow}
use Rattle.window_cover.specs.Working.{Working, state_of, IsWorking}
use Rattle.theory_walks.proofs.InFull.{names, deep, level-grown, tile-full, whole-level}
use Rattle.window_cover.proofs.Names.{window-on, its_found, found-at, name-at, edge-exists}
use Rattle.window_cover.proofs.NextState.{FirstIn, first-in}

module _ (m : Rule) (settled : IsSettled m) (fits : StillFits (children (tiling_of m)))
    (L : HasSearchLaws (points_of m.order)) (f : FrameValue) (c : Working)
    (right : IsWorking (tiling_of m) f c)
    (first : OpenEdge) (is_first : first_waiting c.border ≡ Some first) (x : Found) (at : slice_get c.found first.tile ≡ Some x)
    (on : IsBoundaryEdge (tiling_of m) (lifted_in (full (tiling_of m) f) (address_found x)) first.edge) where
  abbrev t : Tiling
  t = tiling_of m

  abbrev P : Points
  P = points_of m.order

  abbrev T : AcceptedRule P
  T = its_rule m settled

  abbrev F : Address
  F = full t f

  abbrev s : SearchState P.real (TileOf t)
  s = state_of t f c

  abbrev a : Address
  a = address_found x

  one : FirstIn t s.open_edges first
  one = first-in t c.border s.open_edges first right.border is_first

  among : IsAmong one.edge s.open_edges
  among = subst (λ es. IsAmong one.edge es) (sym one.is) (inl refl)

  at_o : slice_get c.found one.edge.tile ≡ Some x
  at_o = subst (λ i. slice_get c.found i ≡ Some x) one.same_tile at

  here : IsBoundaryEdge t (lifted_in F a) one.edge.edge
  here = subst (IsBoundaryEdge t (lifted_in F a)) one.same_edge on

  own_edge : IsEdgeInFrame P T F a one.edge.edge
  own_edge = record {
    frame = names m settled fits f right.frame;
    tile = tile-full m settled fits f right.frame a (its_found m settled fits L f right.frame c right first.tile x at).of_frame;
    edge_exists = edge-exists m settled fits L f right.frame c right one.edge among x at_o;
  }

  on_part : (own : ℕ) × (part : ℕ) × LiesOnBoundary t (lifted_in F a) one.edge.edge own part
  on_part =
      boundary-part m fits f a right.frame (its_found m settled fits L f right.frame c right first.tile x
      at).of_frame settled one.edge.edge own_edge.edge_exists (at_depth t 64 f)
      (later t f 64 right.frame right.frame.at_most_64 (omega arith)) here

  stop : patch.IsDepthLimit P.real (TileOf t) (growing t f) (box_of t c.window)
      (line_of P T.rule (in_frame P T.rule F a) one.edge.edge) (in_frame P T.rule F a)
      × ((n limit : ℕ) → ¬ IsWindowWithin P (is_refused m.order) T.rule F (box_of t c.window) n limit)
  stop = L.stop T F (is_refused m.order) (box_of t c.window) (window-on m settled fits L f right.frame c right) s right.state one.edge among a
      (found-at m settled fits L f right.frame c right one.edge.tile x at_o) own_edge on_part.0 on_part.1 on_part.2

  pub not_enough : (f0 : FrameValue) (n : ℕ) → GrowsTo t f0 f → ¬ IsLeastForWindow t f0 c.window n
  not_enough f0 n grows enough =
      let d = deep m settled fits f right.frame in
      let least = (L.least T F (names m settled fits f right.frame) (is_refused m.order) (box_of t c.window)
      (length f0.digits) n (omega (arith, d, grows.no_shallower, right.frame.at_most_64))).0
      (subst (λ y. IsLeastDepth P T.rule y (box_of t c.window) (length f0.digits) n) (sym (full-later t f0 f grows)) enough) in
      stop.0.none_enough n least.enough

  pub not_within : (f0 : FrameValue) → GrowsTo t f0 f → ¬ IsCoverWithinLimits t f0 c.window
  not_within f0 grows within =
      stop.1 (length f0.digits) most_tiles (subst
      (λ y. IsWindowWithin P (is_refused m.order) T.rule y (box_of t c.window) (length f0.digits)
      most_tiles) (sym (full-later t f0 f grows)) within.drawn_within)

  pub depth_limit : (g : FrameValue) → GrowsTo t f g → length g.digits ≡ 64 → (addr : program.Address)
      → address_of addr ≡ lifted_in F a → (edge : ℕ) → edge ≡ first.edge → IsCoverDepthLimit t g c.window addr edge
  depth_limit g h at_64 addr named edge same = record {
    at_64 = at_64;
    tile = in_frame P T.rule F a;
    its_address = sym named;
    of_frame = subst (λ y. IsAmong (in_frame P T.rule F a) (frame_tiles P T.rule y)) whole_is
        (subst (λ y. IsAmong y (frame_tiles P T.rule F)) (name-at m settled fits L f right.frame c right first.tile x at)
        (AllByRecursion-among (λ z. IsAmong z (frame_tiles P T.rule F)) (name_of t f x) s.found
        (place-among (name_of t f x) s.found first.tile
        (slice_get-image (name_of t f) x c.found first.tile at)) right.state.of_patch));
    tile_meets = stop.0.tile_meets;
    edge_exists = subst (λ e. e < edge_count T.rule a.kind) (sym its_edge) own_edge.edge_exists;
    edge_meets = subst (λ e. MeetsBox P.real (box_of t c.window) (line_of P T.rule (in_frame P T.rule F a) e)) (sym its_edge) stop.0.edge_meets;
    on_boundary = subst (IsBoundaryEdge t (lifted_in F a)) (sym its_edge) here;
  }
    where
      its_edge : edge ≡ one.edge.edge
      its_edge = same ∙ one.same_edge

      whole_is : F ≡ whole g
      whole_is =
          sym (whole-level m settled fits f right.frame) ∙ ap (at_level F) (deep m settled fits f right.frame ∙ sym at_64)
          ∙ level-grown m settled fits f right.frame g h
