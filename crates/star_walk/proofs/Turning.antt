-- The states of the turn: the first, and what each has.
use Rattle.std.proofs.Common.{◌≡◌, ℕ, zero, suc, ◌*◌, ◌^◌, ◌<◌, ◌≤◌, List, [], ◌∷◌, length, refl, sym, ap, ◌∙◌, subst, arith}
use Rattle.std.proofs.lemmas.List.{length-map}
use Rattle.std.proofs.lemmas.Option.{slice_get_within}
use Rattle.theory_plane.specs.Plane.{PlanePoint}
use Rattle.theory_addresses.specs.Address.{Address, depth}
use Rattle.cyclo_points.specs.Order.{NumberOf, points_of, is_refused}
use Rattle.cyclo_points.specs.Motion.{motion_in}
use Rattle.cyclo_points.specs.Point.{IsWithin}
use Rattle.cyclo_points.proofs.Within.{point_wider}
use Rattle.theory_dissection.specs.Accepted.{AcceptedRule}
use Rattle.theory_dissection.specs.Polygons.{tile_polygon}
use Rattle.theory_frames.specs.Frame.{at_level, IsTileOf, motion_beside}
use Rattle.theory_frames.proofs.Carried.{some_turn}
use Rattle.theory_frames.proofs.Frames.{IsWhole, StandsInFrame-whole}
use Rattle.theory_walks.specs.Ancestors.{full}
use Rattle.theory_walks.specs.Frames.{FrameValue, whole, at_depth, IsFrameOf}
use Rattle.lazy_walk.specs.Standing.{Stands}
use Rattle.theory_walks.proofs.Ancestors.{full-later}
use Rattle.theory_walks.proofs.InFull.{names, deep, level-own}
use Rattle.theory_walks.proofs.Walked.{tile_of-whole}
use Rattle.theory_walks.proofs.Walks.{StillFits, GrowsTo-self}
use Rattle.rule_model.specs.declared.rule.Rule.{Rule}
use Rattle.rule_model.specs.Tiling.{Tiling, tiling_of, children}
use Rattle.theory_substitution.specs.Points.{Points}
use Rattle.theory_substitution.specs.RuleParts.{vertices_of, edge_count}
use Rattle.theory_substitution.specs.Supertile.{Placed}
use Rattle.tile_place.specs.declared.placed_tile.PlacedTile.{PlacedTile}
use Rattle.tile_place.specs.Crossed.{edges_of}
use Rattle.tile_place.proofs.Plane.{IsSettled, its_rule}
use Rattle.tile_shape.specs.Views.{address_of}
use Rattle.theory_windows.specs.FramePatch.{growing_frame, frame_patch}
use Rattle.theory_windows.specs.GrowingPatch.{GrowingPatch}
use Rattle.theory_stars.specs.Corners.{IsCornerAt, edge_into, last_corner}
use Rattle.theory_stars.specs.FrameStar.{corner_named}
use Rattle.theory_stars.specs.GrownStar.{IsCornerOfDepth}
use Rattle.theory_stars.specs.Round.{IsSimplyDissected}
use Rattle.theory_stars.proofs.Turning.{turn-at, last-among}
use Rattle.star_walk.specs.declared.corner.Corner.{Corner}
use Rattle.star_walk.specs.Corners.{CornerOf, vertex_of_base}
use Rattle.star_walk.specs.Found.{its_edge, IsFoundInTurn, corner_name, base_name, IsOnTheWay}
use Rattle.star_walk.specs.StarLaws.{HasStarLaws}

edge_into-below : (n i : ℕ) → i < n → edge_into n i < n
edge_into-below zero i h = absurd (omega arith)
edge_into-below (suc n) zero h = omega arith
edge_into-below (suc n) (suc i) h = omega arith

module _ (m : Rule) (settled : IsSettled m) (fits : StillFits (children (tiling_of m)))
    (L : HasStarLaws (points_of m.order)) (f : FrameValue) (is : IsFrameOf (tiling_of m) f) (i : ℕ)
    (vertex : i < edges_of (tiling_of m) f.base.kind) where
  abbrev t : Tiling
  t = tiling_of m

  abbrev P : Points
  P = points_of m.order

  abbrev T : AcceptedRule P
  T = its_rule m settled

  abbrev F : Address
  F = full t f

  abbrev v : PlanePoint P.real.ops.carrier
  v = vertex_of_base t f i

  abbrev base : CornerOf t
  base = base_name t f i

  -- the tiles of the frame as they come while it grows
  abbrev G : GrowingPatch P.real (Placed (NumberOf m.order))
  G = growing_frame P (is_refused m.order) T.rule F

  abbrev AtF : CornerOf t → Type 0
  AtF = IsCornerAt P.real (Placed (NumberOf m.order)) (frame_patch P T.rule F) v

  simple : IsSimplyDissected P.real (Placed (NumberOf m.order)) (frame_patch P T.rule F)
  simple = L.simple T F (names m settled fits f is)

  few : length f.digits ≤ depth F
  few = omega (arith, is.at_most_64, deep m settled fits f is)

  -- ---- the base
  pub base-at : IsCornerOfDepth P.real (Placed (NumberOf m.order)) G v (length f.digits) base
  base-at =
      subst (λ a. IsCornerOfDepth P.real (Placed (NumberOf m.order)) G v (length f.digits)
      (corner_named P T.rule F a i)) (level-own m settled fits f is)
      (L.base T F (names m settled fits f is) (is_refused m.order) (length f.digits) few i vertex)

  -- ---- the edge at a corner
  corner-below : (g : Address) (c : Corner) → IsTileOf (children t) g (address_of c.tile.addr)
      → AtF (corner_name t f c) → c.vertex < edge_count T.rule c.tile.addr.kind
  corner-below g c of at =
      subst (λ n. c.vertex < n) (length-map (vertices_of T.rule c.tile.addr.kind) _
      ∙ T.numbered.vertex_each c.tile.addr.kind
      (subst (λ n. c.tile.addr.kind < n) (length-map T.rule.kinds _) of.fits.kind_exists))
      (slice_get_within (tile_polygon P T.rule (λ z. z) (corner_name t f c).tile) c.vertex v at.1)

  -- ---- the first state
  pub started : (tile : PlacedTile) → address_of tile.addr ≡ whole f → Stands t f tile
      → IsWithin 0 tile.motion.shift → IsOnTheWay t f f i (record { tile = tile; vertex = i } ∷ [])
      (record { tile = tile; vertex = i })
  started tile named stands origin = record {
    grows = GrowsTo-self t f is;
    found = (found, tt);
    last_found = found;
    others = [];
    names_are = ap (λ a. corner_named P T.rule F a i ∷ []) named;
    last_is = ap (λ a. corner_named P T.rule F a i) named;
    in_order = tt;
    not_back = λ j. elim j [ ];
    depth_is = refl;
  }
    where
      own : IsWhole (children t) (whole f) (address_of tile.addr)
      own = tile_of-whole (children t) (whole f) (address_of tile.addr) stands.of_frame stands.at_depth

      beside : motion_beside P T.rule (whole f).digits (address_of tile.addr).digits ≡ motion_in m.order tile.motion
      beside = stands.in_frame.alone _ (StandsInFrame-whole P L.points (some_turn m.order) T.rule (whole f) (address_of tile.addr) own).among

      found : IsFoundInTurn t f 1 (record { tile = tile; vertex = i })
      found = record {
        its_kind = stands.its_kind;
        of_frame = stands.of_frame;
        motion_is = sym beside ∙ ap (λ (a : Address). motion_beside P T.rule a.digits (address_of tile.addr).digits)
            (sym (ap (at_level F) stands.at_depth ∙ level-own m settled fits f is));
        turn_below = stands.turn_below;
        shift_within = point_wider 0 (2 ^ 8 * 1) _ (omega arith) origin;
        in_order = stands.in_order;
      }

  -- ---- on the way
  module _ (g : FrameValue) (corners : List Corner) (last : Corner) (w : IsOnTheWay t f g i corners last) where
    abbrev now : IsFrameOf t g
    now = w.grows.is_frame

    same : full t g ≡ F
    same = full-later t f g w.grows

    pub last-at : AtF (corner_name t f last)
    last-at = subst AtF (sym w.last_is)
        (turn-at P.real L.points.of_real L.points.of_order (frame_patch P T.rule F) simple v base w.others
        base-at.0 w.in_order (last_corner base w.others)
        (last-among P.real L.points.of_real L.points.of_order (frame_patch P T.rule F) simple v base w.others))

    pub last-exists : last.vertex < edges_of t last.tile.addr.kind
    last-exists = corner-below (whole g) last w.last_found.of_frame last-at

    pub edge-below : its_edge t last < edge_count T.rule last.tile.addr.kind
    edge-below = edge_into-below _ last.vertex last-exists
