-- A turn grows the frame no deeper than is enough for the vertex.
use Rattle.std.proofs.Common.{◌≡◌, ◌<◌, ◌≤◌, ℕ, List, length, slice_get, Some, IsTrue, sym, ap, ◌∙◌, subst}
use Rattle.std.proofs.lemmas.List.{length-map}
use Rattle.theory_plane.specs.Plane.{PlanePoint}
use Rattle.theory_addresses.specs.Address.{Address}
use Rattle.theory_addresses.proofs.Ranges.{place-among}
use Rattle.cyclo_points.specs.Order.{NumberOf, points_of, is_refused}
use Rattle.theory_dissection.specs.Accepted.{AcceptedRule}
use Rattle.theory_dissection.specs.Polygons.{tile_polygon}
use Rattle.theory_walks.specs.Ancestors.{full}
use Rattle.theory_walks.specs.Boundary.{IsBoundaryEdge}
use Rattle.theory_walks.specs.Frames.{FrameValue, IsFrameOf, GrowsTo, lifted_at}
use Rattle.theory_walks.proofs.InFull.{names}
use Rattle.theory_walks.proofs.Walks.{StillFits}
use Rattle.rule_model.specs.declared.rule.Rule.{Rule}
use Rattle.rule_model.specs.Tiling.{Tiling, tiling_of, children}
use Rattle.theory_substitution.specs.Points.{Points}
use Rattle.theory_substitution.specs.RuleParts.{vertices_of, edge_count}
use Rattle.theory_substitution.specs.Supertile.{Placed}
use Rattle.tile_place.specs.Crossed.{edges_of}
use Rattle.tile_place.proofs.Plane.{IsSettled, its_rule}
use Rattle.tile_shape.specs.Views.{address_of}
use Rattle.theory_windows.specs.FramePatch.{growing_frame, frame_patch, in_frame, level_in, line_of}
use Rattle.theory_windows.specs.GrowingPatch.{GrowingPatch}
use Rattle.theory_windows.specs.Outlines.{PlaneEdge, edges, is_reverse}
use Rattle.theory_stars.specs.Corners.{edge_into, IsNext, Turns, last_corner}
use Rattle.theory_stars.proofs.CornerNumbers.{some-same}
use Rattle.star_walk.specs.declared.corner.Corner.{Corner}
use Rattle.star_walk.specs.Corners.{CornerOf, vertex_of_base}
use Rattle.star_walk.specs.Found.{its_edge, deepest_of, corner_name, base_name, IsOnTheWay, HasTurned}
use Rattle.star_walk.specs.Round.{IsLeastForVertex}
use Rattle.star_walk.specs.StarLaws.{HasStarLaws}
use Rattle.star_walk.proofs.Turning.{base-at}
use Rattle.star_walk.proofs.AtLimit.{own-edge, on-part}

module _ (m : Rule) (settled : IsSettled m) (fits : StillFits (children (tiling_of m))) (L : HasStarLaws (points_of m.order))
    (f : FrameValue) (is : IsFrameOf (tiling_of m) f) (i : ℕ) (vertex : i < edges_of (tiling_of m) f.base.kind) where
  abbrev t : Tiling
  t = tiling_of m

  abbrev P : Points
  P = points_of m.order

  abbrev T : AcceptedRule P
  T = its_rule m settled

  abbrev F : Address
  F = full t f

  abbrev v : PlanePoint P.real.ops.carrier
  v = vertex_of_base t f i

  abbrev base : CornerOf t
  base = base_name t f i

  -- the tiles of the frame as they come while it grows
  abbrev G : GrowingPatch P.real (Placed (NumberOf m.order))
  G = growing_frame P (is_refused m.order) T.rule F

  abbrev NextF : CornerOf t → CornerOf t → Type 0
  NextF = IsNext P.real (Placed (NumberOf m.order)) (frame_patch P T.rule F)

  abbrev TurnsF : CornerOf t → List (CornerOf t) → Type 0
  TurnsF = Turns P.real (Placed (NumberOf m.order)) (frame_patch P T.rule F)

  -- the corners on the way are there at an enough depth, and so is one after the last
  onward : (n : ℕ) → IsLeastForVertex t f i n → (others : List (CornerOf t)) → TurnsF base others
      → (deepest_of t f others ≤ n) × ((d : CornerOf t) × NextF (last_corner base others) d × (level_in F d.tile.address ≤ n))
  onward n enough others turns =
      L.onward G (L.simple T F (names m settled fits f is)) v (length f.digits) n enough.not_below
      ((L.off T F (names m settled fits f is) (is_refused m.order) v n enough.within).1 enough.off)
      base (base-at m settled fits L f is i vertex) others turns

  pub not_beyond-way : (g : FrameValue) (corners : List Corner) (last : Corner) → IsOnTheWay t f g i corners last
      → (n : ℕ) → IsLeastForVertex t f i n → length g.digits ≤ n
  not_beyond-way g corners last w n enough = subst (λ d. d ≤ n) (sym w.depth_is) (onward n enough w.others w.in_order).0

  pub not_beyond-turned : (g : FrameValue) (corners : List Corner) → HasTurned t f g i corners
      → (n : ℕ) → IsLeastForVertex t f i n → length g.digits ≤ n
  not_beyond-turned g corners w n enough = subst (λ d. d ≤ n) (sym w.depth_is) (onward n enough w.others w.turn.in_order).0

  -- ---- on the boundary at depth 64
  module _ (g : FrameValue) (corners : List Corner) (last : Corner) (w : IsOnTheWay t f g i corners last)
      (k : FrameValue) (h : GrowsTo t g k) (at_64 : length k.digits ≡ 64)
      (on : IsBoundaryEdge t (lifted_at t g (address_of last.tile.addr) 64) (its_edge t last)) where
    abbrev a : Address
    a = address_of last.tile.addr

    -- its tile, and the edge that ends at the vertex
    abbrev u : Placed (NumberOf m.order)
    u = in_frame P T.rule F a

    abbrev e : ℕ
    e = its_edge t last

    abbrev outline : List (PlanePoint P.real.ops.carrier)
    outline = tile_polygon P T.rule (λ z. z) u

    exists : a.kind < length T.rule.kinds
    exists = subst (λ n. a.kind < n) (length-map T.rule.kinds _) w.last_found.of_frame.fits.kind_exists

    count-is : length outline ≡ edge_count T.rule a.kind
    count-is = length-map (vertices_of T.rule a.kind) _ ∙ T.numbered.vertex_each a.kind exists

    edge-is : slice_get (edges outline) (edge_into (length outline) last.vertex) ≡ Some (line_of P T.rule u e)
    edge-is =
        ap (λ n. slice_get (edges outline) (edge_into n last.vertex)) count-is
        ∙ L.lines T u exists e (own-edge m settled fits L f is i vertex g corners last w k h at_64 on).edge_exists

    -- no corner comes after it
    no-next : (d : CornerOf t) → NextF (corner_name t f last) d → ⊥
    no-next d x =
        let part = on-part m settled fits L f is i vertex g corners last w k h at_64 on in
        absurd (L.last T F a e (own-edge m settled fits L f is i vertex g corners last w k h at_64 on)
        part.0 part.1 part.2 (is_refused m.order) d.tile (record {
          of_patch = x.of_patch;
          edge = x.out;
          among = place-among x.out (edges (tile_polygon P T.rule (λ z. z) d.tile)) d.vertex x.starts;
          back = subst (λ (l : PlaneEdge P.real). IsTrue (is_reverse P.real l x.out))
              (some-same x.into (line_of P T.rule u e) (sym x.ends ∙ edge-is)) x.back;
        }))

    -- so no depth is enough
    pub never-enough : (n : ℕ) → IsLeastForVertex t f i n → ⊥
    never-enough n enough =
        let go = onward n enough w.others w.in_order in
        no-next go.1.0 (subst (λ c. NextF c go.1.0) (sym w.last_is) go.1.1)
