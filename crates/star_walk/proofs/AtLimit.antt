-- A turn that stops at an edge on the boundary at depth 64.
use Rattle.std.proofs.Common.{◌≡◌, ℕ, ◌<◌, List, length, sym, ap, ◌∙◌, subst, arith}
use Rattle.theory_plane.specs.Plane.{PlanePoint}
use Rattle.theory_addresses.specs.Address.{Address, depth}
use Rattle.cyclo_points.specs.Order.{NumberOf, points_of, is_refused}
use Rattle.theory_dissection.specs.Accepted.{AcceptedRule}
use Rattle.theory_frames.specs.Frame.{at_level, lifted_in}
use Rattle.theory_walks.specs.Ancestors.{full}
use Rattle.theory_walks.specs.Boundary.{IsBoundaryEdge}
use Rattle.theory_walks.specs.Frames.{FrameValue, whole, at_depth, IsFrameOf, GrowsTo, lifted_at}
use Rattle.theory_walks.proofs.Ancestors.{full-later}
use Rattle.theory_walks.proofs.Crossings.{boundary-part}
use Rattle.theory_walks.proofs.InFull.{names, deep, tile-full, whole-level, level-grown}
use Rattle.theory_walks.proofs.Walks.{StillFits, GrowsTo-then, later}
use Rattle.rule_model.specs.declared.rule.Rule.{Rule}
use Rattle.rule_model.specs.Tiling.{Tiling, tiling_of, children}
use Rattle.theory_substitution.specs.Plane.{plane_point}
use Rattle.theory_substitution.specs.Points.{Points}
use Rattle.theory_substitution.specs.RuleParts.{edge_count, vertex as vertex_at}
use Rattle.theory_substitution.specs.Supertile.{Placed}
use Rattle.tile_place.specs.Crossed.{edges_of, LiesOnBoundary}
use Rattle.tile_place.proofs.Plane.{IsSettled, its_rule}
use Rattle.tile_shape.specs.declared.address.Address as program
use Rattle.tile_shape.specs.Views.{address_of}
use Rattle.theory_windows.specs.FrameLaws.{IsEdgeInFrame}
use Rattle.theory_windows.specs.FramePatch.{growing_frame, frame_patch}
use Rattle.theory_windows.specs.GrowingPatch.{GrowingPatch}
use Rattle.theory_stars.specs.Corners.{IsCornerAt}
use Rattle.theory_stars.specs.EnoughAt.{IsEnoughAt}
use Rattle.star_walk.specs.declared.corner.Corner.{Corner}
use Rattle.star_walk.specs.declared.star_fault.StarFault.TheVariants.{DepthLimit}
use Rattle.star_walk.specs.Causes.{HasStarCause, IsStarWithinLimits}
use Rattle.star_walk.specs.Corners.{vertex_of_base}
use Rattle.star_walk.specs.Found.{its_edge, corner_name, IsOnTheWay}
use Rattle.star_walk.specs.StarLaws.{HasStarLaws}
use Rattle.star_walk.proofs.Turning as turning

module _ (m : Rule) (settled : IsSettled m) (fits : StillFits (children (tiling_of m)))
    (L : HasStarLaws (points_of m.order)) (f : FrameValue) (is : IsFrameOf (tiling_of m) f) (i : ℕ)
    (vertex : i < edges_of (tiling_of m) f.base.kind) (g : FrameValue) (corners : List Corner) (last : Corner)
    (w : IsOnTheWay (tiling_of m) f g i corners last)
    (k : FrameValue) (h : GrowsTo (tiling_of m) g k) (at_64 : length k.digits ≡ 64)
    (on : IsBoundaryEdge (tiling_of m) (lifted_at (tiling_of m) g (address_of last.tile.addr) 64)
    (its_edge (tiling_of m) last)) where
  abbrev t : Tiling
  t = tiling_of m

  abbrev P : Points
  P = points_of m.order

  abbrev T : AcceptedRule P
  T = its_rule m settled

  abbrev F : Address
  F = full t f

  abbrev v : PlanePoint P.real.ops.carrier
  v = vertex_of_base t f i

  -- the tiles of the frame as they come while it grows
  abbrev G : GrowingPatch P.real (Placed (NumberOf m.order))
  G = growing_frame P (is_refused m.order) T.rule F

  abbrev now : IsFrameOf t g
  now = w.grows.is_frame

  same : full t g ≡ F
  same = full-later t f g w.grows

  below : its_edge t last < edge_count T.rule last.tile.addr.kind
  below = turning.edge-below m settled fits L f is i vertex g corners last w

  abbrev a : Address
  a = address_of last.tile.addr

  pub own-edge : IsEdgeInFrame P T F a (its_edge t last)
  own-edge = subst (λ y. IsEdgeInFrame P T y a (its_edge t last)) same
      (record { frame = names m settled fits g now; tile = tile-full m settled fits g now a w.last_found.of_frame; edge_exists = below })

  pub on-part : (own : ℕ) × (part : ℕ) × LiesOnBoundary t (lifted_in F a) (its_edge t last) own part
  on-part = subst (λ y. (own : ℕ) × (part : ℕ) × LiesOnBoundary t (lifted_in y a) (its_edge t last) own part) same
      (boundary-part m fits g a now w.last_found.of_frame settled (its_edge t last) below
      (at_depth t 64 g) (later t g 64 now now.at_most_64 (omega arith)) on)

  pub not_limited : IsStarWithinLimits t f i → ⊥
  not_limited limits =
      let d = deep m settled fits f is in
      let enough = (L.off T F (names m settled fits f is) (is_refused m.order) v 64 (omega (arith, d))).1 limits.enough in
      absurd (L.stop T F (is_refused m.order) v a last.vertex own-edge
      (turning.last-at m settled fits L f is i vertex g corners last w) on-part.0 on-part.1 on-part.2
      (subst (λ n. IsEnoughAt P.real (Placed (NumberOf m.order)) G v n) (sym d) enough))

  pub limited : (addr : program.Address) (edge : ℕ) → address_of addr ≡ lifted_at t g a 64
      → edge ≡ its_edge t last → HasStarCause t k i (DepthLimit addr edge)
  limited addr edge named same-edge = record {
    at_64 = at_64;
    corner = corner_name t f last;
    its_address = sym (named ∙ ap (λ y. lifted_in y a) same);
    at_vertex = subst (λ y. IsCornerAt P.real (Placed (NumberOf m.order)) (frame_patch P T.rule y)
        (vertex_of_base t k i) (corner_name t f last)) whole-is
        (subst (λ (y : Address). IsCornerAt P.real (Placed (NumberOf m.order)) (frame_patch P T.rule F)
        (plane_point P (vertex_at P T.rule y.kind i)) (corner_name t f last)) (sym both.same_base)
        (turning.last-at m settled fits L f is i vertex g corners last w));
    its_edge = same-edge;
    on_boundary = subst (IsBoundaryEdge t (address_of addr)) (sym same-edge) (subst (λ y. IsBoundaryEdge t y (its_edge t last)) (sym named) on);
  }
    where
      both : GrowsTo t f k
      both = GrowsTo-then t f g k w.grows h

      whole-is : F ≡ whole k
      whole-is = sym (whole-level m settled fits f is)
          ∙ ap (at_level F) (deep m settled fits f is ∙ sym at_64)
          ∙ level-grown m settled fits f is k both
