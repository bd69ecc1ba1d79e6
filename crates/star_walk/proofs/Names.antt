-- Tiles of a frame by the names that they have at depth 64, and the crossing from a corner to the next one.
use Rattle.std.proofs.Common.{◌≡◌, ℕ, ◌+◌, ◌*◌, ◌<◌, ◌≤◌, ◌^◌, max, length, sym, ap, ◌∙◌, subst, arith}
use Rattle.theory_addresses.specs.Address.{Address}
use Rattle.theory_addresses.specs.Tables.{child_kinds}
use Rattle.cyclo_points.specs.Order.{NumberOf, points_of}
use Rattle.cyclo_points.proofs.Within.{point_wider}
use Rattle.theory_dissection.specs.Accepted.{AcceptedRule}
use Rattle.theory_dissection.specs.Across.{IsTileAcross}
use Rattle.theory_dissection.specs.OnBoundary.{IsOnBoundary}
use Rattle.theory_dissection.specs.TileEdges.{tile_at}
use Rattle.theory_edge_to_edge.specs.Contacts.{tables_of}
use Rattle.theory_frames.specs.Frame.{IsTileOf, lifted_in}
use Rattle.theory_walks.specs.Ancestors.{full}
use Rattle.lazy_walk.specs.Crossed.{IsCrossedTo}
use Rattle.theory_walks.specs.Frames.{FrameValue, whole, at_depth, IsFrameOf, GrowsTo}
use Rattle.theory_walks.proofs.Ancestors.{level-at}
use Rattle.theory_walks.proofs.Crossings.{boundary-part}
use Rattle.theory_walks.proofs.InFull.{names, deep, by_tables, level-own, level-grown, same-full}
use Rattle.theory_walks.proofs.Lifting.{IsTileOf-later}
use Rattle.theory_walks.proofs.Walks.{StillFits, later}
use Rattle.rule_model.specs.declared.rule.Rule.{Rule}
use Rattle.rule_model.specs.Tiling.{Tiling, tiling_of, children}
use Rattle.theory_substitution.specs.Motion.{followed}
use Rattle.theory_substitution.specs.Points.{Points}
use Rattle.theory_substitution.specs.RuleParts.{edge_count}
use Rattle.theory_substitution.specs.Supertile.{Placed}
use Rattle.tile_place.proofs.Plane.{IsSettled, its_rule}
use Rattle.tile_shape.specs.Views.{address_of}
use Rattle.theory_windows.specs.FramePatch.{in_frame, level_in, frame_patch}
use Rattle.theory_windows.specs.FrameSearch.{IsGrownCrossing}
use Rattle.theory_stars.specs.Corners.{IsNext}
use Rattle.star_walk.specs.declared.corner.Corner.{Corner}
use Rattle.star_walk.specs.Found.{its_edge, IsFoundInTurn, corner_name}
use Rattle.star_walk.specs.StarLaws.{HasStarLaws}

module _ (m : Rule) (settled : IsSettled m) (fits : StillFits (children (tiling_of m)))
    (L : HasStarLaws (points_of m.order)) (f : FrameValue) (is : IsFrameOf (tiling_of m) f) where
  abbrev t : Tiling
  t = tiling_of m

  abbrev P : Points
  P = points_of m.order

  abbrev T : AcceptedRule P
  T = its_rule m settled

  abbrev F : Address
  F = full t f

  module _ (g : FrameValue) (h : GrowsTo t f g) where
    module _ (a b : Corner) (n : ℕ) (found : IsFoundInTurn t f n a)
        (vertex_exists : its_edge t a < edge_count T.rule a.tile.addr.kind)
        (x : IsCrossedTo t f g (address_of a.tile.addr) a.tile.motion (its_edge t a) b.tile b.vertex) where
      abbrev own : Address
      own = address_of a.tile.addr

      abbrev other : Address
      other = address_of b.tile.addr

      grown : IsGrownCrossing P T F (length f.digits) (length g.digits) own (its_edge t a) other b.vertex
      grown = record {
        frame = names m settled fits f is;
        not_below = h.no_shallower;
        within = omega (arith, h.is_frame.at_most_64, deep m settled fits f is);
        tile = subst (λ y. IsTileOf (child_kinds (tables_of P T.rule)) y own)
            (sym (level-own m settled fits f is)) (by_tables m settled fits f is (whole f) own
            found.of_frame);
        edge_exists = vertex_exists;
        across = subst (λ y. IsTileAcross P T.rule (tile_at P T.rule (lifted_in y own)) (its_edge t a)
            (tile_at P T.rule other) b.vertex) (sym (level-grown m settled fits f is g h))
            x.only_tile_across.across;
        least = λ k l j.
            let on = boundary-part m fits f own is found.of_frame settled (its_edge t a) vertex_exists
            (at_depth t k f) (later t f k is l (omega (arith, j, h.is_frame.at_most_64)))
            (x.least k l j) in (
              on.0,
              on.1,
              subst (λ y. IsOnBoundary P T.rule (tile_at P T.rule (lifted_in y own)) (its_edge t a)
                  on.0 on.1) (sym (level-at t f is k l (omega (arith, j, h.is_frame.at_most_64)))) on.2,
            );
      }

      -- it is the next corner, and the frame has grown to its level, where it wasn't as deep already
      pub next-named : IsNext P.real (Placed (NumberOf m.order)) (frame_patch P T.rule F) (corner_name t f a)
          (corner_name t f b) × (max (length f.digits) (level_in F (lifted_in F other)) ≡ length g.digits)
      next-named = L.next T F (length f.digits) (length g.digits) own a.vertex other b.vertex grown

      -- and found in its place
      pub next-found : IsFoundInTurn t g (n + 1) b
      next-found = record {
        its_kind = x.its_kind;
        of_frame = x.of_frame;
        motion_is =
            x.motion_is ∙ ap (λ k. followed P x.glue k) found.motion_is
            ∙ sym (L.glued T F (length f.digits) (length g.digits) own (its_edge t a) other b.vertex grown x.glue x.glues)
            ∙ ap (λ y. (in_frame P T.rule y other).motion) (sym (same-full m settled fits f is g h));
        turn_below = x.turn_below;
        shift_within = point_wider (2 ^ 8 * n + 2 ^ 8) (2 ^ 8 * (n + 1)) _ (omega arith) (x.shift_within (2 ^ 8 * n) found.shift_within);
        in_order = x.in_order;
      }

    -- what was found before stays found
    pub found-later : (n k : ℕ) → n ≤ k → (c : Corner) → IsFoundInTurn t f n c → IsFoundInTurn t g k c
    found-later n k le c found = record {
      its_kind = found.its_kind;
      of_frame = IsTileOf-later t f g (address_of c.tile.addr) h is found.of_frame;
      motion_is = found.motion_is ∙ ap (λ y. (in_frame P T.rule y (address_of c.tile.addr)).motion) (sym (same-full m settled fits f is g h));
      turn_below = found.turn_below;
      shift_within = point_wider (2 ^ 8 * n) (2 ^ 8 * k) _ (omega (arith, le)) found.shift_within;
      in_order = found.in_order;
    }
