-- A turn with one tile too many.
use Rattle.std.proofs.Common.{◌≡◌, inl, inr, ℕ, suc, ◌+◌, ◌<◌, ◌≤◌, List, [], ◌∷◌, ◌++◌, length, sym, ap, ◌∙◌, subst, arith, length-append}
use Rattle.std.specs.List.{AllByRecursion}
use Rattle.std.proofs.lemmas.List.{length-map}
use Rattle.theory_plane.specs.Plane.{PlanePoint}
use Rattle.theory_addresses.specs.Address.{Address}
use Rattle.theory_addresses.specs.Search.{IsAmong}
use Rattle.theory_addresses.proofs.Lists.{AllByRecursion-among, AllByRecursion-from}
use Rattle.cyclo_points.specs.Order.{NumberOf, points_of, is_refused}
use Rattle.theory_dissection.specs.Accepted.{AcceptedRule}
use Rattle.theory_frames.specs.Frame.{at_level}
use Rattle.theory_walks.specs.Ancestors.{full}
use Rattle.lazy_walk.specs.Crossed.{IsCrossedTo}
use Rattle.theory_walks.specs.Frames.{FrameValue, whole, IsFrameOf, GrowsTo}
use Rattle.theory_walks.proofs.InFull.{names, level-grown}
use Rattle.theory_walks.proofs.Walks.{StillFits}
use Rattle.rule_model.specs.declared.rule.Rule.{Rule}
use Rattle.rule_model.specs.Tiling.{Tiling, tiling_of, children}
use Rattle.theory_substitution.specs.Plane.{plane_point}
use Rattle.theory_substitution.specs.Points.{Points}
use Rattle.theory_substitution.specs.RuleParts.{vertex as vertex_at}
use Rattle.theory_substitution.specs.Supertile.{Placed}
use Rattle.tile_place.specs.Crossed.{edges_of}
use Rattle.tile_place.proofs.Plane.{IsSettled, its_rule}
use Rattle.tile_shape.specs.Views.{address_of}
use Rattle.theory_windows.specs.Distinct.{AreDistinct}
use Rattle.theory_windows.specs.FramePatch.{growing_frame, frame_patch, level_in}
use Rattle.theory_windows.specs.GrowingPatch.{GrowingPatch}
use Rattle.theory_stars.specs.Corners.{IsCornerAt, IsNext, last_corner, corner_tiles}
use Rattle.theory_stars.specs.FrameStar.{AreAtVertex}
use Rattle.theory_stars.specs.GrownStar.{IsCornerOfDepth}
use Rattle.theory_stars.specs.Round.{IsSimplyDissected}
use Rattle.theory_stars.proofs.GrownStar.{each-level}
use Rattle.star_walk.specs.declared.corner.Corner.{Corner}
use Rattle.star_walk.specs.declared.star_fault.StarFault.TheVariants.{TooBig}
use Rattle.star_walk.specs.Causes.{HasStarCause, IsStarWithinLimits}
use Rattle.star_walk.specs.Corners.{CornerOf, vertex_of_base}
use Rattle.star_walk.specs.Found.{its_edge, corner_name, base_name, IsOnTheWay}
use Rattle.star_walk.specs.StarLaws.{HasStarLaws}
use Rattle.star_walk.proofs.Turning.{base-at}
use Rattle.star_walk.proofs.Stepped as stepped

module _ (m : Rule) (settled : IsSettled m) (fits : StillFits (children (tiling_of m)))
    (L : HasStarLaws (points_of m.order)) (f : FrameValue) (is : IsFrameOf (tiling_of m) f) (i : ℕ)
    (vertex : i < edges_of (tiling_of m) f.base.kind) (g : FrameValue) (corners : List Corner) (last : Corner)
    (w : IsOnTheWay (tiling_of m) f g i corners last)
    (k : FrameValue) (h : GrowsTo (tiling_of m) g k) (b : Corner)
    (x : IsCrossedTo (tiling_of m) g k (address_of last.tile.addr) last.tile.motion
    (its_edge (tiling_of m) last) b.tile b.vertex) (other : address_of b.tile.addr ≡ whole k → ⊥) where
  abbrev t : Tiling
  t = tiling_of m

  abbrev P : Points
  P = points_of m.order

  abbrev T : AcceptedRule P
  T = its_rule m settled

  abbrev F : Address
  F = full t f

  abbrev v : PlanePoint P.real.ops.carrier
  v = vertex_of_base t f i

  abbrev base : CornerOf t
  base = base_name t f i

  -- the tiles of the frame as they come while it grows
  abbrev G : GrowingPatch P.real (Placed (NumberOf m.order))
  G = growing_frame P (is_refused m.order) T.rule F

  abbrev AtF : CornerOf t → Type 0
  AtF = IsCornerAt P.real (Placed (NumberOf m.order)) (frame_patch P T.rule F) v

  abbrev NextF : CornerOf t → CornerOf t → Type 0
  NextF = IsNext P.real (Placed (NumberOf m.order)) (frame_patch P T.rule F)

  simple : IsSimplyDissected P.real (Placed (NumberOf m.order)) (frame_patch P T.rule F)
  simple = L.simple T F (names m settled fits f is)

  own-base : IsCornerOfDepth P.real (Placed (NumberOf m.order)) G v (length f.digits) base
  own-base = base-at m settled fits L f is i vertex

  both : GrowsTo t f k
  both = stepped.both m settled fits L f is i vertex g corners last w k h b x

  next : NextF (last_corner base w.others) (corner_name t f b)
  next = (stepped.next m settled fits L f is i vertex g corners last w k h b x).0

  new : corner_name t f b ≡ base → ⊥
  new e = stepped.new m settled fits L f is i vertex g corners last w k h b x other e

  abbrev many : List (CornerOf t)
  many = base ∷ w.others ++ corner_name t f b ∷ []

  counted : AreDistinct (corner_tiles many) × AllByRecursion AtF many
  counted = L.count G simple v base own-base.0 w.others w.in_order (λ j. absurd (w.not_back j)) (corner_name t f b) next
      (λ e. absurd (new e))

  levels : (c : CornerOf t) → IsAmong c many → level_in F c.tile.address ≤ length k.digits
  levels c (inl e) =
      subst (λ (d : CornerOf t). level_in F d.tile.address ≤ length k.digits) (sym e) (omega (arith, own-base.1, both.no_shallower))
  levels c (inr j) = subst (λ n. level_in F c.tile.address ≤ n)
      (sym (stepped.depth-more m settled fits L f is i vertex g corners last w k h b x))
      (each-level P.real L.points.of_real L.points.of_order G (length f.digits) (w.others ++ corner_name t f b ∷ []) c j)

  one_more : length (w.others ++ corner_name t f b ∷ []) ≡ length w.others + 1
  one_more = length-append w.others (corner_name t f b ∷ [])

  count-is : suc (length w.others) ≡ length corners
  count-is = ap length (sym w.names_are) ∙ length-map corners (corner_name t f)

  long : length corners ≡ 64 → length many ≡ 65
  long full = let rest : length (w.others ++ corner_name t f b ∷ []) ≡ 64 = one_more ∙ omega (arith, count-is, full) in ap suc rest

  pub too_big : length corners ≡ 64 → HasStarCause t k i TooBig
  too_big full =
      let fine = L.corners T F (names m settled fits f is) (is_refused m.order) v (length k.digits)
      (stepped.within m settled fits L f is i vertex g corners last w k h b x) many counted.0
      (AllByRecursion-from _ many (λ c j. (AllByRecursion-among AtF c many j counted.1, levels c j))) in
      record {
        corners = fine.0;
        count = fine.1 ∙ long full;
        at_vertex = subst (λ a. AreAtVertex P T.rule a (vertex_of_base t k i) fine.0) (level-grown m settled fits f is k both)
            (subst (λ (a : Address). AreAtVertex P T.rule (at_level F (length k.digits))
            (plane_point P (vertex_at P T.rule a.kind i)) fine.0) (sym both.same_base) fine.2);
      }

  pub not_too_big : length corners ≡ 64 → IsStarWithinLimits t f i → ⊥
  not_too_big full limits = let few = limits.few many
      (record { distinct = counted.0; each = counted.1 }) in absurd (omega (arith, few, long full))
