-- How a part stands to a window by its vertices, and how a tile does.
use Rattle.std.proofs.Common.{◌≡◌, ℕ, ◌<◌, Bool, true, false, cond, ◌||◌, pos, List, [], ◌∷◌, map, length, get_or, sym, ap, ◌∙◌, subst}
use Rattle.std.specs.List.{list_any}
use Rattle.std.proofs.lemmas.List.{get_or-map, length-map}
use Rattle.std.proofs.lemmas.Simd.{map-map}
use Rattle.theory_frames.specs.Outline.{outline}
use Rattle.theory_substitution.specs.Plane.{plane_point}
use Rattle.theory_substitution.specs.Motion.{Motion, moved}
use Rattle.theory_substitution.specs.RuleParts.{vertices_of}
use Rattle.theory_plane.specs.BoxTest.{box_test}
use Rattle.theory_plane.specs.Crossing.{member}
use Rattle.theory_plane.specs.Plane.{test_point}
use Rattle.cyclo_points.specs.declared.order.Order.{Order}
use Rattle.cyclo_points.specs.declared.point.Point.{Point}
use Rattle.cyclo_points.specs.Order.{NumberOf, points_of}
use Rattle.cyclo_points.specs.Motion.{motion_in}
use Rattle.cyclo_points.specs.Point.{point_in}
use Rattle.cyclo_points.proofs.OrderLaws.{laws_of}
use Rattle.cyclo_points.proofs.Divisors.{divisors_of}
use Rattle.plane_geom.specs.declared.window.Window.{Window}
use Rattle.plane_geom.specs.Spots.{PlanePointOf, reals_of, spot_of, spots_of}
use Rattle.rule_model.specs.declared.rule.Rule.{Rule}
use Rattle.rule_model.specs.Tiling.{tiling_of}
use Rattle.rule_model.specs.Views.{rule_of}
use Rattle.tile_place.proofs.Plane.{IsSettled, its_rule}
use Rattle.theory_walks.specs.Ancestors.{factor_power}
use Rattle.theory_windows.specs.Outlines.{edges}
use Rattle.tile_place.specs.Corners.{IsCorner}
use Rattle.theory_descents.specs.Insets.{IsBeyondBox, IsWithinBox}
use Rattle.theory_descents.specs.MeetingTest.{polygon_meets}
use Rattle.theory_descents.specs.Parts.{one_tile, part_polygon, tile_meets}
use Rattle.theory_descents.proofs.Carried as law
use Rattle.theory_descents.proofs.Parts.{tile-part}
use Rattle.window_descent.specs.declared.part.Part.{Part}
use Rattle.window_descent.specs.declared.standing.Standing.{Standing}
use Rattle.window_descent.specs.declared.standing.Standing.TheVariants.{Beyond, Within, Across}
use Rattle.window_descent.specs.Standing.{window_box, IsStanding}
use Rattle.window_descent.specs.Inside.{IsWellInside}
use Rattle.window_descent.specs.Parts.{IsPlacedPart, IsPlacedBy, standing_of}
use Rattle.window_descent.proofs.EdgeTests.{corner-meets}

-- the corners found are the polygon
pub spots-part : (m : Rule) (kind level : ℕ) (corners : List Point) (scale : Point) (g : Motion (NumberOf m.order)) → point_in m.order scale
    ≡ factor_power (tiling_of m) level
    → map (point_in m.order) corners ≡ outline (points_of m.order) (rule_of m) kind (point_in m.order scale) g
    → spots_of m.order corners ≡ part_polygon (points_of m.order) (rule_of m) kind level g
spots-part m kind level corners scale g e h =
    sym (map-map (plane_point (points_of m.order)) (point_in m.order) corners)
    ∙ ap (map (plane_point (points_of m.order))) (h ∙ ap (λ (z : NumberOf m.order). outline (points_of m.order) (rule_of m) kind z g) e)

module _ (m : Rule) (settled : IsSettled m) (o : Order) (same : o ≡ m.order) (w : Window) (level : ℕ) (p : Part) (is : IsPlacedPart m p)
    (wide : 0 < w.w) (high : 0 < w.h)
    (corners : List Point) (scale : Point) (e : point_in m.order scale ≡ factor_power (tiling_of m) level)
    (read : map (point_in m.order) corners
    ≡ outline (points_of m.order) (rule_of m) p.kind (point_in m.order scale) (motion_in m.order p.motion)) where
  polygon : spots_of m.order corners ≡ part_polygon (points_of m.order) (rule_of m) p.kind level (motion_in m.order p.motion)
  polygon = spots-part m p.kind level corners scale (motion_in m.order p.motion) e read

  at_standing : (s : Standing) → IsStanding m.order w corners s → 0 < level → IsPlacedBy (tiling_of m) w level p s
  at_standing Beyond h l =
      law.pruned_law (points_of m.order) (laws_of m.order) (divisors_of m.order) (its_rule m settled) (window_box m.order w) wide high p.kind level
      (motion_in m.order p.motion) is.kind_exists is.turn_below
      (subst (IsBeyondBox (reals_of m.order) (window_box m.order w)) polygon h)
  at_standing Within h l =
      law.taken_law (points_of m.order) (laws_of m.order) (divisors_of m.order) (its_rule m settled) (window_box m.order w) wide high p.kind level
      (motion_in m.order p.motion) is.kind_exists is.turn_below
      (subst (IsWithinBox (reals_of m.order) (window_box m.order w)) polygon h)
  at_standing Across h l = l

  pub placed-beside : (s : Standing) → IsStanding o w corners s → 0 < level → IsPlacedBy (tiling_of m) w level p s
  placed-beside s h l = at_standing s (subst (λ q. IsStanding q w corners s) same h) l

  -- a tile by itself
  at_test : (b : Bool) → level ≡ 0 → b ≡ tile_meets (points_of m.order) (rule_of m) (window_box m.order w) (one_tile p.kind
      (motion_in m.order p.motion)) → IsPlacedBy (tiling_of m) w level p (standing_of b)
  at_test b z t = subst (λ n. IsPlacedBy (tiling_of m) w n p (standing_of b)) (sym z) (by_test b t)
    where
      by_test : (b : Bool) → b ≡ tile_meets (points_of m.order) (rule_of m) (window_box m.order w) (one_tile p.kind (motion_in m.order p.motion))
          → IsPlacedBy (tiling_of m) w 0 p (standing_of b)
      by_test true t = ap (λ b. cond b (one_tile p.kind (motion_in m.order p.motion) ∷ []) []) (sym t)
      by_test false t = ap (λ b. cond b (one_tile p.kind (motion_in m.order p.motion) ∷ []) []) (sym t)

  pub placed-met : (b : Bool) → level ≡ 0 → b ≡ polygon_meets (reals_of o) (window_box o w) (spots_of o corners)
      → IsPlacedBy (tiling_of m) w level p (standing_of b)
  placed-met b z h = at_test b z
      (subst (λ q. b ≡ polygon_meets (reals_of q) (window_box q w) (spots_of q corners)) same h
      ∙ ap (polygon_meets (reals_of m.order) (window_box m.order w))
      (polygon ∙ ap (λ n. part_polygon (points_of m.order) (rule_of m) p.kind n (motion_in m.order p.motion)) z
      ∙ tile-part (points_of m.order) (laws_of m.order) (rule_of m) p.kind (motion_in m.order p.motion)))

-- ---- a tile with a corner well inside
module _ (m : Rule) (w : Window) (p : Part) (e : ℕ) (q : Point) (there : e < length (vertices_of (rule_of m) p.kind))
    (corner : IsCorner (tiling_of m) p.kind p.motion e q) (inside : IsWellInside m.order w q) where
  abbrev at : NumberOf m.order → PlanePointOf m.order
  at z = plane_point (points_of m.order) (moved (points_of m.order) (motion_in m.order p.motion) z)

  abbrev vs : List (NumberOf m.order)
  vs = vertices_of (rule_of m) p.kind

  abbrev zero_point : NumberOf m.order
  zero_point = (points_of m.order).ring.int (pos 0)

  its-corner : spot_of m.order q ≡ get_or (map at vs) e (at zero_point)
  its-corner = ap (plane_point (points_of m.order)) corner.place ∙ sym (get_or-map at vs e zero_point (at zero_point) there)

  some-edge : list_any (λ v. box_test (reals_of m.order) v.from v.to (window_box m.order w)) (edges (map at vs)) ≡ true
  some-edge = corner-meets m.order w (map at vs) e (at zero_point) (rw (length-map vs at) there)
      (subst (λ (v : PlanePointOf m.order). (u : PlanePointOf m.order) → box_test (reals_of m.order) v u (window_box m.order w) ≡ true)
      its-corner inside)

  meets-window : tile_meets (points_of m.order) (rule_of m) (window_box m.order w) (one_tile p.kind (motion_in m.order p.motion)) ≡ true
  meets-window = ap (λ b. b || member (reals_of m.order) (map at vs) (test_point (reals_of m.order).ops (window_box m.order w).centre)) some-edge

  pub placed-inside : IsPlacedBy (tiling_of m) w 0 p Within
  placed-inside = ap (λ b. cond b (one_tile p.kind (motion_in m.order p.motion) ∷ []) []) meets-window
