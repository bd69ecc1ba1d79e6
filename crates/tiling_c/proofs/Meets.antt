-- A placed tile meets a window exactly if the test of its corners says so.
use Rattle.std.proofs.Common.{◌≡◌, ◌↔◌, ℕ, ◌<◌, ◌≤◌, ◌^◌, All, List, map, length, pos, sym, ap, ◌∙◌, subst, refl, arith, true, false, Bool}
use mir.Val.{bool_byte}
use Rattle.std.proofs.lemmas.Bool.{false≢true}
use Rattle.std.proofs.lemmas.List.{length-map, get_or-map, get_or_default, same_lists}
use Rattle.std.proofs.lemmas.Simd.{map-map}
use Rattle.theory_substitution.specs.Motion.{moved}
use Rattle.theory_substitution.specs.Plane.{plane_point}
use Rattle.theory_substitution.specs.RuleParts.{vertices_of}
use Rattle.cyclo_points.specs.declared.point.Point.{Point}
use Rattle.cyclo_points.specs.declared.motion.Motion.{Motion}
use Rattle.cyclo_points.specs.Motion.{motion_in}
use Rattle.cyclo_points.specs.Order.{NumberOf, points_of}
use Rattle.cyclo_points.specs.Point.{point_in, IsWithin}
use Rattle.cyclo_points.proofs.Divisors.{divisors_of}
use Rattle.cyclo_points.proofs.OrderLaws.{laws_of}
use Rattle.plane_geom.specs.declared.window.Window.{Window}
use Rattle.plane_geom.specs.Spots.{reals_of, spots_of}
use Rattle.rule_model.specs.declared.rule.Rule.{Rule}
use Rattle.rule_model.specs.Tiling.{Tiling, tiling_of}
use Rattle.rule_model.specs.Usable.{origin}
use Rattle.rule_model.specs.Views.{rule_of}
use Rattle.tile_place.specs.Corners.{AreCorners}
use Rattle.tile_place.proofs.Plane.{IsSettled, its_rule}
use Rattle.theory_dissection.proofs.Setting.{Setting}
use Rattle.theory_descents.specs.MeetingTest.{polygon_meets}
use Rattle.theory_descents.specs.Insets.{IsBeyondBox}
use Rattle.theory_descents.proofs.Carried.{beyond_law}
use Rattle.theory_descents.proofs.Descent.{meets-is, is-meets}
use Rattle.window_cover.specs.Windows.{MeetsWindow, polygon_of, window_box}
use Rattle.c_values.specs.declared.plain_tile.PlainTile.{PlainTile}
use Rattle.c_values.specs.Tiles.{motion_of}
use Rattle.tiling_c.specs.Meeting.{tile_given}

-- a flag that is made of a test
pub flag_of : (b : Bool) (flag : ℕ) (Q : Type 0) → flag ≡ bool_byte b → (b ≡ true) ↔ Q → (flag ≤ 1) × ((flag ≡ 1) ↔ Q)
flag_of true flag Q e h = (omega (arith, e), (λ _. h.0 refl, λ _. e))
flag_of false flag Q e h = (omega (arith, e), (λ one. absurd (omega (arith, e, one)), λ q. absurd (false≢true (h.1 q))))

-- each corner is within the limits of the test
pub corners_within : (t : Tiling) (kind : ℕ) (g : Motion) (corners : List Point) → AreCorners t kind g corners → All (IsWithin (2 ^ 25)) corners
corners_within t kind g corners are k d below = subst (IsWithin (2 ^ 25)) (get_or_default corners k origin d below) (are.each k below).within

module _ (m : Rule) (settled : IsSettled m) (p : PlainTile) (exists : p.kind < length (rule_of m).kinds) (corners : List Point)
    (are : AreCorners (tiling_of m) p.kind (motion_of p) corners) where
  abbrev put : NumberOf m.order → NumberOf m.order
  put = moved (points_of m.order) (motion_in m.order (motion_of p))

  abbrev vertices : List (NumberOf m.order)
  vertices = vertices_of (rule_of m) p.kind

  same_count : length (map (point_in m.order) corners) ≡ length (map put vertices)
  same_count = length-map corners (point_in m.order) ∙ are.count ∙ sym (settled.usable.numbered.vertex_each p.kind exists)
      ∙ sym (length-map vertices put)

  -- the corners are the vertices, moved
  moved-corners : map (point_in m.order) corners ≡ map put vertices
  moved-corners = same_lists (map (point_in m.order) corners) (map put vertices) same_count (λ k d below.
      let inside : k < length corners = subst (λ n. k < n) (length-map corners (point_in m.order)) below in
      let within : k < length vertices =
      subst (λ n. k < n) (are.count ∙ sym (settled.usable.numbered.vertex_each p.kind exists)) inside in
      let zero : NumberOf m.order = (points_of m.order).ring.int (pos 0) in
      get_or-map (point_in m.order) corners k origin d inside ∙ (are.each k inside).place
      ∙ sym (get_or-map put vertices k zero d within))

  spots : spots_of m.order corners ≡ polygon_of (tiling_of m) (tile_given (tiling_of m) p)
  spots = sym (map-map (plane_point (points_of m.order)) (point_in m.order) corners)
      ∙ ap (map (plane_point (points_of m.order))) moved-corners ∙ map-map (plane_point (points_of m.order)) put vertices

  abbrev setting : Setting
  setting = record { points = points_of m.order; laws = laws_of m.order; accepted = its_rule m settled }

  -- a tile beyond one of the sides does not meet the window
  pub beyond_window : (w : Window) → IsBeyondBox (reals_of m.order) (window_box m.order w) (spots_of m.order corners)
      → ¬ MeetsWindow (tiling_of m) w (tile_given (tiling_of m) p)
  beyond_window w beyond =
      beyond_law (points_of m.order) (laws_of m.order) (window_box m.order w) (polygon_of (tiling_of m) (tile_given (tiling_of m) p))
      (subst (IsBeyondBox (reals_of m.order) (window_box m.order w)) spots beyond)

  module _ (w : Window) (wide : 0 < w.w) (high : 0 < w.h) where
    pub meets_window : (b : Bool) → b ≡ polygon_meets (reals_of m.order) (window_box m.order w) (spots_of m.order corners)
        → (b ≡ true) ↔ MeetsWindow (tiling_of m) w (tile_given (tiling_of m) p)
    meets_window b is =
        let test = is ∙ ap (polygon_meets (reals_of m.order) (window_box m.order w)) spots in (
          λ h. meets-is setting (divisors_of m.order) (window_box m.order w) wide high (tile_given (tiling_of m) p) exists (sym test ∙ h),
          λ h. test ∙ is-meets setting (divisors_of m.order) (window_box m.order w) wide high (tile_given (tiling_of m) p) exists h,
        )
