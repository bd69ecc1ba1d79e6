-- The corners of a tile.
use Rattle.std.specs.Prelude.{◌≡◌, ℕ, ◌<◌, ◌^◌, List, length, get_or}
use Rattle.theory_substitution.specs.Motion.{moved}
use Rattle.theory_substitution.specs.RuleParts.{edge_count, vertex}
use Rattle.cyclo_points.specs.declared.motion.Motion.{Motion}
use Rattle.cyclo_points.specs.declared.point.Point.{Point}
use Rattle.cyclo_points.specs.Motion.{motion_in}
use Rattle.cyclo_points.specs.Order.{points_of}
use Rattle.cyclo_points.specs.Point.{point_in, IsOf, IsWithin}
use Rattle.rule_model.specs.Tiling.{Tiling}
use Rattle.rule_model.specs.Usable.{origin}

-- a corner of a tile: where the motion takes vertex number e of the kind
pub record IsCorner (t : Tiling) (kind : ℕ) (m : Motion) (e : ℕ) (p : Point) : Type 0 where
  pub place : point_in t.order p
      ≡ moved (points_of t.order) (motion_in t.order m) (vertex (points_of t.order) t.rule kind e)
  pub within : IsWithin (2 ^ 25) p
  pub in_order : IsOf t.order p

-- these are the corners of a tile, one for each edge
pub record AreCorners (t : Tiling) (kind : ℕ) (m : Motion) (corners : List Point) : Type 0 where
  pub count : length corners ≡ edge_count t.rule kind
  pub each : (e : ℕ) → e < length corners → IsCorner t kind m e (get_or corners e origin)
