-- The turn on its way: the corners found so far, by the names that their tiles have at depth 64.
use Rattle.std.specs.Prelude.{◌≡◌, ℕ, ◌<◌, ◌≤◌, ◌*◌, ◌^◌, List, ◌∷◌, map, length}
use Rattle.std.specs.List.{AllByRecursion}
use Rattle.theory_addresses.specs.Search.{IsAmong}
use Rattle.cyclo_points.specs.Order.{NumberOf, points_of, is_refused}
use Rattle.cyclo_points.specs.Point.{IsOf, IsWithin}
use Rattle.cyclo_points.specs.Motion.{motion_in}
use Rattle.theory_substitution.specs.RuleParts.{edge_count}
use Rattle.theory_substitution.specs.Supertile.{Placed}
use Rattle.theory_frames.specs.Frame.{IsTileOf, lifted_in}
use Rattle.theory_windows.specs.FramePatch.{frame_patch, growing_frame, in_frame}
use Rattle.rule_model.specs.Tiling.{Tiling, children}
use Rattle.tile_shape.specs.Views.{address_of}
use Rattle.theory_walks.specs.Ancestors.{full}
use Rattle.theory_walks.specs.Frames.{FrameValue, whole, GrowsTo}
use Rattle.theory_stars.specs.Corners.{edge_into, Turns, last_corner, IsTurn}
use Rattle.theory_stars.specs.FrameStar.{corner_named}
use Rattle.theory_stars.specs.GrownStar.{deepest}
use Rattle.star_walk.specs.declared.corner.Corner.{Corner}
use Rattle.star_walk.specs.Causes.{most_corners}
use Rattle.star_walk.specs.Corners.{CornerOf}

-- the number of the edge that ends at a corner's vertex
abbrev pub its_edge : Tiling → Corner → ℕ
its_edge t c = edge_into (edge_count t.rule c.tile.addr.kind) c.vertex

-- the tile is of the frame, in its place there, and at most n steps from the base
pub record IsFoundInTurn (t : Tiling) (f : FrameValue) (n : ℕ) (c : Corner) : Type 0 where
  pub its_kind : c.tile.kind ≡ c.tile.addr.kind
  pub of_frame : IsTileOf (children t) (whole f) (address_of c.tile.addr)
  pub motion_is : motion_in t.order c.tile.motion
      ≡ (in_frame (points_of t.order) t.rule (full t f) (address_of c.tile.addr)).motion
  pub turn_below : c.tile.motion.turn < (points_of t.order).order
  pub shift_within : IsWithin (2 ^ 8 * n) c.tile.motion.shift
  pub in_order : IsOf t.order c.tile.motion.shift

-- the greatest of the frame's depth and the levels of the corners' tiles
abbrev pub deepest_of : (t : Tiling) → FrameValue → List (CornerOf t) → ℕ
deepest_of t f corners =
    deepest (points_of t.order).real (Placed (NumberOf t.order))
    (growing_frame (points_of t.order) (is_refused t.order) t.rule (full t f)) (length f.digits) corners

-- a corner, by the name that its tile has at depth 64; and that of the base, with its vertex i
abbrev pub corner_name : (t : Tiling) → FrameValue → Corner → CornerOf t
corner_name t f c = corner_named (points_of t.order) t.rule (full t f) (address_of c.tile.addr) c.vertex

abbrev pub base_name : (t : Tiling) → FrameValue → ℕ → CornerOf t
base_name t f i = corner_named (points_of t.order) t.rule (full t f) (whole f) i

-- The frame has grown from f to g. The corners are a turn from the base that has not come back, and this is
-- the last of them.
pub record IsOnTheWay (t : Tiling) (f g : FrameValue) (i : ℕ) (corners : List Corner)
    (last : Corner) : Type 0 where
  pub grows : GrowsTo t f g
  pub found : AllByRecursion (IsFoundInTurn t g (length corners)) corners
  pub last_found : IsFoundInTurn t g (length corners) last
  pub others : List (CornerOf t)
  pub names_are : map (corner_name t f) corners ≡ base_name t f i ∷ others
  pub last_is : corner_name t f last ≡ last_corner (base_name t f i) others
  pub in_order : Turns (points_of t.order).real (Placed (NumberOf t.order))
      (frame_patch (points_of t.order) t.rule (full t f)) (base_name t f i) others
  pub not_back : ¬ IsAmong (base_name t f i) others
  pub depth_is : length g.digits ≡ deepest_of t f others

-- the corners are a turn from the base that has come back to it, and there are at most 64
pub record HasTurned (t : Tiling) (f g : FrameValue) (i : ℕ) (corners : List Corner) : Type 0 where
  pub grows : GrowsTo t f g
  pub few : length corners ≤ most_corners
  pub found : AllByRecursion (IsFoundInTurn t g most_corners) corners
  pub others : List (CornerOf t)
  pub names_are : map (corner_name t f) corners ≡ base_name t f i ∷ others
  pub turn : IsTurn (points_of t.order).real (Placed (NumberOf t.order))
      (frame_patch (points_of t.order) t.rule (full t f)) (base_name t f i) others
  pub depth_is : length g.digits ≡ deepest_of t f others

-- the corner b is the corner a with its tile lifted in the frame
pub record IsRaised (f : FrameValue) (a b : Corner) : Type 0 where
  pub same_kind : b.tile.kind ≡ a.tile.kind
  pub same_motion : b.tile.motion ≡ a.tile.motion
  pub its_address : address_of b.tile.addr ≡ lifted_in (whole f) (address_of a.tile.addr)
  pub same_vertex : b.vertex ≡ a.vertex
