-- Whole tiles that cover a window, since their parts do.
use Rattle.std.specs.Prelude.{◌≡◌, List, map, IsTrue, All}
use Rattle.std.specs.List.{flat_map}
use Rattle.theory_plane.specs.Plane.{TestPoint, IsTestPoint}
use Rattle.theory_plane.specs.Crossing.{member}
use Rattle.theory_plane.specs.Box.{OpenBox, in_box}
use Rattle.theory_substitution.specs.Supertile.{Placed}
use Rattle.cyclo_points.specs.Order.{NumberOf, points_of}
use Rattle.theory_dissection.specs.Sums.{number_of}
use Rattle.rule_model.specs.Tiling.{Tiling}
use Rattle.tile_place.specs.Searched.{placed_in}
use Rattle.tile_place.specs.declared.placed_tile.PlacedTile.{PlacedTile}
use Rattle.theory_windows.specs.Distinct.{AreDistinct}
use Rattle.theory_windows.specs.FramePatch.{frame_patch}
use Rattle.theory_windows.specs.Patch.{Covers}
use Rattle.theory_walks.specs.Frames.{FrameValue, whole, IsFrameOf, GrowsTo}
use Rattle.lazy_walk.specs.Standing.{Stands}
use Rattle.half_glue.specs.declared.whole_tile.WholeTile.{WholeTile}
use Rattle.half_glue.specs.InOrder.{AreWholesInOrder}
use Rattle.half_glue.specs.Outline.{whole_parts, polygon_of_whole}
use Rattle.half_glue.specs.WholeTiles.{IsWholeTile, AreWholeTilesOf}

-- a box in the plane of a tiling, to be covered
abbrev pub BoxOf : Tiling → Type 0
BoxOf t = OpenBox (points_of t.order).real.ops.carrier

-- each test point in the box belongs to exactly one of these tiles of a frame
abbrev pub TilesCover : (t : Tiling) → FrameValue → BoxOf t → List PlacedTile → Type 0
TilesCover t f box tiles =
    Covers (points_of t.order).real (Placed (NumberOf t.order))
    (frame_patch (points_of t.order) t.rule (whole f)) box (map (placed_in t.order) tiles)

-- each test point in the box belongs to exactly one of these whole tiles
abbrev pub WholesCover : (t : Tiling) → BoxOf t → List WholeTile → Type 0
WholesCover t box wholes =
    (p : TestPoint (points_of t.order).real.ops.carrier) → IsTestPoint (points_of t.order).real p
    → IsTrue (in_box (points_of t.order).real box p)
    → number_of (λ w. member (points_of t.order).real (polygon_of_whole t w) p) wholes ≡ 1

-- if tiles cover a box, their whole tiles do, in each frame to which the tiles' frame may grow
abbrev pub WholesCoverLaw : Tiling → Type 0
WholesCoverLaw t =
    (f g : FrameValue) (box : BoxOf t) (tiles : List PlacedTile) (wholes : List WholeTile)
    → IsFrameOf t f → GrowsTo t f g → All (Stands t f) tiles → TilesCover t f box tiles
    → AreWholeTilesOf t g tiles wholes → AreWholesInOrder wholes → WholesCover t box wholes

-- the parts of these whole tiles, in order
abbrev pub all_parts : (t : Tiling) → List WholeTile → List (Placed (NumberOf t.order))
all_parts t wholes = flat_map (λ w. map (placed_in t.order) (whole_parts w)) wholes

-- whole tiles in order share no part, and none has a part twice
abbrev pub PartsOnceLaw : Tiling → Type 0
PartsOnceLaw t = (f : FrameValue) (wholes : List WholeTile) → All (IsWholeTile t f) wholes
    → AreWholesInOrder wholes → AreDistinct (all_parts t wholes)
