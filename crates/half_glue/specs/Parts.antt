-- Whole tiles whose parts have shifts that are not refused.
use Rattle.std.specs.Prelude.{◌^◌, List, All}
use Rattle.cyclo_points.specs.Point.{IsWithin}
use Rattle.rule_model.specs.Tiling.{Tiling}
use Rattle.tile_place.specs.declared.placed_tile.PlacedTile.{PlacedTile}
use Rattle.theory_walks.specs.Frames.{FrameValue, IsFrameOf, GrowsTo}
use Rattle.half_glue.specs.declared.whole_tile.WholeTile.{WholeTile}
use Rattle.half_glue.specs.Given.{AreGiven}
use Rattle.half_glue.specs.Limits.{CanBeGlued}
use Rattle.half_glue.specs.Outline.{whole_parts}
use Rattle.half_glue.specs.WholeTiles.{AreWholeTilesOf}

-- the coefficients of the shift of each part are at most 2^24 in absolute value
abbrev pub HasPartsWithin : WholeTile → Type 0
HasPartsWithin w = All (λ x. IsWithin (2 ^ 24) x.motion.shift) (whole_parts w)

-- this holds for each whole tile of tiles that can be glued
abbrev pub PartsWithinLaw : Tiling → Type 0
PartsWithinLaw t =
    (f g : FrameValue) (tiles : List PlacedTile) (wholes : List WholeTile)
    → IsFrameOf t f → GrowsTo t f g → AreGiven t f tiles → CanBeGlued t f tiles
    → AreWholeTilesOf t g tiles wholes → All HasPartsWithin wholes
