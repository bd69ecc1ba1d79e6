-- What is drawn of the tiles of a window: the tiles, or the whole tiles of theirs.
use Rattle.std.specs.Prelude.{◌≡◌, Bool, true, false, List, map, length, All}
use Rattle.half_glue.specs.declared.whole_tile.WholeTile.{WholeTile}
use Rattle.half_glue.specs.Covering.{WholesCover}
use Rattle.half_glue.specs.Depth.{IsLeastForGlue}
use Rattle.half_glue.specs.InOrder.{AreWholesInOrder}
use Rattle.half_glue.specs.Limits.{CanBeGlued}
use Rattle.half_glue.specs.Outline.{CountsAsParts}
use Rattle.half_glue.specs.WholeTiles.{AreWholeTilesOf}
use Rattle.layer_api.specs.declared.drawn.Drawn.{Drawn}
use Rattle.theory_walks.specs.Frames.{FrameValue, GrowsTo}
use Rattle.plane_geom.specs.declared.window.Window.{Window}
use Rattle.rule_model.specs.Tiling.{Tiling}
use Rattle.tile_place.specs.declared.placed_tile.PlacedTile.{PlacedTile}
use Rattle.window_cover.specs.Windows.{box_of}
use Rattle.tile_app.specs.DrawnTile.{drawn_of, drawn_whole}

-- All of the tiles of the frame, which meet the window, can be glued. The frame has grown to the least depth,
-- not below the one that it had, at which no glue edge of theirs is on the boundary. The whole tiles of these
-- tiles there, each once and in order, are drawn: each has the two halves together as its outline, at each
-- test point; and each test point in the window belongs to exactly one of them.
pub record AreDrawnWhole (t : Tiling) (window : Window) (frame : FrameValue) (tiles : List PlacedTile)
    (picture : List Drawn) : Type 0 where
  pub can_be_glued : CanBeGlued t frame tiles
  pub glued_frame : FrameValue
  pub grown : GrowsTo t frame glued_frame
  pub least : IsLeastForGlue t frame tiles (length glued_frame.digits)
  pub wholes : List WholeTile
  pub whole_tiles : AreWholeTilesOf t glued_frame tiles wholes
  pub in_order : AreWholesInOrder wholes
  pub count_as_parts : All (CountsAsParts t) wholes
  pub cover : WholesCover t (box_of t window) wholes
  pub is_picture : picture ≡ map (drawn_whole t) wholes

-- the picture of the tiles of the frame that meet the window: of each tile alone, or with glue of the whole
-- tiles of theirs
abbrev pub IsPictureOf : Bool → Tiling → Window → FrameValue → List PlacedTile → List Drawn → Type 0
IsPictureOf false t window frame tiles picture = picture ≡ map (drawn_of t) tiles
IsPictureOf true t window frame tiles picture = AreDrawnWhole t window frame tiles picture
