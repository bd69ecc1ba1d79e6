-- The picture of the tiles or whole tiles that it finds.
use Rattle.std.specs.Prelude.{List, map, All}
use Rattle.layer_api.specs.declared.drawn.Drawn.{Drawn}
use Rattle.rule_model.specs.Tiling.{Tiling}
use Rattle.tile_app.specs.declared.picture.Picture.{Picture}
use Rattle.tile_app.specs.declared.picture.Picture.TheVariants.{Tiles, Wholes}
use Rattle.tile_app.specs.GlueEdges.{AreGlueEdges}
use Rattle.tile_app.specs.DrawnTile.{drawn_of, drawn_whole, CanBeDrawn, CanBeDrawnWhole}

-- the tiles as they are drawn
abbrev pub picture_of : Tiling → Picture → List Drawn
picture_of t (Tiles tiles) = map (drawn_of t) tiles
picture_of t (Wholes wholes edges) = map (drawn_whole t) wholes

-- each can be drawn, and the glue edges of halves are known
abbrev pub CanBePictured : Tiling → Picture → Type 0
CanBePictured t (Tiles tiles) = All (CanBeDrawn t) tiles
CanBePictured t (Wholes wholes edges) = All (CanBeDrawnWhole t) wholes × AreGlueEdges t edges
