-- The other half of a tile has the tile for its other half.
use Rattle.std.proofs.Common.{sym}
use Rattle.rule_model.specs.Tiling.{Tiling}
use Rattle.tile_place.specs.declared.placed_tile.PlacedTile.{PlacedTile}
use Rattle.theory_walks.specs.Frames.{FrameValue}
use Rattle.half_glue.specs.Found.{AreGlued}

-- the other half is glued to it
pub glued-back : (t : Tiling) (f : FrameValue) (x y : PlacedTile) → AreGlued t f x y → AreGlued t f y x
glued-back t f x y h = record {
  edge = h.its_edge;
  its_edge = h.edge;
  glue_edge = h.its_glue_edge;
  its_glue_edge = h.glue_edge;
  across = h.back;
  back = h.across;
  other_kind = λ s. h.other_kind (sym s);
}
