use Rattle.std.proofs.Common.{◌≡◌, All, map, take}
use Rattle.rule_model.specs.Tiling.{tiling_of}
use Rattle.tile_app.specs.LayerTexts.{FirstHasDrawn}
use Rattle.tile_app.specs.Drawings.{tiles_drawn, CanBeShown}
use Rattle.tile_app.proofs.draw.draw_formats.Given as goal

-- the first layers with the formats before have drawn, and the layers have the formats that they had
abbrev pub invariant-loop-format : goal.invariant-loop-format
invariant-loop-format g l = record {
  drawn : All (FirstHasDrawn g.D.Layer.form g.D.Layer.seen g.D.Layer.ended g.D.Layer.draws
      l.view (tiles_drawn (tiling_of l.machine) l.fn.drawing) l.layers) (take l.format-index l.formats);
  can : CanBeShown (tiling_of l.machine) l.later;
  same : tiles_drawn (tiling_of l.machine) l.later ≡ tiles_drawn (tiling_of l.machine) l.fn.drawing;
  same_forms : map g.D.Layer.form l.layers ≡ map g.D.Layer.form l.fn.layers;
}
