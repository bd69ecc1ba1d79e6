use Rattle.std.proofs.Common.{map, length, List, sym, ap, ◌∙◌}
use Rattle.tile_place.specs.declared.placed_tile.PlacedTile.{PlacedTile}
use Rattle.tile_shape.specs.Views.{step_of}
use Rattle.window_cover.specs.Runs.{seen}
use Rattle.window_cover.proofs.InKeyOrder.{as-many}
use Rattle.window_cover.proofs.found_tiles.FoundTiles.len.Goals as goal

pub returns : goal.returns
returns c =
    c.len.ensures ∙ sym (as-many (map step_of c.self.inside.above.items) (seen c.self.inside.tiles))
    ∙ ap (λ (ts : List PlacedTile). length ts) c.self.view_is
