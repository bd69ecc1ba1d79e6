use Rattle.std.proofs.Common.{List, map, sym, ap, ◌∙◌}
use Rattle.tile_place.specs.declared.placed_tile.PlacedTile.{PlacedTile}
use Rattle.tile_shape.specs.Views.{step_of}
use Rattle.window_cover.specs.KindCounts.{count_of_kind}
use Rattle.window_cover.specs.Runs.{seen}
use Rattle.window_cover.proofs.KindCounts.{same-count}
use Rattle.window_cover.proofs.found_tiles.FoundTiles.counts.Goals as goal

pub returns : goal.returns
returns c = λ kind.
    c.counts.ensures kind ∙ sym (same-count kind (map step_of c.self.inside.above.items) (seen c.self.inside.tiles))
    ∙ ap (λ (ts : List PlacedTile). count_of_kind kind ts) c.self.view_is
