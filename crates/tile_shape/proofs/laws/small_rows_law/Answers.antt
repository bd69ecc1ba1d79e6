use Rattle.tile_shape.proofs.SmallTables.{row_is_small}
use Rattle.tile_shape.proofs.laws.small_rows_law.Goals as goal

pub returns : goal.returns
returns c = row_is_small
