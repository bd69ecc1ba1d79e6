use Rattle.tile_shape.proofs.SmallTables.{fits_short}
use Rattle.tile_shape.proofs.laws.short_numbers_law.Goals as goal

pub returns : goal.returns
returns c = fits_short
