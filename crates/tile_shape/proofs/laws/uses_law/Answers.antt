use Rattle.tile_shape.proofs.UseRows.{some_use, use_is_child}
use Rattle.tile_shape.proofs.laws.uses_law.Goals as goal

pub returns : goal.returns
returns c = record { some = some_use; child = use_is_child }
