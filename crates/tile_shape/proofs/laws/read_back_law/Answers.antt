use Rattle.tile_shape.proofs.Answered.{read_again}
use Rattle.tile_shape.proofs.laws.read_back_law.Goals as goal

pub returns : goal.returns
returns c = read_again
