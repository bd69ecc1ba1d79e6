use Rattle.tile_shape.proofs.Answered.{same_address}
use Rattle.tile_shape.proofs.laws.text_law.Goals as goal

pub returns : goal.returns
returns c = same_address
