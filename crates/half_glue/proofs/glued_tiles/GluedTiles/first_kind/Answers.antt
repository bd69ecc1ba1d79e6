use Rattle.std.proofs.Common.{arith}
use Rattle.std.proofs.lemmas.Grind.{common_steps}
use Rattle.half_glue.proofs.glued_tiles.GluedTiles.first_kind.Goals as goal

pub index-requires : goal.index-requires
index-requires c = grind (arith, common_steps)
