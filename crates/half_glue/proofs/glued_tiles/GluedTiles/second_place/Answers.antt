use Rattle.std.proofs.Common.{arith}
use Rattle.std.proofs.lemmas.Grind.{common_steps, elements}
use Rattle.half_glue.proofs.glued_tiles.GluedTiles.second_place.Goals as goal

pub index-requires : goal.index-requires
index-requires c = grind (arith, common_steps)

pub unwrap-number-requires : goal.unwrap-number-requires
unwrap-number-requires c = grind (arith, elements)

pub place-requires : goal.place-requires
place-requires c = grind (arith, elements)
