use Rattle.std.proofs.Common.{arith}
use Rattle.std.proofs.lemmas.Grind.{common_steps, elements}
use Rattle.half_glue.proofs.glued_tiles.GluedTiles.put_second.Goals as goal

pub index-requires : goal.index-requires
index-requires c = grind (arith, common_steps)

pub unwrap-number-requires : goal.unwrap-number-requires
unwrap-number-requires c = grind (arith, elements)

pub put_part-requires : goal.put_part-requires
put_part-requires c = grind (arith, elements)

pub returns : goal.returns
returns c = grind (arith, elements)
