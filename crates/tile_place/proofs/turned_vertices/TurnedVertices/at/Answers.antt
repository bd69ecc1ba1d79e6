use Rattle.std.proofs.Common.{arith}
use Rattle.std.proofs.lemmas.Grind.{common_steps}
use Rattle.tile_place.proofs.turned_vertices.TurnedVertices.at.Goals as goal

pub overflow_add-row-2 : goal.overflow_add-row-2
overflow_add-row-2 c = grind (arith, common_steps)

pub index-requires : goal.index-requires
index-requires c = grind (arith, common_steps)

pub returns : goal.returns
returns c = grind (arith, common_steps)
