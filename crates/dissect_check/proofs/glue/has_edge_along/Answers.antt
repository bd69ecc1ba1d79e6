use Rattle.std.proofs.Common.{arith}
use Rattle.std.proofs.lemmas.Grind.{common_steps}
use Rattle.dissect_check.proofs.glue.has_edge_along.Goals as goal

pub edge_count-edge-end-requires : goal.edge_count-edge-end-requires
edge_count-edge-end-requires c = grind (arith, common_steps)

pub edge_type-found-requires-clause-kind_in : goal.edge_type-found-requires-clause-kind_in
edge_type-found-requires-clause-kind_in c = grind (arith, common_steps)

pub returns : goal.returns
returns c = grind (arith, common_steps)
