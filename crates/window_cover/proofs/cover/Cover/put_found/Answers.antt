use Rattle.std.proofs.Common.{arith}
use Rattle.std.proofs.lemmas.Grind.{common_steps, elements}
use Rattle.window_cover.proofs.cover.Cover.put_found.Goals as goal

pub overflow_add-found : goal.overflow_add-found
overflow_add-found c = grind (arith, common_steps)

pub put_address-requires : goal.put_address-requires
put_address-requires c = grind (arith, common_steps)

pub returns-clause-as_found : goal.returns-clause-as_found
returns-clause-as_found c = grind (arith, elements)

pub returns-clause-its_kind : goal.returns-clause-its_kind
returns-clause-its_kind c = grind (arith, common_steps)
