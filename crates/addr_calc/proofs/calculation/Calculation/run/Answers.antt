use Rattle.std.proofs.Common.{rules}
use Rattle.rule_model.specs.Tiling.{tiling_of}
use Rattle.addr_calc.proofs.calculation.Calculation.run.Goals as goal

pub returns-in-Ok-Show-clause-ran : goal.returns-in-Ok-Show-clause-ran
returns-in-Ok-Show-clause-ran g c = let h = c.show.ensures.done (tiling_of c.args.machine.now) in search (rules, h)

pub returns-in-Ok-Show-clause-fault : goal.returns-in-Ok-Show-clause-fault
returns-in-Ok-Show-clause-fault g c = let h = c.show.ensures.refused (tiling_of c.args.machine.now) in search (rules, h)

pub returns-in-Ok-Common-clause-ran : goal.returns-in-Ok-Common-clause-ran
returns-in-Ok-Common-clause-ran g c = let h = c.common.ensures.done (tiling_of c.args.machine.now) in search (rules, h)

pub returns-in-Ok-Common-clause-fault : goal.returns-in-Ok-Common-clause-fault
returns-in-Ok-Common-clause-fault g c = let h = c.common.ensures.refused (tiling_of c.args.machine.now) in search (rules, h)
