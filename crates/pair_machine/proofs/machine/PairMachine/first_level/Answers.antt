use Rattle.pair_machine.specs.Itself.{SomeMeetsItself}
use Rattle.std.proofs.Common.{map, drop}
use Rattle.tile_shape.specs.Views.{step_of}
use Rattle.pair_machine.proofs.Ending.{equal_read, same_views}
use Rattle.pair_machine.proofs.machine.PairMachine.first_level.Goals as goal

pub returns-else-self-clause-none_above : goal.returns-else-self-clause-none_above
returns-else-self-clause-none_above c =
    let none : SomeMeetsItself c.args.self.now → ⊥ = rw (← c.self.view_is) (λ h. let yes = c.self.invariant.itself_is.1 h in absurd cc) in
    equal_read c.args.self.now (drop c.parting.result (map step_of c.args.xs.now)) (drop c.parting.result (map step_of c.args.ys.now))
    (same_views c.args.xs.now c.args.ys.now c.parting.result c.parting.ensures.same_above) none
