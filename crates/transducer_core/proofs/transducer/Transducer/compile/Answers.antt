use Rattle.std.proofs.Common.{arith}
use Rattle.transducer_core.proofs.transducer.Transducer.compile.Goals as goal

pub invariant_of-result : goal.invariant_of-result
invariant_of-result c = grind arith
