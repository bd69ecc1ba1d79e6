use Rattle.std.proofs.Common.{arith}
use Rattle.layer_api.proofs.Figures.{four_bytes}
use Rattle.layer_api.proofs.backwards.write_step_with_comma.Goals as goal

pub returns-then-step-lt10-2-clause-written : goal.returns-then-step-lt10-2-clause-written
returns-then-step-lt10-2-clause-written c = four_bytes c.args.step.child c.args.step.parent c.args.end
    c.args.buf.now (omega arith) (omega arith) (omega arith) c.requires.inside
