use Rattle.dissect_check.proofs.Accepted.{accepted-where, none-where}
use Rattle.dissect_check.proofs.check.acceptance_law.Goals as goal

pub returns : goal.returns
returns c = (accepted-where c.args.rule.now, none-where c.args.rule.now)
