use Rattle.std.proofs.Common.{sym, ◌∙◌}
use Rattle.trial_numbers.proofs.Bounds.{Within-is_at_most}
use Rattle.trial_numbers.proofs.sizes.is_bounded.Goals as goal

pub returns : goal.returns
returns c = λ yes. Within-is_at_most c.args.most c.args.x.now (sym c.is_at_most.ensures ∙ yes)
