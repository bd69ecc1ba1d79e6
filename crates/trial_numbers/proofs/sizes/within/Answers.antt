use Rattle.std.proofs.Common.{sym, ◌∙◌}
use Rattle.trial_numbers.proofs.Bounds.{IsWithin-is_within}
use Rattle.trial_numbers.proofs.sizes.within.Goals as goal

pub returns : goal.returns
returns c = λ yes. IsWithin-is_within c.args.most c.args.p.now (sym c.passes.ensures ∙ yes)
