use Rattle.std.proofs.Common.{◌^◌, sym, ◌∙◌}
use Rattle.trial_numbers.proofs.Bounds.{All-is_within}
use Rattle.trial_numbers.proofs.sizes.all_within.Goals as goal

pub returns : goal.returns
returns c = λ yes. All-is_within (2 ^ 25) c.args.points.now (sym c.all_pass.ensures ∙ yes)
