use Rattle.std.proofs.Common.{◌≡◌, length, subst}
use Rattle.rule_model.specs.Views.{rule_of}
use Rattle.tiling_c.proofs.rule_numbers.tiling_kinds.Goals as goal

pub returns : goal.returns
returns c = subst (λ r. c.kinds_of.result ≡ length (rule_of r).kinds) c.get.ensures c.kinds_of.ensures
