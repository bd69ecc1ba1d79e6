use Rattle.std.proofs.Common.{ap, ◌∙◌}
use Rattle.rule_model.specs.Tiling.{listed}
use Rattle.c_values.specs.Rules.{rule_as}
use Rattle.tiling_c.proofs.rule_numbers.tiling_rule.Goals as goal

pub returns : goal.returns
returns c = c.write.ensures ∙ ap (λ r. rule_as (listed r)) (c.checked.ensures.rule ∙ c.get.ensures)
