use Rattle.std.proofs.Common.{sym, ap, ◌∙◌}
use Rattle.theory_substitution.specs.RuleParts.{map_kind}
use Rattle.cyclo_points.specs.Point.{point_in}
use Rattle.rule_model.specs.Views.{as_rule}
use Rattle.rule_model.proofs.Views.{kind_of-map}
use Rattle.rule_model.proofs.rule.Rule.row.Goals as goal

pub returns-clause-numbers : goal.returns-clause-numbers
returns-clause-numbers c o = ap (map_kind (point_in o)) c.listed_row.ensures ∙ sym (kind_of-map (point_in o) (as_rule c.args.self.now) c.args.kind)
