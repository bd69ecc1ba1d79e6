use Rattle.std.proofs.Common.{sym}
use Rattle.rule_model.proofs.Usable.{usable}
use Rattle.rule_model.specs.Views.{as_rule}
use Rattle.dissect_check.proofs.LimitsHold.{within-where}
use Rattle.dissect_check.proofs.clauses.before_children.Goals as goal

pub shapes_and_types-requires : goal.shapes_and_types-requires
shapes_and_types-requires c = record {
  usable = usable c.args.rule.now
      (within-where c.args.rule.now.order (as_rule c.args.rule.now) (sym c.in_ok-limits.ensures));
}
