use Rattle.cyclo_points.specs.Order.{points_of}
use Rattle.rule_model.specs.Views.{rule_of}
use Rattle.rule_model.proofs.Contacts.{child_kinds_of_tables}
use Rattle.rule_model.proofs.checked.Checked.tables.Goals as goal

pub returns-clause-same_uses : goal.returns-clause-same_uses
returns-clause-same_uses c = child_kinds_of_tables (points_of c.args.self.now.order) (rule_of c.args.self.now)
