use Rattle.rule_model.specs.Usable.{no_child}
use Rattle.rule_model.proofs.Views.{child-in}
use Rattle.rule_model.proofs.rule.Rule.child.Goals as goal

pub returns-clause-numbers : goal.returns-clause-numbers
returns-clause-numbers c o = child-in o c.args.self.now c.args.kind c.args.i c.listed_child.result no_child
    c.requires.i_in (c.listed_child.ensures no_child)
