use Rattle.rule_model.specs.Usable.{no_child}
use Rattle.builtin_rules.proofs.Placeable.{child_listed, child_number}
use Rattle.builtin_rules.proofs.placing.NamedPlacingPlacing.child.Goals as goal

pub returns-clause-number : goal.returns-clause-number
returns-clause-number c =
    let w = c.args.self.now in
    child_number w.order w.rule c.args.kind c.args.child c.listed_child.result no_child
    (child_listed w.order w.rule c.args.kind c.args.child c.requires.child_exists)
    (c.listed_child.ensures.lists no_child)
