use Rattle.std.proofs.Common.{◌≡◌, ℕ, subst, ap, ◌∙◌}
use Rattle.theory_substitution.specs.RuleParts.{child_of}
use Rattle.cyclo_points.specs.Order.{points_of}
use Rattle.rule_model.specs.declared.rule.Rule.{Rule}
use Rattle.rule_model.specs.Views.{rule_of, child_in}
use Rattle.rule_model.proofs.checked.Checked.child.Goals as goal

pub returns-clause-number : goal.returns-clause-number
returns-clause-number c =
    let r = c.rule.result.now in
    subst (λ (r : Rule). child_in r.order c.tile.result ≡ child_of (points_of r.order) (rule_of r) c.args.kind c.args.child) c.rule.ensures.rule
    (c.tile.ensures.number ∙ ap (λ (k : ℕ). child_of (points_of r.order) (rule_of r) k c.from-2.result)
    c.from.ensures ∙ ap (λ (i : ℕ). child_of (points_of r.order) (rule_of r) c.args.kind i)
    c.from-2.ensures)
