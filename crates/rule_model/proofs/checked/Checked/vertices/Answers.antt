use Rattle.std.proofs.Common.{ℕ, ap, ◌∙◌}
use Rattle.theory_substitution.specs.RuleParts.{vertices_of}
use Rattle.rule_model.specs.declared.rule.Rule.{Rule}
use Rattle.rule_model.specs.Views.{as_rule}
use Rattle.rule_model.proofs.Usable.{vertices_small}
use Rattle.rule_model.proofs.checked.Checked.vertices.Goals as goal

pub returns-clause-small : goal.returns-clause-small
returns-clause-small c =
    vertices_small c.args.self.now c.args.kind c.vertices.result.now c.rule.ensures.usable c.requires.exists
    (c.vertices.ensures.lists ∙ ap (λ (r : Rule). vertices_of (as_rule r) c.from.result) c.rule.ensures.rule
    ∙ ap (λ (k : ℕ). vertices_of (as_rule c.args.self.now) k) c.from.ensures)
