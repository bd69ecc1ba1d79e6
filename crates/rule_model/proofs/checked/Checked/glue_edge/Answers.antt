use Rattle.std.proofs.Common.{◌≡◌, ◌↔◌, ℕ, None, IfSome, subst}
use Rattle.rule_model.specs.declared.rule.Rule.{Rule}
use Rattle.rule_model.specs.Glue.{IsGlueEdge}
use Rattle.rule_model.specs.Views.{rule_of}
use Rattle.rule_model.proofs.Glue.{only_glue_edge}
use Rattle.rule_model.proofs.checked.Checked.glue_edge.Goals as goal

pub returns-clause-none : goal.returns-clause-none
returns-clause-none c =
    let x = c.first_glue_edge.result in
    subst (λ (r : Rule). (x ≡ None) ↔ ((e : ℕ) → ¬ IsGlueEdge (rule_of r) c.args.kind e)) c.rule.ensures.rule
    (subst (λ (k : ℕ). (x ≡ None) ↔ ((e : ℕ) → ¬ IsGlueEdge (rule_of c.rule.result.now) k e)) c.from.ensures c.first_glue_edge.ensures.none)

pub returns-clause-only : goal.returns-clause-only
returns-clause-only c =
    let x = c.first_glue_edge.result in
    only_glue_edge (rule_of c.args.self.now) c.rule.ensures.accepted.edge_to_edge.glue_right c.args.kind c.requires.exists x
    (subst (λ (r : Rule). IfSome x (λ e. IsGlueEdge (rule_of r) c.args.kind e)) c.rule.ensures.rule
    (subst (λ (k : ℕ). IfSome x (λ e. IsGlueEdge (rule_of c.rule.result.now) k e)) c.from.ensures c.first_glue_edge.ensures.some))
