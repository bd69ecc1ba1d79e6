use Rattle.std.specs.Prelude.{nat_eq}
use Rattle.std.specs.List.{list_any}
use Rattle.std.proofs.Common.{ℕ, ◌||◌, arith, sym, ap, ◌∙◌}
use Rattle.theory_substitution.specs.RuleParts.{mate, edge_types}
use Rattle.theory_edge_to_edge.specs.Glue.{glue_type}
use Rattle.rule_model.specs.Views.{rule_of}
use Rattle.theory_addresses.proofs.BoolLoops.{some_below-found}
use Rattle.dissect_check.proofs.glue.is_glued_before.Goals as goal

pub returns-then-has_edge_along : goal.returns-then-has_edge_along
returns-then-has_edge_along c =
    let o = c.args.rule.now.order in
    let r = rule_of c.args.rule.now in
    let along = λ (ty : ℕ). list_any (λ (t : ℕ). nat_eq t ty || nat_eq t (mate r ty)) (edge_types r c.args.kind) in
    sym (some_below-found (λ (i : ℕ). along (glue_type r i)) c.loop-i.i c.args.n
    (ap along (sym (c.glue_type.ensures.numbers o)) ∙ sym c.has_edge_along.ensures ∙ c.if-has_edge_along.true) (omega arith))
