use Rattle.std.proofs.Common.{◌≤◌, map, length, sym, ap, subst, ◌∙◌, arith}
use Rattle.std.proofs.lemmas.Grind.{common_steps}
use Rattle.std.proofs.lemmas.List.{take_all}
use Rattle.std.proofs.lemmas.Simd.{map-map}
use Rattle.theory_substitution.specs.Rule.{EdgeType}
use Rattle.rule_model.specs.declared.type_row.TypeRow.{TypeRow}
use Rattle.rule_model.specs.Views.{as_type}
use Rattle.dissect_check.proofs.tables.mates_of_types.Goals as goal

pub returns : goal.returns
returns c =
    let rows = c.args.rule.now.types.items in
    c.loop-row.invariant ∙ ap (map (λ (t : TypeRow). t.mate))
    (take_all c.loop-row.row-index rows (subst (λ xs. length xs ≤ c.loop-row.row-index)
    c.deref-row-items.ensures.value c.loop-row-test.false))
    ∙ sym (map-map (λ (t : EdgeType). t.mate) as_type rows)

pub loop-row-preserved : goal.loop-row-preserved
loop-row-preserved c = grind (arith, common_steps)
