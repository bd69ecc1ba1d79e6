use Rattle.std.proofs.Common.{◌∙◌, arith}
use Rattle.std.proofs.lemmas.Grind.{elements}
use Rattle.half_glue.proofs.OwnRule.{kind-listed, edge-listed, type-listed}
use Rattle.half_glue.proofs.glue_side.are_mates.Goals as goal

pub edge_type-own-requires-clause-kind_in : goal.edge_type-own-requires-clause-kind_in
edge_type-own-requires-clause-kind_in c =
    kind-listed c.args.machine.now _ (c.rule-rule.ensures.rule ∙ c.checked.ensures.rule) _ _ c.from.ensures c.requires.own.exists

pub edge_type-own-requires-clause-edge_in : goal.edge_type-own-requires-clause-edge_in
edge_type-own-requires-clause-edge_in c =
    edge-listed c.args.machine.now _ (c.rule-rule.ensures.rule ∙ c.checked.ensures.rule) _ _ _ _ c.from.ensures c.from-2.ensures
    c.requires.own.glue_edge.exists

pub edge_type-its-requires-clause-kind_in : goal.edge_type-its-requires-clause-kind_in
edge_type-its-requires-clause-kind_in c =
    kind-listed c.args.machine.now _ (c.rule-rule.ensures.rule ∙ c.checked.ensures.rule) _ _ c.from-3.ensures c.requires.other.exists

pub edge_type-its-requires-clause-edge_in : goal.edge_type-its-requires-clause-edge_in
edge_type-its-requires-clause-edge_in c =
    edge-listed c.args.machine.now _ (c.rule-rule.ensures.rule ∙ c.checked.ensures.rule) _ _ _ _ c.from-3.ensures c.from-4.ensures
    c.requires.other.glue_edge.exists

pub mate-requires : goal.mate-requires
mate-requires c =
    type-listed c.args.machine.now _ (c.rule-rule.ensures.rule ∙ c.checked.ensures.rule) c.glue_laws.ensures _ _ _ _ c.from.ensures
    c.from-2.ensures c.requires.own.exists c.requires.own.glue_edge.exists _ (c.edge_type-own.ensures.numbers c.args.machine.now.order)

pub returns : goal.returns
returns c = grind (arith, elements)
