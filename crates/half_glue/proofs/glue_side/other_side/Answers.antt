use Rattle.std.proofs.Common.{sym, ◌∙◌, subst, arith}
use Rattle.std.proofs.lemmas.Grind.{common_steps, elements}
use Rattle.std.proofs.lemmas.Bool.{eqb-true}
use Rattle.theory_substitution.specs.RuleParts.{mate, edge_type}
use Rattle.rule_model.specs.declared.rule.Rule.{Rule}
use Rattle.rule_model.specs.Glue.{IsOnlyGlueEdge}
use Rattle.rule_model.specs.Tiling.{tiling_of}
use Rattle.half_glue.proofs.Across.{glue-edge-there}
use Rattle.half_glue.proofs.GlueTypes.{other-edge}
use Rattle.half_glue.proofs.glue_side.other_side.Goals as goal

pub meets-requires-clause-edge_exists : goal.meets-requires-clause-edge_exists
meets-requires-clause-edge_exists c = glue-edge-there c.args.machine.now c.glue_laws.ensures c.args.own.kind c.args.own.edge c.requires.glue_edge

pub meets-requires-clause-other_exists : goal.meets-requires-clause-other_exists
meets-requires-clause-other_exists c =
    glue-edge-there c.args.machine.now c.glue_laws.ensures c.loop-other.other c.in-Some.back
    (subst (λ (r : Rule). IsOnlyGlueEdge (tiling_of r).rule c.loop-other.other c.in-Some.back)
    c.checked-in-loop-other.ensures.rule c.in-Some.ensures.only).glue_edge

pub glue_motion-requires-clause-edge_exists : goal.glue_motion-requires-clause-edge_exists
glue_motion-requires-clause-edge_exists c =
    glue-edge-there c.args.machine.now c.glue_laws.ensures c.args.own.kind c.args.own.edge c.requires.glue_edge

pub glue_motion-requires-clause-other_exists : goal.glue_motion-requires-clause-other_exists
glue_motion-requires-clause-other_exists c =
    glue-edge-there c.args.machine.now c.glue_laws.ensures c.loop-other.other c.in-Some.back
    (subst (λ (r : Rule). IsOnlyGlueEdge (tiling_of r).rule c.loop-other.other c.in-Some.back)
    c.checked-in-loop-other.ensures.rule c.in-Some.ensures.only).glue_edge

pub returns-then-meets : goal.returns-then-meets
returns-then-meets c =
    let m = c.args.machine.now in
    let L = c.glue_laws.ensures in
    let r = (tiling_of m).rule in
    let its = (subst (λ (r : Rule). IsOnlyGlueEdge (tiling_of r).rule c.loop-other.other c.in-Some.back)
    c.checked-in-loop-other.ensures.rule c.in-Some.ensures.only).glue_edge in
    let mates = eqb-true (edge_type r c.loop-other.other c.in-Some.back)
    (mate r (edge_type r c.args.own.kind c.args.own.edge)) (sym c.are_mates.ensures ∙ c.if-are_mates.true) in
    record {
      back_edge = c.in-Some.back;
      glue_edge = its;
      other_kind = (other-edge r L.accepted.edge_to_edge.glue_right L.accepted.edge_to_edge.mates_back
          L.usable.numbered.glue_exists c.args.own.kind c.args.own.edge c.loop-other.other c.in-Some.back
          c.requires.exists c.requires.glue_edge its.exists mates).other_kind;
      glues = c.glue_motion.ensures.glues;
      within = c.glue_motion.ensures.shift_within;
    }

pub glue_edge-requires : goal.glue_edge-requires
glue_edge-requires c = grind (arith, common_steps)

pub are_mates-requires : goal.are_mates-requires
are_mates-requires c = record {
  own = c.requires;
  other = record {
    exists = grind (arith, elements);
    glue_edge = (subst (λ (r : Rule). IsOnlyGlueEdge (tiling_of r).rule c.loop-other.other c.in-Some.back)
        c.checked-in-loop-other.ensures.rule c.in-Some.ensures.only).glue_edge;
  };
}
