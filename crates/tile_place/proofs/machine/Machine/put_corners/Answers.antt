use Rattle.std.proofs.Common.{◌≡◌, ◌+◌, ◌<◌, length, ap, subst, ◌∙◌, arith}
use Rattle.theory_substitution.specs.RuleParts.{edge_count}
use Rattle.rule_model.specs.declared.rule.Rule.{Rule}
use Rattle.rule_model.specs.Tiling.{tiling_of}
use Rattle.rule_model.specs.Usable.{origin}
use Rattle.rule_model.specs.Views.{rule_of}
use Rattle.tile_place.specs.Corners.{IsCorner}
use Rattle.tile_place.proofs.TurnedPlaces.{one-more}
use Rattle.tile_place.proofs.machine.Machine.put_corners.Goals as goal

pub corner-requires-clause-vertex_exists : goal.corner-requires-clause-vertex_exists
corner-requires-clause-vertex_exists c =
    subst (λ n. c.loop-number.number < n) (c.vertices-number-end.ensures.each_edge
    ∙ ap (λ (r : Rule). edge_count (rule_of r) c.args.kind) c.checked.ensures.rule)
    c.loop-number-test.true

pub loop-number-preserved : goal.loop-number-preserved
loop-number-preserved c = record {
  count = c.push.ensures.len ∙ ap (λ n. n + 1) c.loop-number.invariant.count;
  each = one-more origin (IsCorner (tiling_of c.args.self.now) c.args.kind c.args.motion.now)
      c.loop-number.corners.items c.push.new.self.items c.corner.result c.loop-number.number
      c.loop-number.invariant.count
      c.push.ensures.items c.loop-number.invariant.each c.corner.ensures;
}

pub returns-clause-corners : goal.returns-clause-corners
returns-clause-corners c =
    let all : c.loop-number.number ≡ length c.vertices-number-end.result.now = omega
    (arith, c.loop-number.auto.number-end, c.loop-number-test.false) in
    record {
      count = c.loop-number.invariant.count ∙ all ∙ c.vertices-number-end.ensures.each_edge
          ∙ ap (λ (r : Rule). edge_count (rule_of r) c.args.kind) c.checked.ensures.rule;
      each = λ e h. c.loop-number.invariant.each e (omega (arith, h, c.loop-number.invariant.count));
    }
