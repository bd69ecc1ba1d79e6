use Rattle.std.proofs.Common.{◌≡◌, length, sym, ap, ◌∙◌, subst, arith}
use Rattle.std.proofs.lemmas.Grind.{common_steps}
use Rattle.rule_model.specs.declared.rule.Rule.{Rule}
use Rattle.rule_model.specs.Tiling.{tiling_of}
use Rattle.rule_model.specs.Views.{rule_in}
use Rattle.half_glue.proofs.KindSides.{AreFirstSides, side-more}
use Rattle.half_glue.proofs.glue_side.glue_sides.Goals as goal

pub loop-kind-preserved : goal.loop-kind-preserved
loop-kind-preserved c =
    subst (AreFirstSides (tiling_of c.args.machine.now) _) (sym c.in_ok-push.ensures.items)
    (side-more (tiling_of c.args.machine.now) c.loop-kind.kind c.loop-kind.sides.items c.glue_side.result c.loop-kind.invariant c.glue_side.ensures)

pub returns : goal.returns
returns c =
    let m = c.args.machine.now in
    let all_done : c.loop-kind.kind ≡ c.kind_count-count.result = omega (arith, c.loop-kind-test.false, c.loop-kind.auto.kind-end) in
    record {
      each_kind = c.loop-kind.invariant.0 ∙ all_done ∙ c.kind_count-count.ensures.numbers m.order
          ∙ ap (λ (r : Rule). length (rule_in m.order r).kinds)
          (c.rule.ensures.rule ∙ c.checked.ensures.rule);
      each = λ k l. c.loop-kind.invariant.1 k (let same = c.loop-kind.invariant.0 in omega (arith, l, same));
    }

pub loop-kind-init : goal.loop-kind-init
loop-kind-init c = grind arith

pub overflow_cast-kind : goal.overflow_cast-kind
overflow_cast-kind c = grind arith

pub glue_side-requires : goal.glue_side-requires
glue_side-requires c = grind (arith, common_steps)
