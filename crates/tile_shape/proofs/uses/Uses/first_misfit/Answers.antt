use Rattle.std.proofs.Common.{◌+◌, map, drop, get_or, sym, ap, ◌∙◌, arith}
use Rattle.std.proofs.lemmas.List.{drop_more}
use Rattle.tile_shape.specs.Misfit.{climb_fault}
use Rattle.tile_shape.specs.Views.{step_of}
use Rattle.tile_shape.proofs.Misfits.{climbed, same_kind}
use Rattle.tile_shape.proofs.uses.Uses.first_misfit.Goals as goal

pub loop-step-preserved : goal.loop-step-preserved
loop-step-preserved c =
    let here = c.loop-step in
    let steps = c.as_slice-step-items.result.now in
    let step = get_or steps here.step-index (record { child = 0; parent = 0 }) in
    record {
      counted = omega (arith, here.invariant.counted);
      same_fault =
          here.invariant.same_fault
          ∙ ap (λ ds. climb_fault c.args.self.now here.level here.kind (map step_of ds))
          (drop_more steps here.step-index (record { child = 0; parent = 0 }) c.loop-step-test.true)
          ∙ climbed c.args.self.now here.level here.kind (step_of step)
          (map step_of (drop (here.step-index + 1) steps))
          (sym c.child_kind.ensures.exact ∙ same_kind c.child_kind.result here.kind c.if-ne.ensures);
    }
