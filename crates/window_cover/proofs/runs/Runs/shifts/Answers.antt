use Rattle.std.proofs.Common.{subst}
use Rattle.cyclo_points.specs.declared.motion.Motion.{Motion}
use Rattle.window_cover.specs.declared.run.Run.{Run}
use Rattle.window_cover.specs.Reach.{HoldRun, still_run}
use Rattle.window_cover.specs.Words.{AreHeld}
use Rattle.window_cover.proofs.Reached.{held-run_more}
use Rattle.window_cover.proofs.runs.Runs.shifts.Goals as goal

pub loop-run-preserved : goal.loop-run-preserved
loop-run-preserved c = record {
  fields = c.widened-fields.ensures.fields;
  held = held-run_more (HoldRun c.loop-run.fields) (HoldRun c.widened-fields.result)
      (λ (r : Run) h. c.widened-fields.ensures.kept (still_run r.shift) 0 h)
      c.as_slice-runs.result.now c.loop-run.run-index _ c.loop-run-test.true c.loop-run.invariant.held
      (subst (λ (m : Motion). AreHeld c.widened-fields.result m 0) c.in_ok-motion_of-2.ensures.motion c.widened-fields.ensures.held);
}
