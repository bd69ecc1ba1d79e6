use Rattle.std.proofs.Common.{◌≤◌, length, arith, sym, ◌∙◌, subst}
use Rattle.std.proofs.lemmas.Result.{IfOk-from_err}
use Rattle.rule_model.specs.Tiling.{tiling_of}
use Rattle.theory_walks.proofs.Walks.{GrowsTo-then}
use Rattle.window_cover.specs.Windows.{IsLeastForWindow}
use Rattle.window_cover.specs.Causes.{HasCoverCause}
use Rattle.window_cover.specs.Limits.{IsCoverWithinLimits}
use Rattle.theory_walks.proofs.Outcomes.{if_err-is}
use Rattle.window_cover.proofs.Outcomes.{no_memory-on}
use Rattle.window_cover.proofs.HandedOn.{handed_on, came_to}
use Rattle.window_cover.proofs.Searches.{none-open, cause-before}
use Rattle.window_cover.proofs.tiles_of_window.searched.Goals as goal

pub loop-first-init : goal.loop-first-init
loop-first-init g c = record {
  grows = c.start.ensures.ends.frame;
  right = c.in_ok-cover.ensures.right;
  its_window = c.in_ok-cover.ensures.begun.its_window;
  not_beyond = c.start.ensures.ends.not_beyond;
}

pub loop-first-smaller : goal.loop-first-smaller
loop-first-smaller g c =
    let few : length c.loop-first.cover.found ≤ 200000 = c.loop-first.invariant.right.not_too_many in
    let more = c.in_ok-advance.ensures.next.one_more in
    omega (arith, few, more)

pub loop-first-preserved : goal.loop-first-preserved
loop-first-preserved g c =
    let t = tiling_of c.args.machine.now in
    let old = c.args.frame.now in
    let here = c.loop-first.frame in
    let before = c.loop-first.invariant in
    record {
      grows = GrowsTo-then t old here c.advance.new.frame before.grows c.in_ok-advance.ensures.frame;
      right = c.in_ok-advance.ensures.next.right;
      its_window = c.in_ok-advance.ensures.next.steps_to.same_window ∙ before.its_window;
      not_beyond = λ n h. c.in_ok-advance.ensures.not_beyond old n before.grows
          (subst (λ w. IsLeastForWindow t old w n) (sym before.its_window) h) (before.not_beyond n h);
    }

pub returns-in_err-cover-clause-ended : goal.returns-in_err-cover-clause-ended
returns-in_err-cover-clause-ended g c = IfOk-from_err c.from_residual.result _ c.from_residual.ensures.0

pub returns-in_err-advance-clause-ended : goal.returns-in_err-advance-clause-ended
returns-in_err-advance-clause-ended g c = IfOk-from_err c.from_residual-in_err-advance.result _ c.from_residual-in_err-advance.ensures.0

pub returns-clause-ended : goal.returns-clause-ended
returns-clause-ended g c = record {
  begun = record { its_window = c.loop-first.invariant.its_window; centre_found = c.in_ok-cover.ensures.begun.centre_found };
  right = c.loop-first.invariant.right;
  none_open = none-open c.loop-first.cover.border (sym c.first_open.ensures ∙ c.in_default.is);
}

-- ---- plain, and here since the records are large
pub advance-requires-clause-right : goal.advance-requires-clause-right
advance-requires-clause-right g c = c.loop-first.invariant.right

-- ---- how it ends
pub returns-in_err-cover-clause-ends : goal.returns-in_err-cover-clause-ends
returns-in_err-cover-clause-ends g c = handed_on (tiling_of c.args.machine.now) c.args.frame.now c.start.new.frame c.args.window.now
    c.start.result c.from_residual.result c.in_err-cover.field-0.0 c.in_err-cover.was c.from_residual.ensures.1 c.start.ensures.ends

pub returns-in_err-advance-clause-ends : goal.returns-in_err-advance-clause-ends
returns-in_err-advance-clause-ends g c =
    let t = tiling_of c.args.machine.now in
    let f = c.args.frame.now in
    let here = c.loop-first.frame in
    let after = c.advance.new.frame in
    let before = c.loop-first.invariant in
    let fault = c.in_err-advance.field-0.0 in
    record {
      frame = GrowsTo-then t f here after before.grows c.in_err-advance.ensures.frame;
      not_beyond = λ n h. c.advance.ensures.not_beyond f n before.grows
          (subst (λ w. IsLeastForWindow t f w n) (sym before.its_window) h) (before.not_beyond n h);
      answered = λ h. no_memory-on c.advance.result c.from_residual-in_err-advance.result fault
          c.in_err-advance.was c.from_residual-in_err-advance.ensures.1
          (c.advance.ensures.within f before.grows (subst (IsCoverWithinLimits t f) (sym before.its_window) h));
      cause = if_err-is _ c.from_residual-in_err-advance.result fault c.from_residual-in_err-advance.ensures.1
          (cause-before t f here before.grows after c.args.window.now fault
          (subst (λ w. HasCoverCause t here after w fault) before.its_window c.in_err-advance.ensures.cause));
    }

pub returns-clause-ends : goal.returns-clause-ends
returns-clause-ends g c = came_to (tiling_of c.args.machine.now) c.args.frame.now c.loop-first.frame c.args.window.now c.loop-first.cover
    c.loop-first.invariant.grows c.loop-first.invariant.not_beyond
