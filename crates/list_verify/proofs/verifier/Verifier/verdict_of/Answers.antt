use Rattle.std.proofs.Common.{length, Ok, sym, subst, arith}
use Rattle.std.proofs.lemmas.List.{length-map}
use Rattle.theory_walks.specs.Frames.{FrameValue}
use Rattle.listing_text.specs.Views.{entry_of}
use Rattle.rule_model.specs.Tiling.{tiling_of}
use Rattle.list_verify.specs.FoundLines.{entries_of}
use Rattle.list_verify.specs.Verdict.{IsVerdictOn}
use Rattle.list_verify.proofs.Answered.{stranger-refused, as-many, double-refused, on-frame, its-fault, walk-refused, walk-accepted}
use Rattle.list_verify.proofs.verifier.Verifier.verdict_of.Goals as goal

pub returns-in-Err : goal.returns-in-Err
returns-in-Err c =
    stranger-refused c.args.self.now.machine.now c.walk_laws.ensures c.args.frame.now c.requires.lines.frame c.args.self.now.window.now
    c.requires.window_fits (entries_of c.args.lines.now) c.lift_lines.new.frame c.in-Err.ensures.grown.grows
    c.in-Err.ensures.grown.depth c.in-Err.fault c.in-Err.ensures.fault

pub returns-in-Err-new : goal.returns-in-Err-new
returns-in-Err-new c =
    double-refused c.args.self.now.machine.now c.walk_laws.ensures c.args.frame.now c.requires.lines.frame c.args.self.now.window.now
    c.requires.window_fits (entries_of c.args.lines.now) c.lift_lines.new.frame c.in-Ok.ensures.grown.grows
    c.in-Ok.ensures.grown.depth c.lift_lines.new.lines c.in-Ok.ensures.lifted c.in-Err-new.fault c.in-Err-new.ensures.double

-- ---- the walk
pub run-requires : goal.run-requires
run-requires c = record {
  on_frame = record {
    lines = on-frame c.args.self.now.machine.now c.walk_laws.ensures c.args.frame.now c.requires.lines.frame c.args.self.now.window.now
        c.requires.window_fits (entries_of c.args.lines.now) c.lift_lines.new.frame c.in-Ok.ensures.grown.grows
        c.in-Ok.ensures.grown.depth c.lift_lines.new.lines c.in-Ok.ensures.lifted c.in-Ok-new.ensures.distinct;
    index = c.in-Ok-new.ensures.index;
    few =
        let many = as-many c.args.self.now.machine.now c.walk_laws.ensures c.args.frame.now c.requires.lines.frame c.args.self.now.window.now
        c.requires.window_fits (entries_of c.args.lines.now) c.lift_lines.new.frame c.in-Ok.ensures.grown.grows
        c.in-Ok.ensures.grown.depth c.lift_lines.new.lines c.in-Ok.ensures.lifted in
        let same = length-map c.args.lines.now entry_of in
        omega (arith, many, same, c.requires.lines.few);
    window_fits = c.requires.window_fits;
  };
}

pub returns : goal.returns
returns c =
    walk-refused c.args.self.now.machine.now c.walk_laws.ensures c.args.frame.now c.requires.lines.frame c.args.self.now.window.now
    c.requires.window_fits (entries_of c.args.lines.now) c.lift_lines.new.frame c.in-Ok.ensures.grown.grows
    c.in-Ok.ensures.grown.depth c.lift_lines.new.lines c.in-Ok.ensures.lifted c.in-Ok-new.ensures.distinct
    c.run.new.frame c.in-Err-run.fault (its-fault c.in-Err-run.ensures.fault)

pub returns-in-Ok-run : goal.returns-in-Ok-run
returns-in-Ok-run c =
    subst (λ (k : FrameValue). IsVerdictOn (tiling_of c.args.self.now.machine.now) c.args.frame.now k c.args.self.now.window.now
    (Ok (entries_of c.args.lines.now)) (Ok (length c.args.lines.now)))
    (sym c.in-Ok-run.ensures.right.stays)
    (walk-accepted c.args.self.now.machine.now c.walk_laws.ensures c.args.frame.now c.requires.lines.frame c.args.self.now.window.now
    c.requires.window_fits (entries_of c.args.lines.now) c.lift_lines.new.frame c.in-Ok.ensures.grown.grows
    c.in-Ok.ensures.grown.depth c.lift_lines.new.lines c.in-Ok.ensures.lifted c.in-Ok-new.ensures.distinct
    (length c.args.lines.now) (sym (length-map c.args.lines.now entry_of)) c.in-Ok-run.ensures.right.right)
