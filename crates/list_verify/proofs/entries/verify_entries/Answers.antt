use Rattle.std.proofs.Common.{Ok, ap, ◌∙◌, subst}
use Rattle.rule_model.specs.declared.rule.Rule.{Rule}
use Rattle.rule_model.specs.Tiling.{tiling_of}
use Rattle.tile_place.proofs.Plane.{IsSettled, its_rule}
use Rattle.list_verify.specs.FoundLines.{entries_of}
use Rattle.list_verify.specs.Listing.{Reading}
use Rattle.list_verify.specs.OneVerdict.{HasOneVerdictOn, OneVerdictLaw}
use Rattle.list_verify.specs.Verdict.{IsVerdictOn}
use Rattle.list_verify.proofs.Verdicts.{complete, told, lacking}
use Rattle.list_verify.proofs.entries.verify_entries.Goals as goal

pub returns : goal.returns
returns c =
    let reading : Reading = Ok (entries_of c.args.entries.items) in
    let settled : IsSettled c.args.machine.now = record {
      accepted = c.checked.ensures.accepted;
      usable = c.checked.ensures.usable;
      same_child_kinds = c.checked.ensures.same_child_kinds;
    } in
    let one : HasOneVerdictOn (tiling_of c.args.machine.now) c.args.frame.now c.args.window.now reading =
    subst OneVerdictLaw (c.order.ensures.order ∙ ap (λ (r : Rule). r.order) c.checked.ensures.rule) c.one_verdict_law.ensures
    (its_rule c.args.machine.now settled) c.args.frame.now c.args.window.now reading c.requires.frame c.requires.window_fits in
    let v = subst (λ lines. IsVerdictOn (tiling_of c.args.machine.now) c.args.frame.now c.verdict_of.new.frame
    c.args.window.now (let r : Reading = Ok (entries_of lines) in r) c.verdict_of.result)
    c.as_mut_slice.ensures.value c.verdict_of.ensures in
    record {
      verdict = v;
      complete = complete (tiling_of c.args.machine.now) c.args.frame.now c.verdict_of.new.frame c.args.window.now reading one
          c.verdict_of.result v.right v.cause;
      told = told (tiling_of c.args.machine.now) c.args.frame.now c.verdict_of.new.frame c.args.window.now reading one
          c.verdict_of.result v.right v.cause;
      lacking = lacking (tiling_of c.args.machine.now) c.args.frame.now c.verdict_of.new.frame c.args.window.now reading one
          c.verdict_of.result v.right v.cause;
    }
