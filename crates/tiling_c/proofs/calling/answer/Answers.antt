use Rattle.std.proofs.Common.{List, ℕ, Some, map, refl, sym, ap, ◌∙◌, subst}
use Rattle.call_words.specs.Words.{texts}
use Rattle.tiling_c.specs.Calling.{IsEnding, arguments_in, call_of}
use Rattle.tiling_c.proofs.KnownResults.{some_is}
use Rattle.tiling_c.proofs.RunEnds.{is_ending, no_rise}
use Rattle.tiling_c.proofs.calling.answer.Goals as goal

pub returns : goal.returns
returns c =
    let printed_whole = no_rise c.new-printed.result.faults c.run-status.new.sink.faults c.new-printed.ensures.no_faults
    (c.has_failed.ensures c.if-has_failed.false) in
    let noted_whole = no_rise c.new-noted.result.faults c.run-status.new.notes.faults c.new-noted.ensures.no_faults
    (c.has_failed-else-has_failed.ensures c.if-has_failed-2.false) in
    let answer = is_ending (texts c.in_ok-words.words.items) (arguments_in c.args.text.now) _ c.in_ok-source.source (Some c.run-status.new.source)
    c.in_ok-words.ensures (ap (map _) (sym c.as_slice.ensures.value) ∙ c.have_all_formats.ensures c.if-not-have_all_formats.false)
    c.run-status.result c.new-printed.result.bytes.items c.run-status.new.sink.bytes.items c.new-noted.result.bytes.items
    c.run-status.new.notes.bytes.items
    (c.is_cut_short.ensures c.if-is_cut_short.false) (some_is _ _ c.new-printed.ensures.empty) (some_is _ _ c.new-noted.ensures.empty)
    c.run-status.ensures.done c.run-status.ensures.refused c.run-status.ensures.refused_when c.run-status.ensures.beyond_limits
    (λ call asked can. c.run-status.ensures.complete call asked can printed_whole (no_rise 0 0 refl refl))
    (λ e. printed_whole (c.run-status.ensures.write_fault e)) (c.run-status.ensures.noted.whole noted_whole)
    c.run-status.ensures.noted.short in
    record {
      status = c.run-status.result;
      is_code = c.code.ensures;
      answer = subst (λ (input : List ℕ). IsEnding (call_of (arguments_in c.args.text.now) input) c.run-status.new.sink.bytes.items
          c.run-status.new.notes.bytes.items c.run-status.result) c.in_ok-source.ensures answer;
    }
