use Rattle.std.proofs.Common.{ℕ, List, ap}
use Rattle.tile_io.specs.Taken.{Takes}
use Rattle.tile_app.specs.Answer.{Prints}
use Rattle.tile_app.specs.Asked.{OfCall}
use Rattle.tile_app.specs.Causes.{IsRefused}
use Rattle.call_words.specs.Words.{texts}
use Rattle.tile_app.proofs.Answered.{same_asked, refused_when, beyond_limits, complete}
use Rattle.tile_app.proofs.Headline.{only_neighbour, exactly_the_window, whole_tiles, with_same}
use Rattle.tile_app.proofs.run.run.Goals as goal

-- what was answered for the words and the layers as slices
pub returns-clause-done : goal.returns-clause-done
returns-clause-done g c = λ e.
    with_same _ (texts c.as_slice.result.now) _ _ _
    (λ words handed. OfCall words handed (g.R.Source.left c.args.source.now) (g.R.Source.left c.answer-status.new.source)
    (λ call. (text : List ℕ) × Prints call text × Takes (g.W.Sink.taken c.args.sink.now) (g.W.Sink.taken c.answer-status.new.sink) text))
    (ap texts c.as_slice.ensures.value) c.as_mut_slice.ensures.value (c.answer-status.ensures.done e)

pub returns-clause-only_neighbour : goal.returns-clause-only_neighbour
returns-clause-only_neighbour g c = λ rule addr edge e right. only_neighbour _ _ _ _ _ (returns-clause-done g c e) rule addr edge right

pub returns-clause-exactly_the_window : goal.returns-clause-exactly_the_window
returns-clause-exactly_the_window g c = λ rule addr seed window formats e right.
    exactly_the_window _ _ _ _ _ (returns-clause-done g c e) rule addr seed window formats right

pub returns-clause-whole_tiles : goal.returns-clause-whole_tiles
returns-clause-whole_tiles g c = λ rule addr seed window formats e right.
    whole_tiles _ _ _ _ _ (returns-clause-done g c e) rule addr seed window formats right

pub returns-clause-refused : goal.returns-clause-refused
returns-clause-refused g c = λ e.
    with_same _ (texts c.as_slice.result.now) _ _ _
    (λ words handed. IsRefused words handed (g.R.Source.left c.args.source.now) (g.R.Source.left c.answer-status.new.source) c.answer-status.result)
    (ap texts c.as_slice.ensures.value) c.as_mut_slice.ensures.value (c.answer-status.ensures.refused e)

-- each by the laws, from what was answered
pub returns-clause-refused_when : goal.returns-clause-refused_when
returns-clause-refused_when g c = λ r status asked cause no_limit.
    refused_when (texts c.as_slice.result.now) _ (g.R.Source.left c.args.source.now) (g.R.Source.left c.answer-status.new.source) r
    (same_asked _ _ _ _ _ _ r asked (ap texts c.as_slice.ensures.value) c.as_mut_slice.ensures.value)
    (record {
      one_text = c.text_law.ensures;
      short = c.short_numbers_law.ensures;
      usable = c.accepted_children_law.ensures;
      one_outcome = c.one_answer_law.ensures;
      one_verdict = c.builtin_verdict_law.ensures;
    })
    c.answer-status.result status c.answer-status.ensures.done c.answer-status.ensures.part c.answer-status.ensures.refused cause no_limit

pub returns-clause-beyond_limits : goal.returns-clause-beyond_limits
returns-clause-beyond_limits g c = λ r asked beyond.
    beyond_limits (texts c.as_slice.result.now) _ (g.R.Source.left c.args.source.now) (g.R.Source.left c.answer-status.new.source) r
    (same_asked _ _ _ _ _ _ r asked (ap texts c.as_slice.ensures.value) c.as_mut_slice.ensures.value)
    (record {
      one_text = c.text_law.ensures;
      short = c.short_numbers_law.ensures;
      usable = c.accepted_children_law.ensures;
      one_outcome = c.one_answer_law.ensures;
      one_verdict = c.builtin_verdict_law.ensures;
    })
    c.answer-status.result c.answer-status.ensures.done c.answer-status.ensures.part c.answer-status.ensures.refused beyond

pub returns-clause-complete : goal.returns-clause-complete
returns-clause-complete g c = λ r asked can sink source.
    complete (texts c.as_slice.result.now) _ (g.R.Source.left c.args.source.now) (g.R.Source.left c.answer-status.new.source) r
    (same_asked _ _ _ _ _ _ r asked (ap texts c.as_slice.ensures.value) c.as_mut_slice.ensures.value)
    (record {
      one_text = c.text_law.ensures;
      short = c.short_numbers_law.ensures;
      usable = c.accepted_children_law.ensures;
      one_outcome = c.one_answer_law.ensures;
      one_verdict = c.builtin_verdict_law.ensures;
    })
    c.answer-status.result c.answer-status.ensures.refused can
    (λ e. sink (c.answer-status.ensures.write_fault e))
    (λ e. source (c.answer-status.ensures.read_fault e))
