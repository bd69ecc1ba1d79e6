use Rattle.std.proofs.Common.{sym, ◌∙◌}
use Rattle.call_words.proofs.CommaNumbers.{half_one, half_two}
use Rattle.call_words.proofs.Commas.{found_none, found_some}
use Rattle.call_words.proofs.window_words.half_in.Goals as goal

pub returns-in_err-width-clause-half : goal.returns-in_err-width-clause-half
returns-in_err-width-clause-half c = c.from_residual.ensures
    ∙ sym (half_one c.args.text.now (found_none c.args.text.now c.split_once.result c.split_once.ensures.cases
    c.in_err-width.was))

pub returns-clause-half : goal.returns-clause-half
returns-clause-half c =
    let parts = found_some c.args.text.now c.split_once.result (c.in_ok-width.width, c.in_ok-width.height)
    c.split_once.ensures.cases c.in_ok-width.was in
    c.extents_of_texts.ensures.half ∙ sym (half_two c.args.text.now c.in_ok-width.width.now c.in_ok-width.height.now parts.0 parts.1)
