use Rattle.std.proofs.Common.{[], ◌∷◌, sym, ◌∙◌, arith}
use Rattle.std.proofs.lemmas.Grind.{common_steps}
use Rattle.call_words.proofs.CommaNumbers.{at_one, at_two, at_three, at_four, at_found}
use Rattle.call_words.proofs.Commas.{found_none}
use Rattle.call_words.proofs.window_words.at_in.Goals as goal

pub returns-in_err-first-clause-point : goal.returns-in_err-first-clause-point
returns-in_err-first-clause-point c = c.from_residual.ensures
    ∙ sym (at_one c.args.text.now (found_none c.args.text.now c.split_once.result c.split_once.ensures.cases
    c.in_err-first.was))

pub returns-in_err-second-clause-point : goal.returns-in_err-second-clause-point
returns-in_err-second-clause-point c =
    let a = c.in_ok-first in
    c.from_residual-in_err-second.ensures ∙ sym (at_found [] c.args.text.now c.split_once.result (a.first, a.rest) c.split_once.ensures.cases a.was
    ∙ at_two a.first.now a.rest.now (found_none a.rest.now c.split_once-2.result c.split_once-2.ensures.cases c.in_err-second.was))

pub returns-in_err-third-clause-point : goal.returns-in_err-third-clause-point
returns-in_err-third-clause-point c =
    let a = c.in_ok-first in
    let b = c.in_ok-second in
    c.from_residual-in_err-third.ensures ∙ sym (at_found [] c.args.text.now c.split_once.result (a.first, a.rest) c.split_once.ensures.cases a.was
    ∙ at_found (a.first.now ∷ []) a.rest.now c.split_once-2.result (b.second, b.rest) c.split_once-2.ensures.cases b.was
    ∙ at_three a.first.now b.second.now b.rest.now (found_none b.rest.now c.split_once-3.result c.split_once-3.ensures.cases c.in_err-third.was))

pub returns-clause-point : goal.returns-clause-point
returns-clause-point c =
    let a = c.in_ok-first in
    let b = c.in_ok-second in
    let d = c.in_ok-third in
    c.point_of_texts.ensures.point ∙ sym (at_found [] c.args.text.now c.split_once.result (a.first, a.rest) c.split_once.ensures.cases a.was
    ∙ at_found (a.first.now ∷ []) a.rest.now c.split_once-2.result (b.second, b.rest) c.split_once-2.ensures.cases b.was
    ∙ at_found (a.first.now ∷ (b.second.now ∷ [])) b.rest.now c.split_once-3.result (d.third, d.fourth) c.split_once-3.ensures.cases d.was
    ∙ at_four a.first.now b.second.now d.third.now d.fourth.now)

pub point_of_texts-requires-text-first : goal.point_of_texts-requires-text-first
point_of_texts-requires-text-first c = grind (arith, common_steps)
