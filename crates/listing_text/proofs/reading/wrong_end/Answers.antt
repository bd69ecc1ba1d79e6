use Rattle.std.proofs.Common.{◌≡◌, ◌∷◌, IfNone, sym, ap, ◌∙◌, subst}
use Rattle.cyclo_points.specs.Text.{blank}
use Rattle.listing_text.specs.Views.{texts_behind}
use Rattle.listing_text.proofs.LineRead.{no_fourth, a_fifth, no_address}
use Rattle.listing_text.proofs.reading.wrong_end.Goals as goal

pub returns-then-is_empty : goal.returns-then-is_empty
returns-then-is_empty c = λ children kind motion refused.
    no_fourth children c.args.line c.args.text.now kind motion c.args.text.now c.cut.result.0.now
    (texts_behind blank c.cut.result.1) c.cut.ensures.texts (sym c.is_empty.ensures ∙ c.if-is_empty.true)

pub returns-in-Some : goal.returns-in-Some
returns-in-Some c = λ children kind motion refused.
    a_fifth children c.args.line c.args.text.now kind motion c.args.text.now c.cut.result.0.now c.in-Some.field-0.now
    (c.cut.ensures.texts ∙ ap (λ l. c.cut.result.0.now ∷ texts_behind blank l) c.in-Some.is) (sym c.is_empty.ensures ∙ c.if-is_empty.false)

pub returns-in-None : goal.returns-in-None
returns-in-None c = λ children kind motion refused.
    no_address children c.args.line c.args.text.now kind motion c.args.text.now c.cut.result.0.now c.args.fault
    (c.cut.ensures.texts ∙ ap (λ l. c.cut.result.0.now ∷ texts_behind blank l) c.in-None.is)
    (subst (λ l. IfNone l (c.cut.result.0.now ≡ c.args.text.now)) c.in-None.is c.cut.ensures.whole)
    (sym c.is_empty.ensures ∙ c.if-is_empty.false) refused
