use Rattle.std.proofs.Common.{rules, ◌≡◌, ℕ, List, false, map, Ok, Err, IfOk, IfErr, sym, ap, ◌∙◌, subst}
use Rattle.std.proofs.lemmas.Result.{IfOk-weaker, IfErr-weaker}
use Rattle.call_words.specs.FormatWords.{first_lacking}
use Rattle.call_words.specs.declared.rule_choice.RuleChoice.TheVariants.{Builtin}
use Rattle.call_words.specs.Request.{Request, request_in, rule_asked}
use Rattle.call_words.specs.Request.Request.{Place}
use Rattle.call_words.specs.Views.{AnswersAs, IsWithinForms, request_of}
use Rattle.call_words.specs.Words.{texts}
use Rattle.call_words.specs.WrongWord.{place_refused}
use Rattle.rule_model.specs.Tiling.{tiling_of}
use Rattle.tile_io.specs.Causes.{Rose}
use Rattle.tile_app.specs.Answer.{Prints}
use Rattle.tile_app.specs.Asked.{OfCall}
use Rattle.tile_app.specs.Causes.{IsRefused}
use Rattle.tile_app.specs.Choices.{is_file}
use Rattle.tile_app.specs.Layers.{HaveLayers}
use Rattle.tile_app.specs.Reading.{IsRuleRead, IsRuleRefused, IsRequestRefused}
use Rattle.tile_app.specs.Tilings.{builtin_tiling}
use Rattle.tile_app.proofs.Own.{source_failed}
use Rattle.tile_app.proofs.PlacedByName.{named_printed, named_refused}
use Rattle.tile_app.proofs.Read.{refused_by, wrong_words, layer_lacks, rule_unread, own_unread, rule_refused, own_builtin, its_tiling, request_refused, prints_asked}
use Rattle.tile_app.proofs.TextAnswer.{text_told, text_refused, answer_unread}
use Rattle.tile_app.proofs.answer.answer_text.Given.{Over}
use Rattle.tile_app.proofs.answer.answer_text.Goals.{After-rule_chosen, In_ok-checked}
use Rattle.tile_app.proofs.answer.answer_text.Goals as goal

pub returns-in-Err-clause-refused : goal.returns-in-Err-clause-refused
returns-in-Err-clause-refused g c =
    let words = texts c.args.words.now in
    let asked : request_in words ≡ Err c.in-Err.place = subst (λ r. AnswersAs request_of r (request_in words))
    c.in-Err.is c.request_in.ensures.asked in
    wrong_words words (map g.D.Layer.form c.args.layers.now) (g.R.Source.left c.args.source.now) c.in-Err.place asked
    (sym c.request_in.ensures.bad_words ∙ ap (λ r. place_refused r) c.in-Err.is)

pub returns-in-Some-clause-refused : goal.returns-in-Some-clause-refused
returns-in-Some-clause-refused g c =
    let words = texts c.args.words.now in
    let handed = map g.D.Layer.form c.args.layers.now in
    let q = request_of c.in-Ok.request in
    let asked : request_in words ≡ Ok q = subst (λ r. AnswersAs request_of r (request_in words)) c.in-Ok.is c.request_in.ensures.asked in
    layer_lacks words handed (g.R.Source.left c.args.source.now) q c.in-Some.format asked
    (ap (first_lacking handed) (sym c.formats.ensures) ∙ sym c.first_lacking.ensures ∙ c.in-Some.is)

-- ---- right words, each of whose formats has a layer
right : (g : Over) (c : After-rule_chosen g) → request_in (texts c.args.words.now) ≡ Ok (request_of c.in-Ok.request)
right g c = subst (λ r. AnswersAs request_of r (request_in (texts c.args.words.now))) c.in-Ok.is c.request_in.ensures.asked

have : (g : Over) (c : After-rule_chosen g) → HaveLayers (request_of c.in-Ok.request) (map g.D.Layer.form c.args.layers.now)
have g c = ap (first_lacking (map g.D.Layer.form c.args.layers.now)) (sym c.formats.ensures) ∙ sym c.first_lacking.ensures ∙ c.in_default.is

-- the source is as it was where their rule has no file
unread : (g : Over) (c : After-rule_chosen g) → is_file (rule_asked (request_of c.in-Ok.request)) ≡ false
    → c.rule_chosen.new.source ≡ c.args.source.now
unread g c e = c.rule_chosen.ensures.untouched (ap is_file c.rule-rule.ensures ∙ e)

-- ---- the rule is refused
pub returns-in_err-checked-clause-refused : goal.returns-in_err-checked-clause-refused
returns-in_err-checked-clause-refused g c =
    let s = (goal.at.returns-in_err-checked-clause-refused g c).After-rule_chosen in
    let words = texts c.args.words.now in
    let handed = map g.D.Layer.form c.args.layers.now in
    let q = request_of c.in-Ok.request in
    let left = g.R.Source.left c.args.source.now in
    let rest = g.R.Source.left c.rule_chosen.new.source in
    let of_rule = subst (λ r. IfErr c.rule_chosen.result (IsRuleRefused r left rest)) c.rule-rule.ensures c.rule_chosen.ensures.refused in
    let h = refused_by (IsRuleRefused (rule_asked q) left rest) (IsRefused words handed left rest)
    (rule_refused words handed q (right g s) (have g s) left rest) c.rule_chosen.result of_rule in
    search (rules, h)

pub returns-in_err-checked-clause-untouched : goal.returns-in_err-checked-clause-untouched
returns-in_err-checked-clause-untouched g c = λ e.
    let s = (goal.at.returns-in_err-checked-clause-untouched g c).After-rule_chosen in
    unread g s (rule_unread (texts c.args.words.now) (map g.D.Layer.form c.args.layers.now) (request_of c.in-Ok.request) (right g s) (have g s) e)

-- ---- the rule was made, and the request has its tiling
made : (g : Over) (c : In_ok-checked g)
    → IsRuleRead (rule_asked (request_of c.in-Ok.request)) (g.R.Source.left c.args.source.now)
    (g.R.Source.left c.rule_chosen.new.source) (tiling_of c.in_ok-checked.checked)
made g c =
    subst (λ r. IsRuleRead r (g.R.Source.left c.args.source.now) (g.R.Source.left c.rule_chosen.new.source)
    (tiling_of c.in_ok-checked.checked)) c.rule-rule.ensures c.in_ok-checked.ensures.chosen

pub request_text-requires : goal.request_text-requires
request_text-requires g c =
    let s = goal.at.request_text-requires g c in
    record {
      within = subst (λ r. IfOk r IsWithinForms) c.in-Ok.is c.request_in.ensures.within;
      have_layers = have g s.After-rule_chosen;
      its_tiling = its_tiling (request_of c.in-Ok.request) (g.R.Source.left c.args.source.now)
          (g.R.Source.left c.rule_chosen.new.source) (tiling_of c.in_ok-checked.checked)
          (made g s.In_ok-checked);
    }

pub returns-clause-printed : goal.returns-clause-printed
returns-clause-printed g c =
    let s = goal.at.returns-clause-printed g c in
    let words = texts c.args.words.now in
    let handed = map g.D.Layer.form c.args.layers.now in
    let left = g.R.Source.left c.args.source.now in
    let mid = g.R.Source.left c.rule_chosen.new.source in
    let rest = g.R.Source.left c.request_text.new.source in
    IfOk-weaker c.request_text.result _ _
    (λ answer h.
    let k = prints_asked words handed (request_of c.in-Ok.request) (right g s.After-rule_chosen) (have g s.After-rule_chosen)
    (tiling_of c.in_ok-checked.checked) left mid rest
    (made g s.In_ok-checked) (λ e. ap (λ x. g.R.Source.left x) (unread g s.After-rule_chosen e))
    (λ e. ap (λ x. g.R.Source.left x) (c.request_text.ensures.untouched e)) h.0 h.1 in
    (k.0, k.1, (h.0, k.2, h.2)))
    c.request_text.ensures.printed

pub returns-clause-refused : goal.returns-clause-refused
returns-clause-refused g c =
    let s = goal.at.returns-clause-refused g c in
    let words = texts c.args.words.now in
    let handed = map g.D.Layer.form c.args.layers.now in
    let q = request_of c.in-Ok.request in
    let t = tiling_of c.in_ok-checked.checked in
    let left = g.R.Source.left c.args.source.now in
    let mid = g.R.Source.left c.rule_chosen.new.source in
    let rest = g.R.Source.left c.request_text.new.source in
    refused_by (IsRequestRefused q t mid rest) (IsRefused words handed left rest)
    (request_refused words handed q (right g s.After-rule_chosen) (have g s.After-rule_chosen) t left mid rest (made g s.In_ok-checked)
    (λ e. ap (λ x. g.R.Source.left x) (unread g s.After-rule_chosen e)) (λ e. ap (λ x. g.R.Source.left x) (c.request_text.ensures.untouched e)))
    c.request_text.result c.request_text.ensures.refused

-- the source that failed is the one that was handed in, since no rule file was read
pub returns-clause-read_fault : goal.returns-clause-read_fault
returns-clause-read_fault g c = λ e.
    let s = (goal.at.returns-clause-read_fault g c).After-rule_chosen in
    let q = request_of c.in-Ok.request in
    let mid = g.R.Source.left c.rule_chosen.new.source in
    let rest = g.R.Source.left c.request_text.new.source in
    let own = source_failed q (tiling_of c.in_ok-checked.checked) mid rest c.request_text.result c.request_text.ensures.refused e in
    subst (λ x. Rose (g.R.Source.faults x) (g.R.Source.faults c.request_text.new.source))
    (unread g s (own_builtin q own)) (c.request_text.ensures.read_fault e)

pub returns-clause-untouched : goal.returns-clause-untouched
returns-clause-untouched g c = λ e.
    let s = (goal.at.returns-clause-untouched g c).After-rule_chosen in
    let words = texts c.args.words.now in
    let handed = map g.D.Layer.form c.args.layers.now in
    let q = request_of c.in-Ok.request in
    c.request_text.ensures.untouched (own_unread words handed q (right g s) (have g s) e)
    ∙ unread g s (rule_unread words handed q (right g s) (have g s) e)

-- ---- a tile of a built-in rule is placed at once
pub returns-in-Place-Builtin-clause-printed : goal.returns-in-Place-Builtin-clause-printed
returns-in-Place-Builtin-clause-printed g c =
    let words = texts c.args.words.now in
    let asked : request_in words ≡ Ok (request_of c.in-Ok.request) = subst
    (λ r. AnswersAs request_of r (request_in words)) c.in-Ok.is c.request_in.ensures.asked in
    let of_rule = subst (λ r. request_in words ≡ Ok (request_of r)) c.in-Place-Builtin.is-0 asked in
    let rule = ap (λ r. rule_asked (request_of r)) (sym c.in-Place-Builtin.is-0) ∙ sym c.rule-rule.ensures ∙ c.in-Place-Builtin.is-1 in
    let q = subst (λ r. request_in words ≡ Ok (Place r c.in-Place-Builtin.addr.now)) rule of_rule in
    let source = g.R.Source.left c.args.source.now in
    let Printed = λ (text : List ℕ). OfCall words (map g.D.Layer.form c.args.layers.now) source source (λ call. Prints call text) in
    IfOk-weaker c.map.result _ _ (λ answer h. (h.1.0, h.1.1, (h.0, h.1.2, h.2)))
    (text_told g.D.Layer.form g.D.Layer.seen g.D.Layer.ended g.D.Layer.draws c.args.layers.now Printed
    c.named_place_text.result c.map.result c.map.ensures.cases
    (IfOk-weaker c.named_place_text.result _ _
    (λ text h. named_printed words (map g.D.Layer.form c.args.layers.now) c.in-Place-Builtin.name c.in-Place-Builtin.addr.now q source text.items h)
    c.named_place_text.ensures.printed))

pub returns-in-Place-Builtin-clause-refused : goal.returns-in-Place-Builtin-clause-refused
returns-in-Place-Builtin-clause-refused g c =
    let words = texts c.args.words.now in
    let asked : request_in words ≡ Ok (request_of c.in-Ok.request) = subst
    (λ r. AnswersAs request_of r (request_in words)) c.in-Ok.is c.request_in.ensures.asked in
    let of_rule = subst (λ r. request_in words ≡ Ok (request_of r)) c.in-Place-Builtin.is-0 asked in
    let rule = ap (λ r. rule_asked (request_of r)) (sym c.in-Place-Builtin.is-0) ∙ sym c.rule-rule.ensures ∙ c.in-Place-Builtin.is-1 in
    let q = subst (λ r. request_in words ≡ Ok (Place r c.in-Place-Builtin.addr.now)) rule of_rule in
    text_refused (IsRefused words (map g.D.Layer.form c.args.layers.now) (g.R.Source.left c.args.source.now) (g.R.Source.left c.args.source.now))
    c.named_place_text.result c.map.result c.map.ensures.cases
    (IfErr-weaker c.named_place_text.result _ _
    (named_refused words (map g.D.Layer.form c.args.layers.now) c.in-Place-Builtin.name
    c.in-Place-Builtin.addr.now q (g.R.Source.left c.args.source.now))
    c.named_place_text.ensures.refused)

pub returns-in-Place-Builtin-clause-read_fault : goal.returns-in-Place-Builtin-clause-read_fault
returns-in-Place-Builtin-clause-read_fault g c = λ e.
    let q : Request = Place (Builtin c.in-Place-Builtin.name) c.in-Place-Builtin.addr.now in
    absurd (answer_unread q (builtin_tiling c.in-Place-Builtin.name) c.named_place_text.result
    c.map.result c.map.ensures.cases c.named_place_text.ensures.refused e)
