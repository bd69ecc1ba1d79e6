use Rattle.std.proofs.Common.{◌≡◌, ℕ, true, false, List, None, IfErr, IfOk, is_ok, map, sym, ap, ◌∙◌, subst}
use Rattle.std.proofs.lemmas.Result.{err_from_is_err_and}
use Rattle.call_words.specs.FormatWords.{first_lacking}
use Rattle.call_words.specs.Request.{formats_of}
use Rattle.call_words.specs.Views.{question_of}
use Rattle.rule_model.specs.Tiling.{tiling_of}
use Rattle.tile_shape.specs.Views.{address_of}
use Rattle.tile_app.specs.Answer.{IsPrinted}
use Rattle.tile_app.specs.BaseFrame.{IsBaseFrame, question_in}
use Rattle.tile_app.specs.Files.{has_own_file}
use Rattle.tile_app.specs.LayerTexts.{IsTextOf}
use Rattle.tile_app.specs.Reading.{IsItsTiling, IsRequestRefused, OfOwnFile}
use Rattle.tile_app.specs.Tile.{is_tile}
use Rattle.tile_app.proofs.Own.{base_refused}
use Rattle.tile_app.proofs.Tiles.{base_made, same_question}
use Rattle.tile_app.proofs.answer.frame_text.Given.{Over}
use Rattle.tile_app.proofs.answer.frame_text.Goals.{After-new-frame}
use Rattle.tile_app.proofs.answer.frame_text.Goals as goal

-- the address is that of no tile, and nothing is read
pub returns-in_err-tile-clause-refused : goal.returns-in_err-tile-clause-refused
returns-in_err-tile-clause-refused g c =
    let t = tiling_of c.args.checked in
    let told : is_tile t c.args.addr.now ≡ false = sym c.tile_at.ensures.told ∙ ap (λ o. is_ok o) c.in_err-tile.was in
    let p = err_from_is_err_and c.from_residual.result c.from_residual.ensures.1 in
    rw (p.1, p.2) (base_refused t c.args.addr.now c.args.seed c.in_err-tile.field-0.0
    c.in_err-tile.ensures.refused told (g.R.Source.left c.args.source.now) c.args.question.now c.requires.its_tiling)

-- the frame is that of the tile
based : (g : Over) (c : After-new-frame g) → IsBaseFrame (tiling_of c.args.checked) c.new-frame.result
based g c =
    let t = tiling_of c.args.checked in
    let named = c.in_ok-tile.ensures.named in
    let told : is_tile t c.args.addr.now ≡ true = sym c.tile_at.ensures.told ∙ ap (λ o. is_ok o) c.in_ok-tile.was in
    base_made t c.args.addr.now c.args.seed (address_of c.in_ok-tile.tile) c.new-frame.result named
    c.new-frame.ensures.base c.new-frame.ensures.start told c.new-frame.ensures.digits
    (c.new-frame.ensures.is_frame t named.accepted.fits)

-- and the question is the one that is asked
same : (g : Over) (c : After-new-frame g)
    → question_in c.new-frame.result c.args.question.now ≡ question_of c.args.addr.now c.args.seed c.args.question.now
same g c =
    same_question (tiling_of c.args.checked) c.args.addr.now c.args.seed (address_of c.in_ok-tile.tile)
    c.new-frame.result c.in_ok-tile.ensures.named c.new-frame.ensures.base c.new-frame.ensures.start c.args.question.now

pub question_text-requires : goal.question_text-requires
question_text-requires g c =
    let s = (goal.at.question_text-requires g c).After-new-frame in
    let asked = question_of c.args.addr.now c.args.seed c.args.question.now in
    let rule = sym c.in_ok-machine.ensures.its_rule in
    record {
      within = c.requires.within;
      base = subst (λ m. IsBaseFrame (tiling_of m) c.new-frame.result) rule (based g s);
      have_layers = subst (λ q. first_lacking (map g.D.Layer.form c.args.layers.now) (formats_of q) ≡ None) (sym (same g s)) c.requires.have_layers;
      its_tiling = subst (λ q. IsItsTiling q (tiling_of c.in_ok-machine.machine)) (sym (same g s))
          (subst (λ m. IsItsTiling asked (tiling_of m)) rule c.requires.its_tiling);
    }

-- the machine's rule is the checked rule
pub returns-clause-printed : goal.returns-clause-printed
returns-clause-printed g c =
    let s = (goal.at.returns-clause-printed g c).After-new-frame in
    let left = g.R.Source.left c.args.source.now in
    let rest = g.R.Source.left c.question_text.new.source in
    let of_rule = subst (λ m. IfOk c.question_text.result (λ answer. (text : List ℕ)
    × OfOwnFile (question_in c.new-frame.result c.args.question.now) left rest
    (λ file. IsPrinted (question_in c.new-frame.result c.args.question.now) file (tiling_of m) text)
    × IsTextOf g.D.Layer.form g.D.Layer.seen g.D.Layer.ended g.D.Layer.draws c.question_text.new.layers answer text))
    c.in_ok-machine.ensures.its_rule c.question_text.ensures.printed in
    subst (λ q. IfOk c.question_text.result (λ answer. (text : List ℕ)
    × OfOwnFile q left rest (λ file. IsPrinted q file (tiling_of c.args.checked) text)
    × IsTextOf g.D.Layer.form g.D.Layer.seen g.D.Layer.ended g.D.Layer.draws c.question_text.new.layers answer text)) (same g s) of_rule

pub returns-clause-refused : goal.returns-clause-refused
returns-clause-refused g c =
    let s = (goal.at.returns-clause-refused g c).After-new-frame in
    let left = g.R.Source.left c.args.source.now in
    let rest = g.R.Source.left c.question_text.new.source in
    let of_rule = subst (λ m. IfErr c.question_text.result
    (IsRequestRefused (question_in c.new-frame.result c.args.question.now) (tiling_of m) left rest))
    c.in_ok-machine.ensures.its_rule c.question_text.ensures.refused in
    subst (λ q. IfErr c.question_text.result (IsRequestRefused q (tiling_of c.args.checked) left rest)) (same g s) of_rule

pub returns-clause-untouched : goal.returns-clause-untouched
returns-clause-untouched g c = λ e.
    c.question_text.ensures.untouched
    (subst (λ q. has_own_file q ≡ false) (sym (same g ((goal.at.returns-clause-untouched g c).After-new-frame))) e)
