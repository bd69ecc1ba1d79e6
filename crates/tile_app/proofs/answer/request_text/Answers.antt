use Rattle.std.proofs.Common.{◌≡◌, ℕ, List, None, map, string_bytes, refl, sym, ◌∙◌, subst, rules}
use Rattle.std.proofs.lemmas.Bool.{false≢true}
use Rattle.std.proofs.lemmas.Result.{IfOk-weaker, IfErr-weaker}
use Rattle.call_words.specs.FormatWords.{first_lacking}
use Rattle.call_words.specs.Request.{Request, formats_of}
use Rattle.call_words.specs.Request.Request.{Place, Neighbour, Check, Calc, Drill}
use Rattle.call_words.specs.Views.{IsWithinForms, request_of}
use Rattle.call_notes.specs.declared.status.Status.TheVariants.{NoMemory}
use Rattle.rule_model.specs.Tiling.{tiling_of}
use Rattle.tile_app.specs.Answer.{IsPrinted}
use Rattle.tile_app.specs.Reading.{IsItsTiling, IsRequestRefused, OfOwnFile}
use Rattle.tile_app.proofs.Own.{alone_printed, only_memory, memory_unread, script_printed, script_refused}
use Rattle.tile_app.proofs.TextAnswer.{text_told, text_refused, alone_told, alone_untold, answer_unread}
use Rattle.tile_app.proofs.answer.request_text.Goals as goal

pub returns-in-Place-clause-printed : goal.returns-in-Place-clause-printed
returns-in-Place-clause-printed g c =
    let q : Request = Place c.in-Place.rule c.in-Place.addr.now in
    rw c.in-Place.is (alone_told g.D.Layer.form g.D.Layer.seen g.D.Layer.ended g.D.Layer.draws c.args.layers.now
    q (tiling_of c.args.checked) (g.R.Source.left c.args.source.now) refl c.place_text.result c.map.result
    c.map.ensures.cases c.place_text.ensures.printed)

pub returns-in-Place-clause-refused : goal.returns-in-Place-clause-refused
returns-in-Place-clause-refused g c =
    let q : Request = Place c.in-Place.rule c.in-Place.addr.now in
    rw c.in-Place.is (alone_untold q (tiling_of c.args.checked) c.place_text.result
    c.map.result c.map.ensures.cases c.place_text.ensures.refused (g.R.Source.left c.args.source.now) refl)

pub returns-in-Place-clause-read_fault : goal.returns-in-Place-clause-read_fault
returns-in-Place-clause-read_fault g c = λ e.
    let q : Request = Place c.in-Place.rule c.in-Place.addr.now in
    absurd (answer_unread q (tiling_of c.args.checked) c.place_text.result
    c.map.result c.map.ensures.cases c.place_text.ensures.refused e)

pub returns-in_ok-check_text-in-Check-clause-printed : goal.returns-in_ok-check_text-in-Check-clause-printed
returns-in_ok-check_text-in-Check-clause-printed g c =
    let text = c.into_bytes.result.items in
    let same : text ≡ string_bytes c.in_ok-check_text-in-Check.field-0 = search rules in
    let told = same ∙ c.in_ok-check_text-in-Check.ensures in
    rw c.in-Check.is (text, alone_printed (Check c.in-Check.rule) (tiling_of c.args.checked) (g.R.Source.left c.args.source.now) refl text told, refl)

-- ---- the tile across an edge
pub returns-in-Neighbour-clause-printed : goal.returns-in-Neighbour-clause-printed
returns-in-Neighbour-clause-printed g c =
    let q : Request = Neighbour c.in-Neighbour.rule c.in-Neighbour.addr.now c.in-Neighbour.edge in
    rw c.in-Neighbour.is (alone_told g.D.Layer.form g.D.Layer.seen g.D.Layer.ended g.D.Layer.draws c.args.layers.now
    q (tiling_of c.args.checked) (g.R.Source.left c.args.source.now) refl c.neighbour_text.result
    c.map-in-Neighbour.result c.map-in-Neighbour.ensures.cases c.neighbour_text.ensures.printed)

pub returns-in-Neighbour-clause-refused : goal.returns-in-Neighbour-clause-refused
returns-in-Neighbour-clause-refused g c =
    let q : Request = Neighbour c.in-Neighbour.rule c.in-Neighbour.addr.now c.in-Neighbour.edge in
    rw c.in-Neighbour.is (alone_untold q (tiling_of c.args.checked) c.neighbour_text.result c.map-in-Neighbour.result
    c.map-in-Neighbour.ensures.cases c.neighbour_text.ensures.refused (g.R.Source.left c.args.source.now) refl)

pub returns-in-Neighbour-clause-read_fault : goal.returns-in-Neighbour-clause-read_fault
returns-in-Neighbour-clause-read_fault g c = λ e.
    let q : Request = Neighbour c.in-Neighbour.rule c.in-Neighbour.addr.now c.in-Neighbour.edge in
    absurd (answer_unread q (tiling_of c.args.checked) c.neighbour_text.result
    c.map-in-Neighbour.result c.map-in-Neighbour.ensures.cases c.neighbour_text.ensures.refused e)

-- ---- `calc`
pub returns-in-Calc-clause-printed : goal.returns-in-Calc-clause-printed
returns-in-Calc-clause-printed g c =
    let t = tiling_of c.args.checked in
    let left = g.R.Source.left c.args.source.now in
    let rest = g.R.Source.left c.calc_text.new.source in
    let Printed = λ (xs : List ℕ). OfOwnFile (Calc c.in-Calc.name) left rest (λ file. IsPrinted (Calc c.in-Calc.name) file t xs) in
    rw c.in-Calc.is (text_told g.D.Layer.form g.D.Layer.seen g.D.Layer.ended g.D.Layer.draws c.args.layers.now Printed
    c.calc_text.result c.map-in-Calc.result c.map-in-Calc.ensures.cases
    (IfOk-weaker c.calc_text.result _ _ (λ text h. script_printed c.in-Calc.name t left rest text.items h) c.calc_text.ensures.printed))

pub returns-in-Calc-clause-refused : goal.returns-in-Calc-clause-refused
returns-in-Calc-clause-refused g c =
    let left = g.R.Source.left c.args.source.now in
    let rest = g.R.Source.left c.calc_text.new.source in
    rw c.in-Calc.is (text_refused (IsRequestRefused (Calc c.in-Calc.name) (tiling_of c.args.checked) left rest)
    c.calc_text.result c.map-in-Calc.result c.map-in-Calc.ensures.cases
    (IfErr-weaker c.calc_text.result _ _ (script_refused c.in-Calc.name (tiling_of c.args.checked) left rest) c.calc_text.ensures.refused))

pub returns-in-Calc-clause-untouched : goal.returns-in-Calc-clause-untouched
returns-in-Calc-clause-untouched g c = rw c.in-Calc.is (λ e. absurd (false≢true (sym e)))

-- ---- `drill` refuses nothing
pub drill_text-requires : goal.drill_text-requires
drill_text-requires g c = record { at_most_200 = subst IsWithinForms c.in-Drill.is c.requires.within }

pub returns-in-Drill-clause-printed : goal.returns-in-Drill-clause-printed
returns-in-Drill-clause-printed g c =
    let q : Request = Drill c.in-Drill.rule c.in-Drill.count c.in-Drill.seed in
    rw c.in-Drill.is (alone_told g.D.Layer.form g.D.Layer.seen g.D.Layer.ended g.D.Layer.draws c.args.layers.now
    q (tiling_of c.args.checked) (g.R.Source.left c.args.source.now) refl c.drill_text.result
    c.map-in-Drill.result c.map-in-Drill.ensures.cases c.drill_text.ensures.printed)

pub returns-in-Drill-clause-refused : goal.returns-in-Drill-clause-refused
returns-in-Drill-clause-refused g c =
    let q : Request = Drill c.in-Drill.rule c.in-Drill.count c.in-Drill.seed in
    rw c.in-Drill.is (text_refused
    (IsRequestRefused q (tiling_of c.args.checked) (g.R.Source.left c.args.source.now) (g.R.Source.left c.args.source.now))
    c.drill_text.result c.map-in-Drill.result c.map-in-Drill.ensures.cases
    (IfErr-weaker c.drill_text.result _ _ (only_memory q (tiling_of c.args.checked) (g.R.Source.left c.args.source.now))
    c.drill_text.ensures.refused))

pub returns-in-Drill-clause-read_fault : goal.returns-in-Drill-clause-read_fault
returns-in-Drill-clause-read_fault g c = λ e.
    absurd (memory_unread c.map-in-Drill.result
    (text_refused (λ s. s ≡ NoMemory) c.drill_text.result
    c.map-in-Drill.result c.map-in-Drill.ensures.cases c.drill_text.ensures.refused) e)

-- ---- a question about the frame of a tile
pub frame_text-requires : goal.frame_text-requires
frame_text-requires g c = record {
  within = subst IsWithinForms c.in-InFrame.is c.requires.within;
  have_layers = subst (λ r. first_lacking (map g.D.Layer.form c.args.layers.now) (formats_of (request_of r)) ≡ None) c.in-InFrame.is
      c.requires.have_layers;
  its_tiling = subst (λ r. IsItsTiling (request_of r) (tiling_of c.args.checked)) c.in-InFrame.is c.requires.its_tiling;
}

pub returns-in-InFrame-clause-printed : goal.returns-in-InFrame-clause-printed
returns-in-InFrame-clause-printed g c = rw c.in-InFrame.is c.frame_text.ensures.printed

pub returns-in-InFrame-clause-refused : goal.returns-in-InFrame-clause-refused
returns-in-InFrame-clause-refused g c = rw c.in-InFrame.is c.frame_text.ensures.refused

pub returns-in-InFrame-clause-untouched : goal.returns-in-InFrame-clause-untouched
returns-in-InFrame-clause-untouched g c = rw c.in-InFrame.is c.frame_text.ensures.untouched
