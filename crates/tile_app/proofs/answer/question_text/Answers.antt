use Rattle.std.proofs.Common.{◌≡◌, None, IfErr, map, refl, sym, ap, ◌∙◌, subst}
use Rattle.std.proofs.lemmas.Bool.{false≢true}
use Rattle.std.proofs.lemmas.Result.{IfOk-weaker, IfErr-weaker}
use Rattle.call_words.specs.FormatWords.{first_lacking}
use Rattle.call_words.specs.Request.{Request, formats_of}
use Rattle.call_words.specs.Request.Request.{Walk, Draw, Star, Verify}
use Rattle.call_words.specs.Views.{IsWalkAsked, AreWithinForms, window_of}
use Rattle.rule_model.specs.Tiling.{tiling_of}
use Rattle.tile_shape.specs.Text.{address_text}
use Rattle.call_notes.specs.Status.{OrNoMemory}
use Rattle.tile_app.specs.Answer.{IsPrinted, TileRefuses}
use Rattle.tile_app.specs.BaseFrame.{frame_of, question_in}
use Rattle.tile_app.specs.Draw.{PrintsDraw, DrawRefuses}
use Rattle.tile_app.specs.Reading.{IsItsTiling, OfOwnFile, IsRequestRefused}
use Rattle.tile_app.specs.Star.{PrintsStar, StarRefuses}
use Rattle.tile_app.specs.Tile.{is_tile}
use Rattle.tile_app.specs.Walk.{PrintsWalk, WalkRefuses}
use Rattle.tile_app.specs.Windows.{window_asked}
use Rattle.tile_app.proofs.Own.{alone_printed, alone_refused, alone_unread, listing_printed, listing_refused}
use Rattle.tile_app.proofs.TextAnswer.{text_told, text_refused, alone_told, alone_untold, answer_unread}
use Rattle.tile_app.proofs.Tiles.{frame_holds, frame_refused}
use Rattle.tile_app.proofs.answer.question_text.Given.{Over}
use Rattle.tile_app.proofs.answer.question_text.Goals.{In-Walk, In-Draw, In-Star, After-walk_text, After-draw_text, After-star_text}
use Rattle.tile_app.proofs.answer.question_text.Goals as goal

-- ---- a walk, within its bounds
pub walk_text-requires : goal.walk_text-requires
walk_text-requires g c =
    let within : IsWalkAsked c.in-Walk.grow c.in-Walk.path.now = subst AreWithinForms c.in-Walk.is c.requires.within in
    record { frame = c.requires.base.is_frame; begun = c.requires.base.begun; at_most_64 = within.depth; at_most_1000 = within.edges }

abbrev walk : (g : Over) (c : In-Walk g) → Request
walk g c = Walk c.in-Walk.rule (address_text c.args.frame.now.base) c.args.frame.now.start c.in-Walk.grow c.in-Walk.path.now

walk_refused : (g : Over) (c : After-walk_text g) → IfErr c.walk_text.result (OrNoMemory (TileRefuses (tiling_of c.args.machine.now)
    (address_text c.args.frame.now.base) (λ a. WalkRefuses (tiling_of c.args.machine.now) (frame_of a c.args.frame.now.start) c.in-Walk.path.now)))
walk_refused g c =
    frame_refused (tiling_of c.args.machine.now) c.args.frame.now c.requires.base
    (λ x. WalkRefuses (tiling_of c.args.machine.now) x c.in-Walk.path.now) (λ x fault k. k) c.walk_text.result c.walk_text.ensures.refused

pub returns-in-Walk-clause-printed : goal.returns-in-Walk-clause-printed
returns-in-Walk-clause-printed g c =
    let q = walk g ((goal.at.returns-in-Walk-clause-printed g c).In-Walk) in
    rw c.in-Walk.is (alone_told g.D.Layer.form g.D.Layer.seen g.D.Layer.ended g.D.Layer.draws c.args.layers.now
    q (tiling_of c.args.machine.now) (g.R.Source.left c.args.source.now) refl c.walk_text.result c.map.result c.map.ensures.cases
    (IfOk-weaker c.walk_text.result _ _
    (λ text h. frame_holds (tiling_of c.args.machine.now) c.args.frame.now c.requires.base
    (λ x. PrintsWalk (tiling_of c.args.machine.now) x c.in-Walk.grow c.in-Walk.path.now text.items) h) c.walk_text.ensures.printed))

pub returns-in-Walk-clause-refused : goal.returns-in-Walk-clause-refused
returns-in-Walk-clause-refused g c =
    let s = goal.at.returns-in-Walk-clause-refused g c in
    rw c.in-Walk.is (alone_untold (walk g s.In-Walk) (tiling_of c.args.machine.now) c.walk_text.result c.map.result c.map.ensures.cases
    (walk_refused g s.After-walk_text) (g.R.Source.left c.args.source.now) refl)

pub returns-in-Walk-clause-read_fault : goal.returns-in-Walk-clause-read_fault
returns-in-Walk-clause-read_fault g c = λ e.
    let s = goal.at.returns-in-Walk-clause-read_fault g c in
    absurd (answer_unread (walk g s.In-Walk) (tiling_of c.args.machine.now) c.walk_text.result c.map.result c.map.ensures.cases
    (walk_refused g s.After-walk_text) e)

-- ---- the tiles around a vertex
pub star_text-requires : goal.star_text-requires
star_text-requires g c = record { frame = c.requires.base.is_frame; begun = c.requires.base.begun }

abbrev star : (g : Over) (c : In-Star g) → Request
star g c = Star c.in-Star.rule (address_text c.args.frame.now.base) c.args.frame.now.start c.in-Star.vertex

star_refused : (g : Over) (c : After-star_text g) → IfErr c.star_text.result (OrNoMemory (TileRefuses (tiling_of c.args.machine.now)
    (address_text c.args.frame.now.base) (λ a. StarRefuses (tiling_of c.args.machine.now) (frame_of a c.args.frame.now.start) c.in-Star.vertex)))
star_refused g c =
    frame_refused (tiling_of c.args.machine.now) c.args.frame.now c.requires.base
    (λ x. StarRefuses (tiling_of c.args.machine.now) x c.in-Star.vertex) (λ x fault k. k) c.star_text.result c.star_text.ensures.refused

pub returns-in-Star-clause-printed : goal.returns-in-Star-clause-printed
returns-in-Star-clause-printed g c =
    let q = star g ((goal.at.returns-in-Star-clause-printed g c).In-Star) in
    rw c.in-Star.is (alone_told g.D.Layer.form g.D.Layer.seen g.D.Layer.ended g.D.Layer.draws c.args.layers.now
    q (tiling_of c.args.machine.now) (g.R.Source.left c.args.source.now) refl c.star_text.result c.map-in-Star.result
    c.map-in-Star.ensures.cases (IfOk-weaker c.star_text.result _ _
    (λ text h. frame_holds (tiling_of c.args.machine.now) c.args.frame.now c.requires.base
    (λ x. PrintsStar (tiling_of c.args.machine.now) x c.in-Star.vertex text.items) h) c.star_text.ensures.printed))

pub returns-in-Star-clause-refused : goal.returns-in-Star-clause-refused
returns-in-Star-clause-refused g c =
    let s = goal.at.returns-in-Star-clause-refused g c in
    rw c.in-Star.is (alone_untold (star g s.In-Star) (tiling_of c.args.machine.now) c.star_text.result c.map-in-Star.result
    c.map-in-Star.ensures.cases (star_refused g s.After-star_text) (g.R.Source.left c.args.source.now) refl)

pub returns-in-Star-clause-read_fault : goal.returns-in-Star-clause-read_fault
returns-in-Star-clause-read_fault g c = λ e.
    let s = goal.at.returns-in-Star-clause-read_fault g c in
    absurd (answer_unread (star g s.In-Star) (tiling_of c.args.machine.now) c.star_text.result c.map-in-Star.result
    c.map-in-Star.ensures.cases (star_refused g s.After-star_text) e)

-- ---- the answer is that of the window
pub draw_text-requires-clause-frame : goal.draw_text-requires-clause-frame
draw_text-requires-clause-frame g c = c.requires.base.is_frame

pub draw_text-requires-clause-begun : goal.draw_text-requires-clause-begun
draw_text-requires-clause-begun g c = c.requires.base.begun

pub draw_text-requires-clause-asked : goal.draw_text-requires-clause-asked
draw_text-requires-clause-asked g c = subst AreWithinForms c.in-Draw.is c.requires.within

pub draw_text-requires-clause-have_layers : goal.draw_text-requires-clause-have_layers
draw_text-requires-clause-have_layers g c =
    subst (λ q. first_lacking (map g.D.Layer.form c.args.layers.now) (formats_of (question_in c.args.frame.now q)) ≡ None)
    c.in-Draw.is c.requires.have_layers

abbrev draw : (g : Over) (c : In-Draw g) → Request
draw g c =
    Draw c.in-Draw.rule (address_text c.args.frame.now.base) c.args.frame.now.start (window_of c.in-Draw.window)
    c.in-Draw.formats.items c.in-Draw.glue

draw_refused : (g : Over) (c : After-draw_text g) → IfErr c.draw_text.result (OrNoMemory (TileRefuses (tiling_of c.args.machine.now)
    (address_text c.args.frame.now.base)
    (λ a. DrawRefuses c.in-Draw.glue (tiling_of c.args.machine.now) (frame_of a c.args.frame.now.start)
    (window_asked c.args.machine.now.order (window_of c.in-Draw.window)))))
draw_refused g c =
    frame_refused (tiling_of c.args.machine.now) c.args.frame.now c.requires.base
    (λ x. DrawRefuses c.in-Draw.glue (tiling_of c.args.machine.now) x (window_asked c.args.machine.now.order (window_of c.in-Draw.window)))
    (λ x fault k. k) c.draw_text.result c.draw_text.ensures.refused

pub returns-in-Draw-clause-printed : goal.returns-in-Draw-clause-printed
returns-in-Draw-clause-printed g c =
    let q = draw g ((goal.at.returns-in-Draw-clause-printed g c).In-Draw) in
    let t = tiling_of c.args.machine.now in
    rw c.in-Draw.is (IfOk-weaker c.draw_text.result _ _
    (λ answer h.
    let holds = frame_holds t c.args.frame.now c.requires.base
    (λ x. PrintsDraw c.in-Draw.glue c.in-Draw.formats.items t x (window_asked t.order (window_of c.in-Draw.window)) h.0) h.1 in
    (h.0, alone_printed q t (g.R.Source.left c.args.source.now) refl h.0 holds, h.2)) c.draw_text.ensures.printed)

pub returns-in-Draw-clause-refused : goal.returns-in-Draw-clause-refused
returns-in-Draw-clause-refused g c =
    let s = goal.at.returns-in-Draw-clause-refused g c in
    rw c.in-Draw.is (IfErr-weaker c.draw_text.result _ _
    (alone_refused (draw g s.In-Draw) (tiling_of c.args.machine.now) (g.R.Source.left c.args.source.now) refl) (draw_refused g s.After-draw_text))

pub returns-in-Draw-clause-read_fault : goal.returns-in-Draw-clause-read_fault
returns-in-Draw-clause-read_fault g c = λ e.
    let s = goal.at.returns-in-Draw-clause-read_fault g c in
    absurd (alone_unread (draw g s.In-Draw) (tiling_of c.args.machine.now) c.draw_text.result (draw_refused g s.After-draw_text) e)

-- ---- `verify`
pub verify_text-requires : goal.verify_text-requires
verify_text-requires g c = record {
  frame = c.requires.base.is_frame;
  begun = c.requires.base.begun;
  asked = subst AreWithinForms c.in-Verify.is c.requires.within;
}

pub returns-in-Verify-clause-printed : goal.returns-in-Verify-clause-printed
returns-in-Verify-clause-printed g c =
    let t = tiling_of c.args.machine.now in
    let f = c.args.frame.now in
    let window = window_of c.in-Verify.window in
    let q : Request = Verify c.in-Verify.name (address_text f.base) f.start window in
    let its = subst (λ x. IsItsTiling (question_in f x) t) c.in-Verify.is c.requires.its_tiling in
    let left = g.R.Source.left c.args.source.now in
    let rest = g.R.Source.left c.verify_text.new.source in
    rw c.in-Verify.is (text_told g.D.Layer.form g.D.Layer.seen g.D.Layer.ended g.D.Layer.draws c.args.layers.now
    (λ xs. OfOwnFile q left rest (λ file. IsPrinted q file t xs))
    c.verify_text.result c.map-in-Verify.result c.map-in-Verify.ensures.cases
    (IfOk-weaker c.verify_text.result _ _
    (λ text h. listing_printed c.in-Verify.name window t f c.requires.base its left rest text.items h) c.verify_text.ensures.printed))

pub returns-in-Verify-clause-refused : goal.returns-in-Verify-clause-refused
returns-in-Verify-clause-refused g c =
    let t = tiling_of c.args.machine.now in
    let f = c.args.frame.now in
    let window = window_of c.in-Verify.window in
    let q : Request = Verify c.in-Verify.name (address_text f.base) f.start window in
    let its = subst (λ x. IsItsTiling (question_in f x) t) c.in-Verify.is c.requires.its_tiling in
    let left = g.R.Source.left c.args.source.now in
    let rest = g.R.Source.left c.verify_text.new.source in
    rw c.in-Verify.is (text_refused (IsRequestRefused q t left rest)
    c.verify_text.result c.map-in-Verify.result c.map-in-Verify.ensures.cases
    (IfErr-weaker c.verify_text.result _ _
    (listing_refused c.in-Verify.name window t f c.requires.base its left rest) c.verify_text.ensures.refused))

-- the base is a tile, so the list is read
pub returns-in-Verify-clause-untouched : goal.returns-in-Verify-clause-untouched
returns-in-Verify-clause-untouched g c =
    let f = c.args.frame.now in
    let its = subst (λ x. IsItsTiling (question_in f x) (tiling_of c.args.machine.now)) c.in-Verify.is c.requires.its_tiling in
    rw c.in-Verify.is (λ e. absurd (false≢true (sym e ∙ sym (ap (λ s. is_tile s (address_text f.base)) its) ∙ c.requires.base.told)))
