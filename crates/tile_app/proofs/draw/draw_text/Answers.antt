use Rattle.std.proofs.Common.{◌≡◌, ◌^◌, All, IfErr, None, map, refl, sym, ap, ◌∙◌, subst, lit≤}
use Rattle.std.proofs.lemmas.Result.{err_from_is_err_and}
use Rattle.call_words.specs.FormatWords.{first_lacking}
use Rattle.call_words.specs.Views.{window_of}
use Rattle.cyclo_points.specs.Point.{IsOf}
use Rattle.cyclo_points.proofs.Within.{point_wider}
use Rattle.layer_api.specs.Drawable.{IsView}
use Rattle.layer_api.specs.declared.view.View.{View}
use Rattle.rule_model.specs.declared.rule.Rule.{Rule}
use Rattle.rule_model.specs.Tiling.{tiling_of}
use Rattle.tile_app.specs.Draw.{texts_of, PrintsDraw, DrawRefuses}
use Rattle.tile_app.specs.LayerTexts.{FirstHasDrawn, HaveText, IsTextOf}
use Rattle.tile_app.specs.Drawings.{tiles_drawn}
use Rattle.call_notes.specs.Status.{OrNoMemory}
use Rattle.tile_app.specs.Windows.{window_asked}
use Rattle.tile_app.proofs.draw.draw_text.Goals as goal

-- the window is the one that is asked for
pub returns-in_err-drawing-clause-refused : goal.returns-in_err-drawing-clause-refused
returns-in_err-drawing-clause-refused g c =
    let t = tiling_of c.args.machine.now in
    let f = c.args.frame.now in
    let asked = window_of c.args.asked.now in
    let order = c.order.ensures.order ∙ ap (λ (r : Rule). r.order) c.checked.ensures.rule in
    let window = c.window_in-window.ensures.window ∙ ap (λ o. window_asked o asked) order in
    let h = subst (λ w. IfErr c.pictured.result (OrNoMemory (DrawRefuses c.args.whole t f w))) window c.pictured.ensures.refused in
    let p = err_from_is_err_and c.from_residual.result c.from_residual.ensures.1 in
    rw (p.1, p.2) (subst (λ r. IfErr r (OrNoMemory (DrawRefuses c.args.whole t f (window_asked t.order asked)))) c.in_err-drawing.was h)

pub draw_formats-requires-clause-have_layers : goal.draw_formats-requires-clause-have_layers
draw_formats-requires-clause-have_layers g c =
    ap (first_lacking (map g.D.Layer.form c.args.layers.now)) c.as_slice.ensures.value ∙ c.requires.have_layers

pub draw_formats-requires-clause-view : goal.draw_formats-requires-clause-view
draw_formats-requires-clause-view g c =
    let same = c.order.ensures.order ∙ ap (λ (r : Rule). r.order) c.checked.ensures.rule in
    let w = c.window_in-window.ensures in
    subst IsView (sym c.view_of-view.ensures) (record {
      of_order = subst (λ o. IsOf o c.window_in-window.result.centre) same w.in_order;
      within = point_wider (2 ^ 22) (2 ^ 25) _ (lit≤ tt) w.fits.centre_within;
    })

pub draw_formats-requires-clause-its_order : goal.draw_formats-requires-clause-its_order
draw_formats-requires-clause-its_order g c = ap (λ (v : View). v.order) c.view_of-view.ensures

pub returns-in_err-draw_formats-clause-refused : goal.returns-in_err-draw_formats-clause-refused
returns-in_err-draw_formats-clause-refused g c =
    let p = err_from_is_err_and c.from_residual-in_err-draw_formats.result c.from_residual-in_err-draw_formats.ensures.1 in
    rw (p.1, p.2) tt

pub returns-clause-printed : goal.returns-clause-printed
returns-clause-printed g c =
    let t = tiling_of c.args.machine.now in
    let f = c.args.frame.now in
    let asked = window_of c.args.asked.now in
    let formats = c.args.formats.now.items in
    let order = c.order.ensures.order ∙ ap (λ (r : Rule). r.order) c.checked.ensures.rule in
    let window = c.window_in-window.ensures.window ∙ ap (λ o. window_asked o asked) order in
    let picture = tiles_drawn t c.in_ok-drawing.drawing in
    let view = c.view_of-view.result in
    let text = texts_of view picture formats in
    let prints : PrintsDraw c.args.whole formats t f c.window_in-window.result text = record {
      picture = picture;
      pictures = c.in_ok-drawing.ensures.pictures;
      is_text = ap (λ v. texts_of v picture formats) c.view_of-view.ensures;
    } in
    let layers = c.draw_formats.new.layers in
    let Drew = FirstHasDrawn g.D.Layer.form g.D.Layer.seen g.D.Layer.ended g.D.Layer.draws view picture layers in
    let has : HaveText g.D.Layer.form g.D.Layer.seen g.D.Layer.ended g.D.Layer.draws layers formats text = record {
      have_layers = subst (λ hs. first_lacking hs formats ≡ None) (sym c.in_ok-draw_formats.ensures.same_forms) c.requires.have_layers;
      view = view;
      picture = picture;
      drawn = subst (All Drew) c.as_slice.ensures.value c.in_ok-draw_formats.ensures.drawn;
      is_text = refl;
    } in (
      text,
      subst (λ w. PrintsDraw c.args.whole formats t f w text) window prints,
      subst (λ a. IsTextOf g.D.Layer.form g.D.Layer.seen g.D.Layer.ended g.D.Layer.draws layers a text) (sym c.of_layers.ensures) has,
    )
