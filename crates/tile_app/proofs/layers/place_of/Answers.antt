use Rattle.std.proofs.Common.{◌≡◌, ◌∙◌, sym, refl, map, subst, IfSome, Some, slice_get}
use Rattle.std.proofs.lemmas.Iterator.Adapters.{position_from-zero}
use Rattle.std.proofs.lemmas.Option.{slice_get_read}
use Rattle.call_words.specs.FormatWords.{same_format}
use Rattle.tile_app.proofs.Formats.{same_formats}
use Rattle.tile_app.proofs.layers.place_of.Goals as goal

pub loop-place-init : goal.loop-place-init
loop-place-init g c = record {
  some = refl;
  first = sym
      (position_from-zero (λ f. same_format f c.args.format) (map g.D.Layer.form c.args.layers.now));
}

pub returns-then-eq-clause-its_form : goal.returns-then-eq-clause-its_form
returns-then-eq-clause-its_form g c =
    let layer = c.index-layers-place.result in
    let here : slice_get c.args.layers.now c.loop-place.place ≡ Some layer = slice_get_read c.args.layers.now
    _ c.loop-place.place layer refl c.loop-place-test.true c.index-layers-place.is in
    subst (λ o. IfSome o (λ d. g.D.Layer.form d ≡ c.args.format)) (sym here)
    (sym c.format.ensures ∙ same_formats c.format.result c.args.format (sym c.eq.ensures ∙ c.if-eq.true))
