use Rattle.std.proofs.Common.{◌≤◌, All, IsTrue, arith, get_or, length, map, take, take_all, sym, subst, ◌∙◌}
use Rattle.std.proofs.lemmas.List.Elements.{All-more, All-weaker}
use Rattle.layer_api.specs.declared.format.Format.{Format}
use Rattle.layer_api.specs.declared.format.Format.TheVariants.{Svg}
use Rattle.call_words.specs.FormatWords.{is_among}
use Rattle.rule_model.specs.Tiling.{tiling_of}
use Rattle.tile_app.specs.LayerTexts.{FirstHasDrawn}
use Rattle.tile_app.specs.Drawings.{tiles_drawn}
use Rattle.tile_app.proofs.Formats.{has_layer}
use Rattle.tile_app.proofs.draw.draw_formats.Goals as goal

pub draw_format-requires-clause-has_layer : goal.draw_format-requires-clause-has_layer
draw_format-requires-clause-has_layer g c =
    let i = c.loop-format.format-index in
    let formats = c.args.formats.now in
    subst (λ hs. IsTrue (is_among (get_or formats i Svg) hs)) (sym c.loop-format.invariant.same_forms)
    (has_layer (map g.D.Layer.form c.args.layers.now) formats i Svg c.loop-format-test.true c.requires.have_layers)

pub loop-format-preserved : goal.loop-format-preserved
loop-format-preserved g c =
    let view = c.args.view in
    let picture = tiles_drawn (tiling_of c.args.machine.now) c.args.drawing in
    let Drawn = FirstHasDrawn g.D.Layer.form g.D.Layer.seen g.D.Layer.ended g.D.Layer.draws view picture in
    let drew = c.in_ok-later.ensures in
    let i = c.loop-format.format-index in
    let formats = c.args.formats.now in
    let own = c.loop-format.invariant.same in
    let First = FirstHasDrawn g.D.Layer.form g.D.Layer.seen g.D.Layer.ended g.D.Layer.draws view in
    let others = subst (λ p. (f : Format) → First p c.loop-format.layers f → First p c.draw_format.new.layers f) own drew.others in
    let before = All-weaker (Drawn c.loop-format.layers) (Drawn c.draw_format.new.layers) others (take i formats)
    c.loop-format.invariant.drawn in
    record {
      same_forms = drew.same_forms ∙ c.loop-format.invariant.same_forms;
      can = drew.can;
      same = drew.same ∙ own;
      drawn = All-more (Drawn c.draw_format.new.layers) formats i Svg c.loop-format-test.true before
          (subst (λ p. First p c.draw_format.new.layers (get_or formats i Svg)) own drew.drawn);
    }

pub returns-clause-drawn : goal.returns-clause-drawn
returns-clause-drawn g c =
    let picture = tiles_drawn (tiling_of c.args.machine.now) c.args.drawing in
    let Drawn = FirstHasDrawn g.D.Layer.form g.D.Layer.seen g.D.Layer.ended g.D.Layer.draws c.args.view picture in
    let all : length c.args.formats.now ≤ c.loop-format.format-index = omega (arith, c.loop-format-test.false) in
    subst (All (Drawn c.loop-format.layers)) (take_all c.loop-format.format-index c.args.formats.now all) c.loop-format.invariant.drawn
