use Rattle.std.proofs.Common.{◌+◌, ◌≤◌, get_or, length, map, take, take_all, drop, sym, subst, ◌∙◌, arith, rules}
use Rattle.layer_api.specs.declared.format.Format.TheVariants.{Svg}
use Rattle.layer_api.specs.LayerText.{layer_text}
use Rattle.tile_io.specs.Taken.{Takes, TakesProperPrefix}
use Rattle.tile_app.specs.Draw.{texts_of}
use Rattle.tile_app.proofs.Formats.{has_layer}
use Rattle.tile_app.proofs.Handing.{takes_none, one-text-more, before-and-behind, prefix-of-whole, its-drawn, its-text, on-err}
use Rattle.tile_app.proofs.whole_answer.write_texts.Goals as goal

pub loop-format-init : goal.loop-format-init
loop-format-init g c = record { never_falls = omega arith; taken = λ view picture drawn. takes_none _ }

pub unwrap-place-requires : goal.unwrap-place-requires
unwrap-place-requires g c =
    let have = c.requires.whole.1.have_layers in
    let e = c.place_of.ensures.some
    ∙ has_layer (map g.D.Layer.form c.args.layers.now) c.args.formats.now c.loop-format.format-index Svg c.loop-format-test.true have in
    search (rules, e)

pub bytes-requires : goal.bytes-requires
bytes-requires g c =
    let h = c.requires.whole.1 in
    let has = its-drawn g.D.Layer.form g.D.Layer.seen g.D.Layer.ended g.D.Layer.draws h.view h.picture c.args.layers.now c.args.formats.now h.drawn
    c.loop-format.format-index c.loop-format-test.true c.place_of.result c.unwrap-place.result c.index-layers-place.result
    c.place_of.ensures.first c.unwrap-place.ensures c.index-layers-place.is in
    has.has_ended

pub loop-format-preserved : goal.loop-format-preserved
loop-format-preserved g c =
    let formats = c.args.formats.now in
    let i = c.loop-format.format-index in
    let before = c.loop-format.invariant in
    let old = g.W.Sink.taken c.args.sink.now in
    let mid = g.W.Sink.taken c.loop-format.sink in
    let new = g.W.Sink.taken c.write_all.new.sink in
    record {
      never_falls = omega (arith, before.never_falls, c.write_all.ensures.cause.never_falls);
      taken = λ view picture drawn.
          let is = its-text g.D.Layer.form g.D.Layer.seen g.D.Layer.ended g.D.Layer.draws view picture c.args.layers.now formats drawn
          i c.loop-format-test.true c.place_of.result c.unwrap-place.result c.index-layers-place.result
          c.place_of.ensures.first c.unwrap-place.ensures c.index-layers-place.is
          c.place_of.ensures.inside c.place_of.ensures.its_form c.bytes.result.now c.bytes.ensures in
          subst (Takes old new) (sym (one-text-more view picture formats i Svg c.loop-format-test.true))
          (c.taken_in_turn_law.ensures old mid new (texts_of view picture (take i formats)) (layer_text (get_or formats i Svg) view picture)
          (before.taken view picture drawn) (subst (Takes mid new) is c.in_ok-write_all.ensures.all));
    }

pub returns-in_err-write_all-clause-part : goal.returns-in_err-write_all-clause-part
returns-in_err-write_all-clause-part g c =
    let formats = c.args.formats.now in
    let i = c.loop-format.format-index in
    let old = g.W.Sink.taken c.args.sink.now in
    let mid = g.W.Sink.taken c.loop-format.sink in
    let new = g.W.Sink.taken c.write_all.new.sink in
    λ text h.
    let view = h.view in
    let picture = h.picture in
    let is = its-text g.D.Layer.form g.D.Layer.seen g.D.Layer.ended g.D.Layer.draws view picture c.args.layers.now formats h.drawn
    i c.loop-format-test.true c.place_of.result c.unwrap-place.result c.index-layers-place.result
    c.place_of.ensures.first c.unwrap-place.ensures c.index-layers-place.is c.place_of.ensures.inside
    c.place_of.ensures.its_form c.bytes.result.now c.bytes.ensures in
    let after = texts_of view picture (drop (i + 1) formats) in
    let whole = h.is_text ∙ before-and-behind view picture formats i Svg c.loop-format-test.true in
    on-err (TakesProperPrefix old new text) c.from_residual.result
    (subst (TakesProperPrefix old new) (sym whole)
    (prefix-of-whole c.taken_in_turn_law.ensures old mid new
    (texts_of view picture (take i formats)) (layer_text (get_or formats i Svg) view picture) after
    (c.loop-format.invariant.taken view picture h.drawn) (subst (TakesProperPrefix mid new) is c.in_err-write_all.ensures.part)))

pub returns-clause-all : goal.returns-clause-all
returns-clause-all g c =
    let taken = Takes (g.W.Sink.taken c.args.sink.now) (g.W.Sink.taken c.loop-format.sink) in
    let all : length c.args.formats.now ≤ c.loop-format.format-index = omega (arith, c.loop-format-test.false) in
    λ text h. subst taken (sym h.is_text)
    (subst (λ fs. taken (texts_of h.view h.picture fs)) (take_all c.loop-format.format-index c.args.formats.now all)
    (c.loop-format.invariant.taken h.view h.picture h.drawn))
