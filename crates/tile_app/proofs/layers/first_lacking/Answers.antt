use Rattle.std.proofs.Common.{◌∙◌, ap, not, map}
use Rattle.tile_app.proofs.Formats.{went_on}
use Rattle.tile_app.proofs.layers.first_lacking.Goals as goal

pub loop-format-preserved : goal.loop-format-preserved
loop-format-preserved g c =
    went_on (map g.D.Layer.form c.args.layers.now) c.args.named.now c.loop-format.format-index
    c.place_of.result c.loop-format-test.true c.place_of.ensures.some
    (c.is_none.ensures ∙ ap not c.if-is_none.false) c.loop-format.invariant
