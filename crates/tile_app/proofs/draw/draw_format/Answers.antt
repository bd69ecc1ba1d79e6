use Rattle.std.proofs.Common.{◌<◌, ◌∙◌, Result, Ok, Err, OnOk, IfSome, length, sym, subst}
use Rattle.std.proofs.Math.Seq.{map-set_same}
use Rattle.rule_model.specs.Tiling.{tiling_of}
use Rattle.tile_app.specs.Drawings.{tiles_drawn}
use Rattle.tile_app.proofs.Handing.{own-drawn, others-drawn}
use Rattle.tile_app.proofs.draw.draw_format.Goals as goal

on-ok : {T E : Type 0} (A B : Type 0) (r : Result T E) → (A → B) → OnOk r A → OnOk r B
on-ok A B (Ok x) f a = f a
on-ok A B (Err e) f a = tt

-- the layer that drew has the format that it had
pub returns-clause-same_forms : goal.returns-clause-same_forms
returns-clause-same_forms g c =
    on-ok _ _ c.draw.result (λ drawn. map-set_same
    g.D.Layer.form c.args.layers.now c.unwrap-place.result c.draw.new.layer c.index-layers-place.result c.draw.ensures.form) c.draw.ensures.drawn

-- and it has drawn, where the others are as they were
pub returns-clause-drawn : goal.returns-clause-drawn
returns-clause-drawn g c =
    on-ok _ _ c.draw.result (λ drawn. own-drawn g.D.Layer.form g.D.Layer.seen g.D.Layer.ended g.D.Layer.draws
    c.args.view (tiles_drawn (tiling_of c.args.machine.now) c.args.drawing) c.args.layers.now c.unwrap-place.result c.draw.new.layer
    (subst (λ o. IfSome o (λ i. i < length c.args.layers.now)) c.unwrap-place.ensures c.place_of.ensures.inside)
    (map-set_same g.D.Layer.form c.args.layers.now c.unwrap-place.result c.draw.new.layer c.index-layers-place.result c.draw.ensures.form)
    drawn
    c.args.format (sym c.place_of.ensures.first ∙ c.unwrap-place.ensures)) c.draw.ensures.drawn

pub returns-clause-others : goal.returns-clause-others
returns-clause-others g c =
    on-ok _ _ c.draw.result (λ drawn. others-drawn g.D.Layer.form g.D.Layer.seen g.D.Layer.ended g.D.Layer.draws
    c.args.view (tiles_drawn (tiling_of c.args.machine.now) c.args.drawing) c.args.layers.now c.unwrap-place.result c.draw.new.layer
    (subst (λ o. IfSome o (λ i. i < length c.args.layers.now)) c.unwrap-place.ensures c.place_of.ensures.inside)
    (map-set_same g.D.Layer.form c.args.layers.now c.unwrap-place.result c.draw.new.layer c.index-layers-place.result c.draw.ensures.form)
    drawn) c.draw.ensures.drawn
