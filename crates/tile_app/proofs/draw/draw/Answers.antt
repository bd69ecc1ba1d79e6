use Rattle.std.proofs.Common.{◌≡◌, sym, ap, ◌∙◌, subst}
use Rattle.rule_model.specs.Tiling.{tiling_of}
use Rattle.tile_app.specs.Alike.{AreAlikeIn}
use Rattle.tile_app.specs.Drawings.{tiles_drawn}
use Rattle.tile_app.specs.Looks.{AreSameListsTo, looks_in}
use Rattle.tile_app.proofs.SameTexts.{alike-in, equal-tiles}
use Rattle.tile_app.proofs.draw.draw.Goals as goal

pub put_drawing-requires-clause-can : goal.put_drawing-requires-clause-can
put_drawing-requires-clause-can g c = c.in_ok-suited.ensures.can (tiling_of c.args.machine.now) c.requires.can

pub returns-clause-drawn : goal.returns-clause-drawn
returns-clause-drawn g c =
    let t = tiling_of c.args.machine.now in
    let picture = tiles_drawn t c.args.drawing in
    let put = c.in_ok-put_drawing.ensures.put in
    let same_format : g.D.Layer.form c.end.new.self ≡ c.format.result =
    c.end.ensures.form ∙ c.put_drawing.ensures.taken.form ∙ c.begin.ensures.form ∙ sym c.format.ensures in
    let own = subst (AreSameListsTo c.of-looks.result put.tiles) (c.in_ok-suited.ensures.same t) put.same in
    let same = subst (λ l. AreSameListsTo l put.tiles picture) c.of-looks.ensures own in
    record {
      its_view = c.end.ensures.seen ∙ c.put_drawing.ensures.taken.seen ∙ c.begin.ensures.seen;
      has_ended = c.in_ok-end.ensures.ok;
      its_tiles = put.tiles;
      alike = subst (λ f. AreAlikeIn f put.tiles picture) (sym same_format)
          (alike-in c.looks_at_all.result c.format.result put.tiles picture same);
      its_picture = c.end.ensures.tiles put.tiles put.are_drawn;
    }

pub returns-clause-whole : goal.returns-clause-whole
returns-clause-whole g c = λ needs.
    let t = tiling_of c.args.machine.now in
    let picture = tiles_drawn t c.args.drawing in
    let put = c.in_ok-put_drawing.ensures.put in
    let own = subst (AreSameListsTo c.of-looks.result put.tiles) (c.in_ok-suited.ensures.same t) put.same in
    let all = c.of-looks.ensures ∙ ap (λ said. looks_in said c.format.result) (c.looks_at_all.ensures needs) in
    subst (g.D.Layer.draws c.end.new.self)
    (equal-tiles put.tiles picture (subst (λ l. AreSameListsTo l put.tiles picture) all own))
    (c.end.ensures.tiles put.tiles put.are_drawn)

pub returns-clause-can : goal.returns-clause-can
returns-clause-can g c = c.in_ok-suited.ensures.can (tiling_of c.args.machine.now) c.requires.can

pub returns-clause-same : goal.returns-clause-same
returns-clause-same g c = c.in_ok-suited.ensures.same (tiling_of c.args.machine.now)
