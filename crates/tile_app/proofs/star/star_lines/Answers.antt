use Rattle.std.proofs.Common.{map, sym, ap, ◌∙◌, subst, take_all}
use Rattle.std.specs.List.{flat_map}
use Rattle.lazy_walk.specs.Standing.{Stands}
use Rattle.star_walk.specs.declared.corner.Corner.{Corner}
use Rattle.star_walk.specs.Corners.{corner_in}
use Rattle.tile_app.specs.Star.{corner_line}
use Rattle.tile_app.proofs.Turned.{corners-more}
use Rattle.tile_app.proofs.star.star_lines.Goals as goal

pub loop-corner-preserved : goal.loop-corner-preserved
loop-corner-preserved c = λ t f stands.
    let k = c.corner-item.result in
    let i = c.loop-corner.corner-index in
    let here : Stands t f k.tile = subst (λ (x : Corner). Stands t f x.tile) (sym c.corner-item.is) (stands i k c.loop-corner-test.true) in
    corners-more t c.args.corners.now i k c.loop-corner.text.items c.write_line.new.text.items c.loop-corner-test.true c.corner-item.is
    (c.loop-corner.invariant t f stands)
    (c.in_ok-write_line.ensures t.order here.in_order here.its_kind)

pub returns : goal.returns
returns c = λ t f stands.
    c.loop-corner.invariant t f stands ∙ ap (λ cs. flat_map (corner_line t) (map (corner_in t.order) cs))
    (take_all c.loop-corner.corner-index c.args.corners.now c.loop-corner-test.false)
