use Rattle.std.proofs.Common.{◌<◌, None, IfSome, length, get_or, refl, sym, ap, ◌∙◌, subst, arith}
use Rattle.std.proofs.lemmas.List.{get_or_read_under}
use Rattle.tile_place.proofs.EachOrder.{order-fits}
use Rattle.window_descent.specs.Bounds.{AreBounds}
use Rattle.window_descent.specs.Rows.{levels_of, row_place, scale_of}
use Rattle.window_descent.proofs.RowsMade.{place-there}
use Rattle.window_descent.proofs.rows.Rows.bounds.Goals as goal

pub returns-in-Some-clause-bounds : goal.returns-in-Some-clause-bounds
returns-in-Some-clause-bounds c =
    let m = c.args.machine.now in
    let rows = c.args.self.now in
    let kinds = c.checked-usable.ensures.usable.numbered.at_most_16_kinds in
    let turns = order-fits m.order in
    let there : row_place c.args.row.level c.args.row.kind c.args.row.turn < length rows.bounds.items =
    place-there (levels_of rows) c.args.row.level c.args.row.kind c.args.row.turn _ c.requires.row.level_exists
    (omega (arith, kinds, c.requires.row.turned.kind_exists)) (omega (arith, turns, c.requires.row.turned.turn_below)) c.requires.rows.bounds_room in
    let place = c.place.ensures in
    let read = get_or_read_under rows.bounds.items c.place.result (length rows.bounds.items) c.index.result.now None c.index.ensures
    (omega (arith, there, place)) refl in
    subst (λ x. IfSome x (AreBounds m (scale_of rows c.args.row.level) c.args.row.kind c.args.row.turn))
    (ap (λ p. get_or rows.bounds.items p None) (sym place) ∙ sym read ∙ c.in-Some.is)
    (c.requires.rows.bounded c.args.row.level c.args.row.kind c.args.row.turn c.requires.row.level_exists
    c.requires.row.turned.kind_exists c.requires.row.turned.turn_below)
