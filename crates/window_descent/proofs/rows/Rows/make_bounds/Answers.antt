use Rattle.std.proofs.Common.{ℕ, ◌<◌, IfSome, List, [], length, get_or, set, sym, ◌∙◌, subst, arith}
use Rattle.std.proofs.lemmas.List.{length-set}
use Rattle.cyclo_points.specs.declared.point.Point.{Point}
use Rattle.tile_place.proofs.EachOrder.{order-fits}
use Rattle.window_descent.specs.Bounds.{AreBounds}
use Rattle.window_descent.specs.Rows.{levels_of, row_place, scale_of}
use Rattle.window_descent.proofs.RowsMade.{AreNoted, noted-more, place-there}
use Rattle.window_descent.proofs.rows.Rows.make_bounds.Goals as goal

pub returns-clause-rows : goal.returns-clause-rows
returns-clause-rows c =
    let m = c.args.machine.now in
    let before = c.args.self.now in
    let rows = c.requires.rows in
    let kinds = c.checked-usable.ensures.usable.numbered.at_most_16_kinds in
    let turns = order-fits m.order in
    let level = c.args.row.level in
    let kind = c.args.row.kind in
    let turn = c.args.row.turn in
    let made = c.bounds_of-made.result in
    let there : row_place level kind turn < length before.bounds.items =
    place-there (levels_of before) level kind turn _ c.requires.row.level_exists (omega (arith, kinds, c.requires.row.turned.kind_exists))
    (omega (arith, turns, c.requires.row.turned.turn_below)) rows.bounds_room in
    let own : IfSome made (AreBounds m (scale_of before level) kind turn) =
    subst (λ (ps : List Point). IfSome made (AreBounds m (get_or ps level (record { c = [] })) kind turn))
    c.as_slice.ensures.value c.bounds_of-made.ensures in
    record {
      powers = rows.powers;
      powers_within = rows.powers_within;
      room = rows.room;
      made = rows.made;
      bounds_room = length-set before.bounds.items c.place.result made ∙ rows.bounds_room;
      bounded = subst (λ place. AreNoted m (levels_of before)
          (λ (l k t : ℕ). AreBounds m (scale_of before l) k t) (set before.bounds.items place made))
          (sym c.place.ensures)
          (noted-more m kinds turns (levels_of before) (λ (l k t : ℕ). AreBounds m (scale_of before l) k t) before.bounds.items level kind turn made
          c.requires.row.turned.kind_exists c.requires.row.turned.turn_below there own rows.bounded);
    }
