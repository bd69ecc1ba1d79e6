use Rattle.std.proofs.Common.{◌≡◌, ℕ, ◌<◌, List, [], Some, length, get_or, set, sym, ◌∙◌, subst, arith}
use Rattle.std.proofs.lemmas.List.{length-set}
use Rattle.cyclo_points.specs.declared.point.Point.{Point}
use Rattle.tile_place.proofs.EachOrder.{order-fits}
use Rattle.window_descent.specs.declared.part.Part.{Part}
use Rattle.window_descent.specs.Rows.{IsChildRow, levels_of, row_place}
use Rattle.window_descent.proofs.RowsMade.{AreMade, noted-more, made-longer, place-there}
use Rattle.window_descent.proofs.rows.Rows.make.Goals as goal

pub index_mut-requires : goal.index_mut-requires
index_mut-requires c =
    let rows = c.requires.rows in
    let held = c.args.self.now.firsts.ok in
    let kinds = c.checked-usable.ensures.usable.numbered.at_most_16_kinds in
    let turns = order-fits c.args.machine.now.order in
    let there : row_place c.args.row.level c.args.row.kind c.args.row.turn < length c.args.self.now.firsts.items =
    place-there (levels_of c.args.self.now) c.args.row.level c.args.row.kind c.args.row.turn _ c.requires.row.level_exists
    (omega (arith, kinds, c.requires.row.turned.kind_exists)) (omega (arith, turns, c.requires.row.turned.turn_below)) rows.room in
    let place = c.place.ensures in
    omega (arith, held, there, place)

pub returns-clause-rows : goal.returns-clause-rows
returns-clause-rows c =
    let m = c.args.machine.now in
    let rows = c.requires.rows in
    let held = c.args.self.now.children.ok in
    let kinds = c.checked-usable.ensures.usable.numbered.at_most_16_kinds in
    let turns = order-fits m.order in
    let powers : List Point = c.args.self.now.powers.items in
    let children : List Part = c.push_row.new.children.items in
    let level = c.args.row.level in
    let kind = c.args.row.kind in
    let turn = c.args.row.turn in
    let there : row_place level kind turn < length c.args.self.now.firsts.items =
    place-there (levels_of c.args.self.now) level kind turn _ c.requires.row.level_exists (omega (arith, kinds, c.requires.row.turned.kind_exists))
    (omega (arith, turns, c.requires.row.turned.turn_below)) rows.room in
    let first : c.in-Ok.first ≡ length c.args.self.now.children.items = omega (arith, held, c.in-Ok.ensures, c.len.ensures) in
    let row : IsChildRow m (get_or powers level (record { c = [] })) kind turn children c.in-Ok.first =
    subst (λ (ps : List Point). IsChildRow m (get_or ps level (record { c = [] })) kind turn children c.in-Ok.first) c.as_slice.ensures.value
    (subst (IsChildRow m _ kind turn children) (sym first) (c.in_ok-push_row.ensures.row c.if-not-branch.false)) in
    record {
      powers = rows.powers;
      powers_within = rows.powers_within;
      room = length-set c.args.self.now.firsts.items c.place.result (Some c.in-Ok.first) ∙ rows.room;
      made = subst (λ place. AreMade m powers (set c.args.self.now.firsts.items place (Some c.in-Ok.first)) children) (sym c.place.ensures)
          (noted-more m kinds turns (length powers) (λ (l k t : ℕ). IsChildRow m (get_or powers l (record { c = [] })) k t children)
          c.args.self.now.firsts.items level kind turn (Some c.in-Ok.first)
          c.requires.row.turned.kind_exists c.requires.row.turned.turn_below there row
          (made-longer m powers c.args.self.now.firsts.items c.args.self.now.children.items children c.push_row.ensures.longer rows.made));
      bounds_room = rows.bounds_room;
      bounded = rows.bounded;
    }
