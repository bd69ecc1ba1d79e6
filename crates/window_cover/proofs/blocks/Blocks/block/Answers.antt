use Rattle.std.proofs.Common.{None, IfSome, length, get_or, refl, sym, ap, ◌∙◌, subst, arith}
use Rattle.std.proofs.lemmas.List.{get_or_read_under}
use Rattle.tile_place.proofs.EachOrder.{order-fits}
use Rattle.window_cover.specs.Blocks.{IsBlock}
use Rattle.window_cover.proofs.BlockTiles.{block-there}
use Rattle.window_cover.proofs.PartSteps.{no-more}
use Rattle.window_cover.proofs.blocks.Blocks.block.Goals as goal

pub index-requires : goal.index-requires
index-requires c =
    let kinds = c.checked-usable.ensures.usable.numbered.at_most_16_kinds in
    let turns = order-fits c.args.machine.now.order in
    let room = c.requires.blocks.room in
    let there = block-there c.args.level c.args.kind c.args.turn c.requires.low
    (omega (arith, kinds, c.requires.kind_exists)) (omega (arith, turns, c.requires.turn_below)) in
    let held = c.args.self.now.blocks.ok in
    let place = c.place.ensures in
    omega (arith, there, room, held, place)

pub returns-in-Some : goal.returns-in-Some
returns-in-Some c =
    let m = c.args.machine.now in
    let bs = c.args.self.now in
    let kinds = c.checked-usable.ensures.usable.numbered.at_most_16_kinds in
    let turns = order-fits m.order in
    let room = c.requires.blocks.room in
    let there = block-there c.args.level c.args.kind c.args.turn c.requires.low
    (omega (arith, kinds, c.requires.kind_exists)) (omega (arith, turns, c.requires.turn_below)) in
    let place = c.place.ensures in
    let read = get_or_read_under bs.blocks.items c.place.result (length bs.blocks.items) c.index.result.now None c.index.ensures
    (omega (arith, there, place, room)) refl in
    record {
      rows = c.requires.rows;
      levels = refl;
      same_window = refl;
      longer = no-more c.args.leaves.now.found;
      blocks = c.requires.blocks;
      block = subst (λ x. IfSome x (IsBlock m c.args.leaves.now.found c.args.level c.args.kind c.args.turn))
          (ap (λ p. get_or bs.blocks.items p None) (sym place) ∙ sym read ∙ c.in-Some.is)
          (c.requires.blocks.made c.args.level c.args.kind c.args.turn c.requires.low c.requires.kind_exists c.requires.turn_below);
    }
