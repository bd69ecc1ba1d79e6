use Rattle.std.proofs.Common.{◌≡◌, ℕ, zero, suc, ◌+◌, ◌-◌, ◌<◌, ◌≤◌, List, [], ◌∷◌, ◌++◌, Some, length, map, set, take, sym, ap, ◌∙◌, subst, arith}
use Rattle.std.proofs.lemmas.List.{length-set, length-append}
use Rattle.theory_frames.specs.Descent.{of_whole}
use Rattle.rule_model.specs.Tiling.{tiling_of}
use Rattle.tile_place.proofs.Ahead.{drop-end}
use Rattle.tile_place.proofs.EachOrder.{order-fits}
use Rattle.tile_shape.specs.Views.{step_of}
use Rattle.window_descent.specs.Parts.{all_of}
use Rattle.window_descent.specs.Rows.{row_place}
use Rattle.window_cover.specs.declared.block.Block.{Block}
use Rattle.window_cover.specs.Blocks.{AreNear, IsBlock, turned_part}
use Rattle.window_cover.specs.Descending.{tiles_in}
use Rattle.window_cover.specs.Found.{Found}
use Rattle.window_cover.proofs.BlockTiles.{AreMade, block-there, more-tiles, made-later, made-noted}
use Rattle.window_cover.proofs.PartLists.{behind-nothing}
use Rattle.window_cover.proofs.blocks.Blocks.make.Goals as goal

take-short : {A : Type 0} (n : ℕ) (xs : List A) → length (take n xs) ≤ n
take-short zero xs = omega arith
take-short (suc n) [] = omega arith
take-short (suc n) (x ∷ xs) = let h = take-short n xs in omega (arith, h)

pub index_mut-requires : goal.index_mut-requires
index_mut-requires c =
    let kinds = c.checked-usable.ensures.usable.numbered.at_most_16_kinds in
    let turns = order-fits c.args.machine.now.order in
    let room = c.requires.blocks.room in
    let there = block-there c.args.level c.args.kind c.args.turn c.requires.low
    (omega (arith, kinds, c.requires.kind_exists)) (omega (arith, turns, c.requires.turn_below)) in
    let held = c.args.self.now.blocks.ok in
    let place = c.place.ensures in
    omega (arith, there, room, held, place)

pub returns : goal.returns
returns c =
    let m = c.args.machine.now in
    let t = tiling_of m in
    let level = c.args.level in
    let kind = c.args.kind in
    let turn = c.args.turn in
    let before : List Found = c.args.leaves.now.found in
    let later : List Found = c.take_all.new.self.found in
    let kinds = c.checked-usable.ensures.usable.numbered.at_most_16_kinds in
    let turns = order-fits m.order in
    let room = c.requires.blocks.room in
    let there : row_place level kind turn < length c.args.self.now.blocks.items =
    let place = block-there level kind turn c.requires.low (omega (arith, kinds, c.requires.kind_exists))
    (omega (arith, turns, c.requires.turn_below)) in
    omega (arith, place, room) in
    let d = c.in_ok-take_all.ensures.found c.if-not-branch.false in
    let first = c.tiles-first.ensures.count in
    let end = c.tiles-end.ensures.count in
    let ordered : c.tiles-first.result ≤ c.tiles-end.result = omega (arith, c.if-end-first.false) in
    let count : c.tiles-first.result + (c.tiles-end.result - c.tiles-first.result) ≡ c.tiles-end.result = omega (arith, ordered) in
    let long = ap (λ (xs : List Found). length xs) d.longer.is ∙ length-append before d.longer.more in
    let few = c.tiles-end.ensures.at_most in
    let block : Block = record { first = c.tiles-first.result; count = c.tiles-end.result - c.tiles-first.result } in
    let its : IsBlock m later level kind turn block = record {
      fits = omega (arith, count, end);
      few = omega (arith, count, few);
      tiles = more-tiles m before d.longer.more later (all_of t level (turned_part kind turn)) d.longer.is
          (d.found ∙ ap (λ ts. tiles_in m.order before ++ ts)
          (ap (λ ds. map (of_whole (map step_of ds)) (all_of t level (turned_part kind turn))) (drop-end _ level (take-short level _))
          ∙ behind-nothing (all_of t level (turned_part kind turn))))
          c.tiles-first.result (c.tiles-end.result - c.tiles-first.result) first (omega (arith, count, long, first, end));
      near = subst (λ n. AreNear later c.tiles-first.result n level) (sym count) (c.are_near.ensures c.if-not-are_near.false);
    } in
    record {
      rows = c.take_all.ensures.rows;
      levels = c.take_all.ensures.levels;
      same_window = d.same_window;
      longer = d.longer;
      blocks = record {
        kept = d.kept c.requires.blocks.kept;
        low = c.requires.blocks.low;
        room = length-set c.args.self.now.blocks.items c.place.result (Some block) ∙ room;
        made = subst (λ place. AreMade m later (set c.args.self.now.blocks.items place (Some block))) (sym c.place.ensures)
            (made-noted m kinds turns later c.args.self.now.blocks.items level kind turn block c.requires.kind_exists c.requires.turn_below there its
            (made-later m before d.longer.more later d.longer.is c.args.self.now.blocks.items c.requires.blocks.made));
      };
      block = its;
    }
