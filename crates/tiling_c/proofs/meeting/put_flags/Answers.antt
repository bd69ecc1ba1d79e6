use Rattle.std.proofs.Common.{◌≡◌, ◌↔◌, ◌<◌, [], length, true, ◌∙◌, subst, rules}
use Rattle.std.proofs.lemmas.List.{length-set, get_or_default}
use Rattle.rule_model.specs.Tiling.{tiling_of}
use Rattle.c_values.specs.declared.plain_tile.PlainTile.{PlainTile}
use Rattle.c_values.specs.Tiles.{refused_as}
use Rattle.window_cover.specs.Windows.{MeetsWindow}
use Rattle.tiling_c.specs.Arrays.{plain_tile_at}
use Rattle.tiling_c.specs.Meeting.{ShowsMeeting, tile_given}
use Rattle.tiling_c.proofs.Arrays.{item_more}
use Rattle.tiling_c.proofs.Meets.{flag_of}
use Rattle.tiling_c.proofs.meeting.put_flags.Goals as goal

pub loop-i-preserved : goal.loop-i-preserved
loop-i-preserved c =
    let t = tiling_of c.args.machine.now in
    let tiles = c.args.tiles.now in
    let flags = c.loop-i.flags in
    let i = c.loop-i.i in
    let inside : i < length flags = search rules in
    let none : PlainTile = record { shift = []; status = 0; kind = 0; turn = 0; number = 0; rest = [] } in
    let meets = subst (λ x. (c.tile_meets.result ≡ true) ↔ MeetsWindow t c.args.window.now (tile_given t x))
    (get_or_default tiles i none (refused_as 0) c.loop-i-test.true) c.tile_meets.ensures in
    let flag = flag_of c.tile_meets.result c.from.result (MeetsWindow t c.args.window.now (tile_given t (plain_tile_at tiles i)))
    c.from.ensures meets in
    record {
      room = length-set flags i c.from.result ∙ c.loop-i.invariant.room;
      each = item_more 0 (λ j flag. ShowsMeeting t c.args.window.now (plain_tile_at tiles j) flag) flags i c.from.result inside
          c.loop-i.invariant.each (record { zero_or_one = flag.0; meets = flag.1 });
    }
