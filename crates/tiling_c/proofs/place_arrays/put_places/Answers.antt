use Rattle.std.proofs.Common.{rules, ◌<◌, length, ◌∙◌}
use Rattle.std.proofs.lemmas.List.{length-set}
use Rattle.rule_model.specs.Tiling.{tiling_of}
use Rattle.c_values.specs.Tiles.{refused_as}
use Rattle.tiling_c.specs.Arrays.{plain_address_at}
use Rattle.tiling_c.specs.Placing.{ShowsPlaceInArray}
use Rattle.tiling_c.proofs.Arrays.{item_more}
use Rattle.tiling_c.proofs.place_arrays.put_places.Goals as goal

pub loop-i-preserved : goal.loop-i-preserved
loop-i-preserved c =
    let t = tiling_of c.args.machine.now in
    let tiles = c.loop-i.tiles in
    let i = c.loop-i.i in
    let in_tiles : i < length tiles = search rules in
    record {
      room = length-set tiles i c.tile_placed.result ∙ c.loop-i.invariant.room;
      each = item_more (refused_as 0) (λ j tile. ShowsPlaceInArray t (plain_address_at c.args.addrs.now j) tile) tiles i
          c.tile_placed.result in_tiles c.loop-i.invariant.each c.tile_placed.ensures;
    }
