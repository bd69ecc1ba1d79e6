use Rattle.tiling_c.proofs.PlaceShown.{shows_in_array, shows_none_in_array}
use Rattle.tiling_c.proofs.place_arrays.tile_placed.Goals as goal

pub returns-in-Ok : goal.returns-in-Ok
returns-in-Ok c = shows_in_array _ c.args.addr.now c.in-Ok.motion c.placed.result c.in-Ok.ensures.given c.placed.ensures

pub returns-in-Err : goal.returns-in-Err
returns-in-Err c = shows_none_in_array _ c.args.addr.now c.refused.result c.in-Err.status c.in-Err.ensures.refused c.refused.ensures
