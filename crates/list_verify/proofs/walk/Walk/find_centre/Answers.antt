use Rattle.std.proofs.Common.{arith, refl}
use Rattle.std.proofs.lemmas.Result.{IfErr-weaker, IfOk-weaker}
use Rattle.list_verify.specs.Walk.{tiling_in}
use Rattle.list_verify.proofs.AtCentre.{stops-before, stops-looking, goes-on}
use Rattle.list_verify.proofs.walk.Walk.find_centre.Goals as goal

pub contain-requires-clause-frame : goal.contain-requires-clause-frame
contain-requires-clause-frame c = c.requires.begins.on_frame.lines.frame

pub contain-requires-clause-point_within : goal.contain-requires-clause-point_within
contain-requires-clause-point_within c = c.requires.begins.on_frame.window_fits.centre_within

pub look_up-requires-clause-index : goal.look_up-requires-clause-index
look_up-requires-clause-index c = c.requires.begins.on_frame.index

pub look_up-requires-clause-room : goal.look_up-requires-clause-room
look_up-requires-clause-room c = record {
  few = let h = c.requires.begins.on_frame.few in omega (arith, h);
  count = c.requires.begins.none.count;
}

pub returns-in-Ok-clause-centre_found : goal.returns-in-Ok-clause-centre_found
returns-in-Ok-clause-centre_found c = IfOk-weaker c.look_up.result _ _ (λ number n. c.in-Ok.ensures.found_exactly.0 refl)
    c.look_up.ensures.looked_up

pub returns-in-Err-clause-step : goal.returns-in-Err-clause-step
returns-in-Err-clause-step c = record {
  goes_on = tt;
  fault = stops-before c.args.self.now c.walk_laws.ensures c.args.frame.now c.requires.begins.on_frame c.args.found.now c.requires.begins.none
      c.contain.new.self c.in-Err.ensures.frame c.in-Err.ensures.least
      c.in-Err.limit.value c.in-Err.ensures.limit.first c.in-Err.ensures.limit.in_order;
}

pub returns-in-Ok-clause-step : goal.returns-in-Ok-clause-step
returns-in-Ok-clause-step c = record {
  goes_on = IfOk-weaker c.look_up.result _ _
      (λ number n. goes-on c.args.self.now c.walk_laws.ensures c.args.frame.now c.requires.begins.on_frame
      c.args.found.now c.requires.begins.none
      c.contain.new.self c.in-Ok.ensures.frame c.in-Ok.ensures.least c.in-Ok.tile
      c.in-Ok.ensures.stands c.in-Ok.ensures.only_tile c.look_up.new.self number n
      c.look_up.ensures.room.crossed) c.look_up.ensures.looked_up;
  fault = IfErr-weaker c.look_up.result _ _
      (stops-looking c.args.self.now c.walk_laws.ensures c.args.frame.now c.requires.begins.on_frame c.args.found.now
      c.requires.begins.none
      c.contain.new.self c.in-Ok.ensures.frame c.in-Ok.ensures.least c.in-Ok.tile
      c.in-Ok.ensures.stands c.in-Ok.ensures.only_tile)
      (c.look_up.ensures.fault (tiling_in c.args.self.now) c.in-Ok.ensures.stands.in_order);
}
