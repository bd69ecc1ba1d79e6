use Rattle.std.proofs.Common.{sym, arith, refl, subst}
use Rattle.list_verify.specs.Walk.{tiling_in, Stops}
use Rattle.list_verify.proofs.OneCrossing as crossing
use Rattle.list_verify.proofs.walk.Walk.cross_edge.Goals as goal

pub bounds-self-side : goal.bounds-self-side
bounds-self-side g c = (crossing.its-place c.args.self.now c.walk_laws.ensures c.args.frame.now c.args.found.now
    c.requires.at_line.under_way c.args.side.line c.requires.at_line.line_found).below

pub step_grow-requires-clause-frame : goal.step_grow-requires-clause-frame
step_grow-requires-clause-frame g c = c.requires.at_line.under_way.on_frame.lines.frame

pub step_grow-requires-clause-tile : goal.step_grow-requires-clause-tile
step_grow-requires-clause-tile g c = crossing.to-cross c.args.self.now c.walk_laws.ensures c.args.frame.now c.args.found.now
    c.requires.at_line.under_way c.args.side.line c.requires.at_line.line_found _ c.index-self-side.result refl c.put_line.new.tile
    c.put_line.ensures.motion c.put_line.ensures.address c.put_line.ensures.kind

pub step_grow-requires-clause-edge_exists : goal.step_grow-requires-clause-edge_exists
step_grow-requires-clause-edge_exists g c = crossing.edge-exists c.args.self.now c.walk_laws.ensures c.args.frame.now c.args.found.now
    c.requires.at_line.under_way c.args.side.line c.requires.at_line.line_found _ c.index-self-side.result refl c.put_line.new.tile
    c.put_line.ensures.motion c.put_line.ensures.address c.args.side.edge c.requires.edge_exists c.requires.edge_meets

pub look_up-requires-clause-index : goal.look_up-requires-clause-index
look_up-requires-clause-index g c = c.requires.at_line.under_way.on_frame.index

pub look_up-requires-clause-room : goal.look_up-requires-clause-room
look_up-requires-clause-room g c = record {
  few = let h = c.requires.at_line.under_way.on_frame.few in omega (arith, h);
  count = c.requires.at_line.under_way.lines_found.are_marked.count;
}

pub put-requires : goal.put-requires
put-requires g c = record {
  exists = crossing.mark-there c.args.self.now c.walk_laws.ensures c.args.frame.now c.args.found.now
      c.requires.at_line.under_way c.args.side.line c.requires.at_line.line_found _ c.index-self-side.result refl c.put_line.new.tile
      c.put_line.ensures.motion c.put_line.ensures.address c.args.side.edge c.requires.edge_exists c.requires.edge_meets
      c.step_grow.new.self c.in-Ok.ensures.frame c.in-Ok.ensures.least c.step_grow.new.tile c.in-Ok.edge
      c.in-Ok.ensures.crossed c.look_up.new.self c.in-Ok-look_up.line c.in-Ok-look_up.ensures.looked_up
      c.in-Ok-look_up.ensures.room.crossed;
}

pub returns-in-Ok-look_up-clause-crossed : goal.returns-in-Ok-look_up-clause-crossed
returns-in-Ok-look_up-clause-crossed g c = crossing.goes-over c.args.self.now c.walk_laws.ensures c.args.frame.now c.args.found.now
    c.requires.at_line.under_way c.args.side.line c.requires.at_line.line_found _ c.index-self-side.result refl c.put_line.new.tile
    c.put_line.ensures.motion c.put_line.ensures.address c.args.side.edge c.requires.edge_exists c.requires.edge_meets
    c.step_grow.new.self c.in-Ok.ensures.frame c.in-Ok.ensures.least c.step_grow.new.tile c.in-Ok.edge
    c.in-Ok.ensures.crossed c.look_up.new.self c.in-Ok-look_up.line c.in-Ok-look_up.ensures.looked_up

pub returns-in-Err-clause-step : goal.returns-in-Err-clause-step
returns-in-Err-clause-step g c = record {
  goes_on = tt;
  fault = subst (Stops c.args.self.now c.args.frame.now c.step_grow.new.self) (sym c.into.ensures)
      (crossing.stops-there c.args.self.now c.walk_laws.ensures c.args.frame.now c.args.found.now
      c.requires.at_line.under_way c.args.side.line c.requires.at_line.line_found _ c.index-self-side.result refl c.put_line.new.tile
      c.put_line.ensures.motion c.put_line.ensures.address c.args.side.edge c.requires.edge_exists c.requires.edge_meets
      c.step_grow.new.self c.in-Err.ensures.frame c.in-Err.ensures.least c.in-Err.ensures.limit.deepest
      (c.in-Err.ensures.limit_exactly.0 refl) c.in-Err.limit.addr c.in-Err.limit.edge c.in-Err.ensures.limit.tile
      c.in-Err.ensures.limit.edge);
}

pub returns-in-Err-look_up-clause-step : goal.returns-in-Err-look_up-clause-step
returns-in-Err-look_up-clause-step g c = record {
  goes_on = tt;
  fault = crossing.stops-looking c.args.self.now c.walk_laws.ensures c.args.frame.now c.args.found.now
      c.requires.at_line.under_way c.args.side.line c.requires.at_line.line_found _ c.index-self-side.result refl c.put_line.new.tile
      c.put_line.ensures.motion c.put_line.ensures.address c.args.side.edge c.requires.edge_exists c.requires.edge_meets
      c.step_grow.new.self c.in-Ok.ensures.frame c.in-Ok.ensures.least c.step_grow.new.tile c.in-Ok.edge
      c.in-Ok.ensures.crossed c.in-Err-look_up.fault
      (c.in-Err-look_up.ensures.fault (tiling_in c.args.self.now) c.in-Ok.ensures.crossed.in_order);
}

pub returns-in-Ok-look_up-clause-step : goal.returns-in-Ok-look_up-clause-step
returns-in-Ok-look_up-clause-step g c = record {
  goes_on = crossing.goes-on c.args.self.now c.walk_laws.ensures c.args.frame.now c.args.found.now
      c.requires.at_line.under_way c.args.side.line c.requires.at_line.line_found _ c.index-self-side.result refl c.put_line.new.tile
      c.put_line.ensures.motion c.put_line.ensures.address c.args.side.edge c.requires.edge_exists c.requires.edge_meets
      c.step_grow.new.self c.in-Ok.ensures.frame c.in-Ok.ensures.least c.step_grow.new.tile c.in-Ok.edge
      c.in-Ok.ensures.crossed c.look_up.new.self c.in-Ok-look_up.line c.in-Ok-look_up.ensures.looked_up
      c.in-Ok-look_up.ensures.room.crossed c.put.new.self c.put.ensures;
  fault = tt;
}
