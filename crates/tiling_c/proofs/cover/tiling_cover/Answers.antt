use Rattle.std.proofs.Common.{subst}
use Rattle.rule_model.specs.Tiling.{tiling_of}
use Rattle.tiling_c.specs.Cover.{GivesTiles, RefusesTiles}
use Rattle.tiling_c.proofs.CoverShown.{shows_tiles, shows_refusal, shows_no_room}
use Rattle.tiling_c.proofs.Moved.{no_true}
use Rattle.tiling_c.proofs.cover.tiling_cover.Goals as goal

pub returns-then-not-are_rooms-clause-shown : goal.returns-then-not-are_rooms-clause-shown
returns-then-not-are_rooms-clause-shown c = shows_no_room _ c.args.frame.now c.args.window.now c.args.tiles.now c.args.addrs.now c.args.count.now
    (λ rooms. no_true c.are_rooms.result c.if-not-are_rooms.true (c.are_rooms.ensures.1 rooms))

pub put_covered-requires : goal.put_covered-requires
put_covered-requires c = record { lengths = c.are_rooms.ensures.0 c.if-not-are_rooms.false }

pub returns-in-Ok-clause-shown : goal.returns-in-Ok-clause-shown
returns-in-Ok-clause-shown c = shows_tiles _ c.args.frame.now c.args.window.now c.args.tiles.now c.args.addrs.now
    (c.are_rooms.ensures.0 c.if-not-are_rooms.false) c.put_covered.new.tiles c.put_covered.new.addrs c.in-Ok.covered c.len.result
    (subst (λ r. GivesTiles (tiling_of r) c.args.frame.now c.args.window.now c.in-Ok.covered) c.get.ensures c.in-Ok.ensures.given)
    c.put_covered.ensures.tiles c.put_covered.ensures.addresses c.len.ensures

pub returns-in-Err-clause-shown : goal.returns-in-Err-clause-shown
returns-in-Err-clause-shown c = shows_refusal _ c.args.frame.now c.args.window.now c.args.tiles.now c.args.addrs.now
    (c.are_rooms.ensures.0 c.if-not-are_rooms.false) c.args.count.now c.in-Err.status
    (subst (λ r. RefusesTiles (tiling_of r) c.args.frame.now c.args.window.now c.in-Err.status) c.get.ensures c.in-Err.ensures.refused)
