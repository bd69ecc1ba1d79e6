use Rattle.std.proofs.Common.{subst}
use Rattle.rule_model.specs.Tiling.{tiling_of}
use Rattle.c_values.specs.Statuses.{ok}
use Rattle.tiling_c.specs.Walk.{ShowsWalk}
use Rattle.tiling_c.proofs.Moved.{no_true}
use Rattle.tiling_c.proofs.WalkShown.{shows_not_asked, shows_walk, shows_refusal}
use Rattle.tiling_c.proofs.walk.tiling_walk.Goals as goal

pub returns-then-not-asks_for_walk-clause-shown : goal.returns-then-not-asks_for_walk-clause-shown
returns-then-not-asks_for_walk-clause-shown c = shows_not_asked _ c.args.frame.now c.args.grow c.args.path.now c.args.tiles.now c.args.addrs.now
    (λ asks. no_true c.asks_for_walk.result c.if-not-asks_for_walk.true (c.asks_for_walk.ensures.1 asks))

pub returns-in-Ok-clause-shown : goal.returns-in-Ok-clause-shown
returns-in-Ok-clause-shown c = subst (λ r. ShowsWalk (tiling_of r) c.args.frame.now c.args.grow c.args.path.now c.args.tiles.now
    c.put_tiles.new.tiles c.args.addrs.now c.put_tiles.new.addrs ok) c.get-machine.ensures
    (shows_walk _ c.args.frame.now c.args.grow c.args.path.now c.args.tiles.now c.args.addrs.now
    (c.asks_for_walk.ensures.0 c.if-not-asks_for_walk.false) c.put_tiles.new.tiles c.put_tiles.new.addrs c.in-Ok.grown c.in-Ok.ensures.given
    c.put_tiles.ensures)

pub returns-in-Err-clause-shown : goal.returns-in-Err-clause-shown
returns-in-Err-clause-shown c = subst (λ r. ShowsWalk (tiling_of r) c.args.frame.now c.args.grow c.args.path.now c.args.tiles.now
    c.args.tiles.now c.args.addrs.now c.args.addrs.now c.in-Err.status) c.get-machine.ensures
    (shows_refusal _ c.args.frame.now c.args.grow c.args.path.now c.args.tiles.now c.args.addrs.now
    (c.asks_for_walk.ensures.0 c.if-not-asks_for_walk.false) c.in-Err.status c.in-Err.ensures.refused)
