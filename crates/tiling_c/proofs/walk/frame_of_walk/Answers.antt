use Rattle.std.proofs.Common.{inr, refl, subst}
use Rattle.rule_model.specs.Tiling.{tiling_of}
use Rattle.tiling_c.specs.Walk.{StopsAlong, IsGrownFor}
use Rattle.tiling_c.proofs.WalkShown.{grown_for, stops_from}
use Rattle.tiling_c.proofs.walk.frame_of_walk.Goals as goal

pub returns-in-Ok-clause-given : goal.returns-in-Ok-clause-given
returns-in-Ok-clause-given c =
    let t = tiling_of c.args.machine.now in record {
      named = c.in-Some.ensures.named.0 refl;
      grown = subst (λ f. IsGrownFor t f c.args.grow c.args.path.now c.grow_along.new.frame) c.in-Some.ensures.seen
          (grown_for t _ c.grow_to.new.self c.args.path.now c.grow_to.ensures.frame c.args.grow c.grow_along.new.frame
          c.grow_to.ensures.depth c.in-Ok.ensures.grown);
    }

pub returns-in-Err-clause-refused : goal.returns-in-Err-clause-refused
returns-in-Err-clause-refused c =
    let t = tiling_of c.args.machine.now in inr (record {
      named = c.in-Some.ensures.named.0 refl;
      stopped = subst (λ f. StopsAlong t f c.args.path.now c.in-Err.status) c.in-Some.ensures.seen
          (stops_from t _ c.grow_to.new.self c.args.path.now c.grow_to.ensures.frame c.in-Err.status c.in-Err.ensures.stopped);
    })
