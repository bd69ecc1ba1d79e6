use Rattle.std.proofs.Common.{arith}
use Rattle.list_verify.proofs.EachLine.{none-crossed, is-found, one-more, fewer-left, ended}
use Rattle.list_verify.proofs.Onward.{now, stopped}
use Rattle.list_verify.proofs.walk.Walk.go.Goals as goal

pub loop-place-init : goal.loop-place-init
loop-place-init g c = none-crossed c.args.self.now c.args.frame.now c.find_centre.new.frame c.args.found.now c.find_centre.new.found
    c.in-Ok.ensures.step.goes_on

pub cross_edges-requires : goal.cross_edges-requires
cross_edges-requires g c = record {
  at_line = record {
    under_way = now c.args.self.now c.args.frame.now c.loop-place.frame c.args.found.now c.loop-place.found c.loop-place.invariant.0;
    line_found = is-found c.args.self.now c.walk_laws.ensures c.args.frame.now
        c.loop-place.frame c.args.found.now c.loop-place.found
        c.loop-place.place c.loop-place.invariant
        (omega (arith, c.loop-place.found.lines.ok, c.len.ensures, c.loop-place-test.true)) c.index-line.result.now _ c.index-line.ensures;
  };
}

pub loop-place-preserved : goal.loop-place-preserved
loop-place-preserved g c = one-more c.args.self.now c.walk_laws.ensures c.args.frame.now c.loop-place.frame c.args.found.now c.loop-place.found
    c.loop-place.place c.loop-place.invariant
    (omega (arith, c.loop-place.found.lines.ok, c.len.ensures, c.loop-place-test.true)) c.index-line.result.now _ c.index-line.ensures
    c.cross_edges.new.frame c.cross_edges.new.found c.in-Ok-cross_edges.ensures.step.goes_on c.in-Ok-cross_edges.ensures.crossed

pub loop-place-smaller : goal.loop-place-smaller
loop-place-smaller g c = fewer-left c.args.self.now c.walk_laws.ensures c.args.frame.now c.loop-place.frame c.args.found.now c.loop-place.found
    c.loop-place.place c.loop-place.invariant
    (omega (arith, c.loop-place.found.lines.ok, c.len.ensures, c.loop-place-test.true))

pub returns-in-Err-cross_edges-clause-fault : goal.returns-in-Err-cross_edges-clause-fault
returns-in-Err-cross_edges-clause-fault g c =
    stopped c.args.self.now c.args.frame.now c.loop-place.frame c.args.found.now c.loop-place.found c.loop-place.invariant.0
    c.cross_edges.new.frame c.in-Err-cross_edges.fault c.in-Err-cross_edges.ensures.step.fault

pub returns-clause-ended : goal.returns-clause-ended
returns-clause-ended g c = ended c.args.self.now c.walk_laws.ensures c.args.frame.now c.loop-place.frame c.args.found.now c.loop-place.found
    c.loop-place.place c.loop-place.invariant
    (omega (arith, c.loop-place.found.lines.ok, c.len.ensures, c.loop-place-test.false)) c.in-Ok.ensures.centre_found
