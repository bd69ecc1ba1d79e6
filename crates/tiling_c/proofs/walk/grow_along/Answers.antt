use Rattle.rule_model.specs.Tiling.{tiling_of}
use Rattle.tiling_c.proofs.PathFaults.{path_status, lacks_edge, is_stopped}
use Rattle.tiling_c.proofs.walk.grow_along.Goals as goal

pub returns-in-Ok-clause-grown : goal.returns-in-Ok-clause-grown
returns-in-Ok-clause-grown g c = record {
  grown = c.grow_along.ensures.frame;
  least = c.grow_along.ensures.least;
  walked = c.in-Ok.ensures.walked;
  walked_at_64 = c.in-Ok.ensures.walked_at_64;
}

pub returns-clause-stopped : goal.returns-clause-stopped
returns-clause-stopped g c =
    let t = tiling_of c.args.machine.now in record {
      lacks_edge = lacks_edge t c.args.frame.now c.args.path.now c.in-Err.fault c.status_of.result c.status_of.ensures
          c.in-Err.ensures.fault_at_64;
      stopped = is_stopped t c.args.frame.now c.args.path.now c.in-Err.fault c.status_of.result c.status_of.ensures
          c.in-Err.ensures.fault_at_64;
      statuses = path_status c.in-Err.fault c.status_of.result c.status_of.ensures;
    }
