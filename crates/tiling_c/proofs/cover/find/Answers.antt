use Rattle.rule_model.specs.Tiling.{tiling_of}
use Rattle.tile_app.proofs.Covering.{at_most_limit}
use Rattle.tiling_c.proofs.Covers.{ended_within}
use Rattle.tiling_c.proofs.cover.find.Goals as goal

pub returns-in-Ok-clause-found : goal.returns-in-Ok-clause-found
returns-in-Ok-clause-found c = let found = c.in-Ok.ensures in record {
  exactly = record {
    grown = c.covered_tiles.ensures.frame;
    least = found.least;
    stand = found.stand;
    drawn = found.drawn;
    in_order = found.in_order;
    covered = found.covered;
  };
  few = at_most_limit (tiling_of c.args.machine.now) c.args.given.now.frame c.covered_tiles.new.frame c.args.given.now.window
      c.requires.frame c.covered_tiles.ensures.frame found.within found.least c.in-Ok.covered found.drawn;
  within = found.within;
}

pub returns-in-Err-clause-ended : goal.returns-in-Err-clause-ended
returns-in-Err-clause-ended c = record {
  ended = record {
    frame = c.covered_tiles.new.frame;
    grown = c.covered_tiles.ensures.frame;
    fault = c.in-Err.fault;
    cause = c.in-Err.ensures.cause;
    is_status = c.status_of.ensures;
  };
  answered = λ within. ended_within c.covered_tiles.result c.in-Err.fault c.status_of.result c.in-Err.is c.status_of.ensures
      (c.covered_tiles.ensures.answered within);
}
