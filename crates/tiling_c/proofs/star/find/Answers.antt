use Rattle.std.proofs.Common.{subst}
use Rattle.std.specs.Prelude.{IsOk}
use Rattle.tiling_c.proofs.star.find.Goals as goal

pub returns-in-Ok-clause-found : goal.returns-in-Ok-clause-found
returns-in-Ok-clause-found g c = let found = c.in-Ok.ensures.star in record {
  star = record {
    frame = c.star.new.frame;
    grown = c.star.ensures.ended.frame;
    least = found.least;
    stand = found.stand.stand;
    round = found.round;
    in_turn = found.turning;
  };
  within = found.within;
}

pub returns-clause-ended : goal.returns-clause-ended
returns-clause-ended g c = record {
  ended = record {
    frame = c.star.new.frame;
    grown = c.star.ensures.ended.frame;
    fault = c.in-Err.fault;
    cause = c.in-Err.ensures.ended.cause;
    is_status = c.status_of.ensures;
  };
  beyond = λ within. absurd (cc (subst (λ r. IsOk r) c.in-Err.is (c.star.ensures.ended.answered within)));
}
