use Rattle.tiling_c.proofs.Glued.{glue_ended_within}
use Rattle.tiling_c.proofs.glue.glue.Goals as goal

pub returns-in-Ok-clause-glued : goal.returns-in-Ok-clause-glued
returns-in-Ok-clause-glued c = let found = c.in-Ok.ensures in record {
  can_be_glued = found.ends.within;
  grown = c.glue_covered.ensures.ends.frame;
  least = found.ends.least;
  whole_tiles = found.whole_tiles;
  in_order = found.in_order;
}

pub returns-in-Err-clause-ended : goal.returns-in-Err-clause-ended
returns-in-Err-clause-ended c = record {
  ended = record {
    glued_frame = c.glue_covered.new.frame;
    grown = c.glue_covered.ensures.ends.frame;
    fault = c.in-Err.fault;
    cause = c.in-Err.ensures.ends.cause;
    is_status = c.status_of.ensures;
  };
  answered = λ can. glue_ended_within c.glue_covered.result c.in-Err.fault c.status_of.result c.in-Err.is c.status_of.ensures
      (c.glue_covered.ensures.ends.answered can);
}
