use Rattle.std.proofs.Common.{rules}
use Rattle.rule_model.specs.Tiling.{tiling_of}
use Rattle.trial_tiles.proofs.window_wholes.by_numbers.Goals as goal

pub glue_covered-requires-clause-to_glue : goal.glue_covered-requires-clause-to_glue
glue_covered-requires-clause-to_glue c = record {
  frame = c.in-Ok.ensures.frame.is_frame;
  few = search rules;
  given = λ k d l. c.given_law.ensures (tiling_of c.args.machine.now) c.covered_tiles.new.frame _
      (c.in-Ok.ensures.stand k d l) (c.none_of_them_refused.ensures c.if-not-none_of_them_refused.false k d l);
}
