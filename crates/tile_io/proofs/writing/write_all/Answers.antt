use Rattle.std.proofs.Common.{arith}
use Rattle.tile_io.proofs.TakenLemmas.{takes_next}
use Rattle.tile_io.proofs.writing.write_all.Goals as goal

pub loop-at-preserved : goal.loop-at-preserved
loop-at-preserved g c = record {
  within = grind (arith, c.in_ok-at.ensures.within);
  taken = takes_next _ _ _ _ _ _ c.loop-at.invariant.taken c.in_ok-at.ensures.takes;
  never_falls = omega (arith, c.loop-at.invariant.never_falls, c.in_ok-at.ensures.cause.never_falls);
  untouched = λ nothing. absurd (grind (arith, c.in_ok-at.ensures.advances));
}
