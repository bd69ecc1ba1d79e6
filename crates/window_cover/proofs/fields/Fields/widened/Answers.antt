use Rattle.std.proofs.Common.{rules, arith}
use Rattle.cyclo_points.specs.Point.{coefficient}
use Rattle.window_cover.specs.Words.{LiesIn}
use Rattle.window_cover.proofs.fields.Fields.widened.Goals as goal

pub returns-clause-held : goal.returns-clause-held
returns-clause-held c =
    let s = c.args.motion.now.shift in
    let h0 : LiesIn c.widened.result (coefficient s 0) = let e = c.widened.ensures.held in search (rules, e) in
    let h1 : LiesIn c.widened-2.result (coefficient s 1) = let e = c.widened-2.ensures.held in search (rules, e) in
    let h2 : LiesIn c.widened-3.result (coefficient s 2) = let e = c.widened-3.ensures.held in search (rules, e) in
    let h3 : LiesIn c.widened-4.result (coefficient s 3) = let e = c.widened-4.ensures.held in search (rules, e) in
    record {
      a0 = h0;
      a1 = h1;
      a2 = h2;
      a3 = h3;
      turn_below = c.requires.fits.turn_fits;
      kind_below = let e = c.from.ensures in let l = c.larger.ensures.second in omega (arith, e, l);
    }

pub returns-clause-kept : goal.returns-clause-kept
returns-clause-kept c = λ m k h. record {
  a0 = c.widened.ensures.kept _ h.a0;
  a1 = c.widened-2.ensures.kept _ h.a1;
  a2 = c.widened-3.ensures.kept _ h.a2;
  a3 = c.widened-4.ensures.kept _ h.a3;
  turn_below = h.turn_below;
  kind_below = let l = c.larger.ensures.first in let e = h.kind_below in omega (arith, e, l);
}
