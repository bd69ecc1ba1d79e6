use Rattle.std.proofs.Common.{rules, arith}
use Rattle.cyclo_points.specs.Point.{coefficient}
use Rattle.window_cover.specs.Words.{LiesIn}
use Rattle.window_cover.proofs.fields.Fields.of.Goals as goal

pub returns-clause-held : goal.returns-clause-held
returns-clause-held c =
    let s = c.args.motion.now.shift in
    let h0 : LiesIn c.at.result (coefficient s 0) = let e = c.at.ensures.held in search (rules, e) in
    let h1 : LiesIn c.at-2.result (coefficient s 1) = let e = c.at-2.ensures.held in search (rules, e) in
    let h2 : LiesIn c.at-3.result (coefficient s 2) = let e = c.at-3.ensures.held in search (rules, e) in
    let h3 : LiesIn c.at-4.result (coefficient s 3) = let e = c.at-4.ensures.held in search (rules, e) in
    record { a0 = h0; a1 = h1; a2 = h2; a3 = h3; turn_below = c.requires.fits.turn_fits; kind_below = let e = c.from.ensures in omega (arith, e) }
