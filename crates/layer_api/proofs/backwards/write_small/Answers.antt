use Rattle.std.proofs.Common.{arith}
use Rattle.layer_api.proofs.Figures.{one_figure, three_figures}
use Rattle.layer_api.proofs.backwards.write_small.Goals as goal

pub returns-then-number-lt10-clause-written : goal.returns-then-number-lt10-clause-written
returns-then-number-lt10-clause-written c = one_figure c.args.number c.args.end c.args.buf.now (omega arith) (omega arith) c.requires.inside

pub write_digits-requires : goal.write_digits-requires
write_digits-requires c = let s = three_figures c.from.result (omega (arith, c.from.ensures)) in (omega arith, c.requires.inside)

pub returns-clause-at_most : goal.returns-clause-at_most
returns-clause-at_most c = let s = three_figures c.from.result (omega (arith, c.from.ensures)) in omega arith
