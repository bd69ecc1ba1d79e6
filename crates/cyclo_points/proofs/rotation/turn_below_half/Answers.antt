use Rattle.std.proofs.Common.{subst, sym}
use Rattle.cyclo_points.proofs.Turns.{IsTurned}
use Rattle.cyclo_points.proofs.rotation.turn_below_half.Goals as goal

pub returns-in-Four-clause-turned : goal.returns-in-Four-clause-turned
returns-in-Four-clause-turned c = subst (λ o. IsTurned o c.args.k c.args.p.now c.turn_four.result) (sym c.in-Four.is) c.turn_four.ensures.turned

pub returns-in-Six-clause-turned : goal.returns-in-Six-clause-turned
returns-in-Six-clause-turned c = subst (λ o. IsTurned o c.args.k c.args.p.now c.turn_six.result) (sym c.in-Six.is) c.turn_six.ensures.turned

pub returns-in-Eight-clause-turned : goal.returns-in-Eight-clause-turned
returns-in-Eight-clause-turned c = subst (λ o. IsTurned o c.args.k c.args.p.now c.turn_eight.result) (sym c.in-Eight.is) c.turn_eight.ensures.turned

pub returns-in-Ten-clause-turned : goal.returns-in-Ten-clause-turned
returns-in-Ten-clause-turned c = subst (λ o. IsTurned o c.args.k c.args.p.now c.turn_ten.result) (sym c.in-Ten.is) c.turn_ten.ensures.turned
