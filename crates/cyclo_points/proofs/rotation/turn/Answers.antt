use Rattle.std.proofs.Common.{◌/◌, ap}
use Rattle.cyclo_points.proofs.Turns.{turned-negative}
use Rattle.cyclo_points.proofs.rotation.turn.Goals as goal

pub returns-else-k-half-clause-turned : goal.returns-else-k-half-clause-turned
returns-else-k-half-clause-turned c =
    turned-negative c.args.order (c.n-half.result / 2) c.args.k c.args.p.now c.opposite.result c.turn_below_half-else-k-half.result
    (ap (λ n. n / 2) c.n-half.ensures) c.if-k-half.false c.turn_below_half-else-k-half.ensures.turned (c.opposite.ensures.negative c.args.order)
