-- What holds of each order.
use Rattle.std.proofs.Common.{◌≤◌, lit≤}
use Rattle.cyclo_points.specs.declared.order.Order.{Order}
use Rattle.cyclo_points.specs.declared.order.Order.TheVariants.{Four, Six, Eight, Ten}
use Rattle.cyclo_points.specs.Order.{points_of}

pub each-order : (Q : Order → Type 0) → Q Four → Q Six → Q Eight → Q Ten → (o : Order) → Q o
each-order Q a b c d Four = a
each-order Q a b c d Six = b
each-order Q a b c d Eight = c
each-order Q a b c d Ten = d

-- a turn fits four bits
pub order-fits : (o : Order) → (points_of o).order ≤ 16
order-fits Four = lit≤ tt
order-fits Six = lit≤ tt
order-fits Eight = lit≤ tt
order-fits Ten = lit≤ tt
