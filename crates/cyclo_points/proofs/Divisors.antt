-- The positive numbers of the coordinates of each order divide whole numbers.
use Rattle.theory_ring.specs.Divisor.{DividesWhole}
use Rattle.theory_ring.proofs.Divisor.{integers_divide, root_two_divide, golden_divide}
use Rattle.cyclo_points.specs.declared.order.Order.{Order}
use Rattle.cyclo_points.specs.declared.order.Order.TheVariants.{Four, Six, Eight, Ten}
use Rattle.cyclo_points.specs.Order.{points_of}

pub divisors_of : (o : Order) → DividesWhole (points_of o).real
divisors_of Four = integers_divide
divisors_of Six = integers_divide
divisors_of Eight = root_two_divide
divisors_of Ten = golden_divide
