-- The coordinates of each order's points lie in an ordered ring.
use Rattle.theory_ring.specs.Ring.{Laws}
use Rattle.cyclo_points.specs.declared.order.Order.{Order}
use Rattle.cyclo_points.proofs.OrderLaws.{laws_of}
use Rattle.plane_geom.specs.Spots.{reals_of}

pub reals_ring : (o : Order) → Laws (reals_of o).ops
reals_ring o = (laws_of o).of_real
