-- The turns below the order of each order are different.
use Rattle.std.proofs.Common.{◌≡◌, true, refl}
use Rattle.cyclo_points.specs.declared.order.Order.{Order}
use Rattle.cyclo_points.specs.declared.order.Order.TheVariants.{Four, Six, Eight, Ten}
use Rattle.cyclo_points.specs.Order.{points_of}
use Rattle.cyclo_points.proofs.OrderLaws.{laws_of}
use Rattle.theory_dissection.specs.Glue.{TurnsDiffer, turns_differ}
use Rattle.theory_dissection.proofs.GlueMotion.{turns_differ-is}

-- by computation
turns_computed : (o : Order) → turns_differ (points_of o) ≡ true
turns_computed Four = refl
turns_computed Six = refl
turns_computed Eight = refl
turns_computed Ten = refl

pub turns_of : (o : Order) → TurnsDiffer (points_of o)
turns_of o = turns_differ-is (points_of o) (laws_of o) (turns_computed o)
