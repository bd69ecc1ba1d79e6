-- The points of each order meet the laws of points.
use Rattle.cyclo_points.specs.declared.order.Order.{Order}
use Rattle.cyclo_points.specs.declared.order.Order.TheVariants.{Four, Six, Eight, Ten}
use Rattle.cyclo_points.specs.Order.{PointsLaw}
use Rattle.cyclo_points.proofs.FourLaws.{points_four_laws}
use Rattle.cyclo_points.proofs.SixLaws.{points_six_laws}
use Rattle.cyclo_points.proofs.EightLaws.{points_eight_laws}
use Rattle.cyclo_points.proofs.TenLaws.{points_ten_laws}

pub laws_of : (o : Order) → PointsLaw o
laws_of Four = points_four_laws
laws_of Six = points_six_laws
laws_of Eight = points_eight_laws
laws_of Ten = points_ten_laws
