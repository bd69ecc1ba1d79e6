use Rattle.cyclo_points.specs.Order.{points_of}
use Rattle.cyclo_points.proofs.OrderLaws.{laws_of}
use Rattle.theory_stars.proofs.Carried as law
use Rattle.theory_stars.proofs.frame_star_law.Goals as goal

pub returns-clause-simple : goal.returns-clause-simple
returns-clause-simple c = law.simple_frame_law (points_of c.args.order) (laws_of c.args.order)

pub returns-clause-next : goal.returns-clause-next
returns-clause-next c = law.frame_next_law (points_of c.args.order) (laws_of c.args.order)

pub returns-clause-star : goal.returns-clause-star
returns-clause-star c = law.frame_star_law (points_of c.args.order) (laws_of c.args.order)

pub returns-clause-corners : goal.returns-clause-corners
returns-clause-corners c = law.frame_corners_law (points_of c.args.order) (laws_of c.args.order)
