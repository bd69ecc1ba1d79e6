use Rattle.cyclo_points.specs.Order.{points_of}
use Rattle.cyclo_points.proofs.OrderLaws.{laws_of}
use Rattle.theory_stars.proofs.Carried as law
use Rattle.theory_stars.proofs.frame_base_law.Goals as goal

pub returns-clause-base : goal.returns-clause-base
returns-clause-base c = law.frame_base_law (points_of c.args.order) (laws_of c.args.order)

pub returns-clause-back : goal.returns-clause-back
returns-clause-back c = law.frame_back_law (points_of c.args.order) (laws_of c.args.order)

pub returns-clause-stop : goal.returns-clause-stop
returns-clause-stop c = law.frame_stop_law (points_of c.args.order) (laws_of c.args.order)
