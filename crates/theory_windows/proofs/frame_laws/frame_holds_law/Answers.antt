use Rattle.cyclo_points.specs.Order.{points_of}
use Rattle.cyclo_points.proofs.OrderLaws.{laws_of}
use Rattle.theory_windows.proofs.CarriedFrames as law
use Rattle.theory_windows.proofs.frame_laws.frame_holds_law.Goals as goal

pub returns-clause-outward : goal.returns-clause-outward
returns-clause-outward c = law.ancestor_holds_law (points_of c.args.order) (laws_of c.args.order)

pub returns-clause-level : goal.returns-clause-level
returns-clause-level c = law.holder_level_law (points_of c.args.order) (laws_of c.args.order)
