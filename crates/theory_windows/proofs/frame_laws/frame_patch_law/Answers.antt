use Rattle.cyclo_points.specs.Order.{points_of}
use Rattle.cyclo_points.proofs.OrderLaws.{laws_of}
use Rattle.theory_windows.proofs.CarriedFrames as law
use Rattle.theory_windows.proofs.frame_laws.frame_patch_law.Goals as goal

pub returns-clause-dissected : goal.returns-clause-dissected
returns-clause-dissected c = law.frame_patch_law (points_of c.args.order) (laws_of c.args.order)

pub returns-clause-lifted : goal.returns-clause-lifted
returns-clause-lifted c = law.lift_law (points_of c.args.order) (laws_of c.args.order)

pub returns-clause-named : goal.returns-clause-named
returns-clause-named c = law.named_law (points_of c.args.order) (laws_of c.args.order)
