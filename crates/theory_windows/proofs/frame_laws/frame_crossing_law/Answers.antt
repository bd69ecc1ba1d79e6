use Rattle.cyclo_points.specs.Order.{points_of}
use Rattle.cyclo_points.proofs.OrderLaws.{laws_of}
use Rattle.theory_dissection.proofs.Turns.{turns_of}
use Rattle.theory_windows.proofs.CarriedFrames as law
use Rattle.theory_windows.proofs.frame_laws.frame_crossing_law.Goals as goal

pub returns-clause-across : goal.returns-clause-across
returns-clause-across c = law.across_law (points_of c.args.order) (laws_of c.args.order)

pub returns-clause-grown : goal.returns-clause-grown
returns-clause-grown c = law.grown_crossing_law (points_of c.args.order) (laws_of c.args.order)

pub returns-clause-last : goal.returns-clause-last
returns-clause-last c = law.last_boundary_law (points_of c.args.order) (laws_of c.args.order)

pub returns-clause-glued : goal.returns-clause-glued
returns-clause-glued c = law.glued_crossing_law (points_of c.args.order) (laws_of c.args.order) (turns_of c.args.order)
