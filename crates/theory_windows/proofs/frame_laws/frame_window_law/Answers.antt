use Rattle.cyclo_points.specs.Order.{points_of}
use Rattle.cyclo_points.proofs.OrderLaws.{laws_of}
use Rattle.theory_windows.proofs.CarriedFrames as law
use Rattle.theory_windows.proofs.frame_laws.frame_window_law.Goals as goal

pub returns-clause-drawn : goal.returns-clause-drawn
returns-clause-drawn c = law.drawn_law (points_of c.args.order) (laws_of c.args.order)

pub returns-clause-covers : goal.returns-clause-covers
returns-clause-covers c = law.covers_law (points_of c.args.order) (laws_of c.args.order)

pub returns-clause-least : goal.returns-clause-least
returns-clause-least c = law.least_law (points_of c.args.order) (laws_of c.args.order)

pub returns-clause-within : goal.returns-clause-within
returns-clause-within c = law.within_law (points_of c.args.order) (laws_of c.args.order)
