use Rattle.cyclo_points.specs.Order.{points_of}
use Rattle.cyclo_points.proofs.OrderLaws.{laws_of}
use Rattle.theory_windows.proofs.Carried as law
use Rattle.theory_windows.proofs.patch_laws.drawn_law.Goals as goal

pub returns-clause-same : goal.returns-clause-same
returns-clause-same c = law.drawn_same_law (points_of c.args.order) (laws_of c.args.order)

pub returns-clause-drawn : goal.returns-clause-drawn
returns-clause-drawn c = law.drawn_order_law (points_of c.args.order) (laws_of c.args.order)

pub returns-clause-covers : goal.returns-clause-covers
returns-clause-covers c = law.covers_order_law (points_of c.args.order) (laws_of c.args.order)
