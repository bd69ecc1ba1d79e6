use Rattle.cyclo_points.specs.Order.{points_of}
use Rattle.cyclo_points.proofs.OrderLaws.{laws_of}
use Rattle.theory_windows.proofs.CarriedFrames as law
use Rattle.theory_windows.proofs.frame_laws.frame_edge_law.Goals as goal

pub returns-clause-lines : goal.returns-clause-lines
returns-clause-lines c = law.lines_law (points_of c.args.order) (laws_of c.args.order)

pub returns-clause-across : goal.returns-clause-across
returns-clause-across c = law.reverse_law (points_of c.args.order) (laws_of c.args.order)

pub returns-clause-inner : goal.returns-clause-inner
returns-clause-inner c = law.inner_law (points_of c.args.order) (laws_of c.args.order)

pub returns-clause-outside : goal.returns-clause-outside
returns-clause-outside c = law.outside_law (points_of c.args.order) (laws_of c.args.order)

pub returns-clause-numbered : goal.returns-clause-numbered
returns-clause-numbered c = law.numbered_law (points_of c.args.order) (laws_of c.args.order)

pub returns-clause-reverse_test : goal.returns-clause-reverse_test
returns-clause-reverse_test c = law.reverse_test_law (points_of c.args.order) (laws_of c.args.order)
