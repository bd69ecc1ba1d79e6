use Rattle.cyclo_points.specs.Order.{points_of}
use Rattle.cyclo_points.proofs.OrderLaws.{laws_of}
use Rattle.theory_windows.proofs.Renamed.{grown_level_law}
use Rattle.theory_windows.proofs.CarriedFrames as law
use Rattle.theory_windows.proofs.frame_laws.frame_name_law.Goals as goal

pub returns-clause-before_growth : goal.returns-clause-before_growth
returns-clause-before_growth c = grown_level_law

pub returns-clause-renamed : goal.returns-clause-renamed
returns-clause-renamed c = law.renamed_law (points_of c.args.order) (laws_of c.args.order)

pub returns-clause-at_depth : goal.returns-clause-at_depth
returns-clause-at_depth c = law.at_depth_law (points_of c.args.order) (laws_of c.args.order)

pub returns-clause-known : goal.returns-clause-known
returns-clause-known c = law.known_law (points_of c.args.order) (laws_of c.args.order)
