use Rattle.cyclo_points.specs.Order.{points_of}
use Rattle.cyclo_points.proofs.OrderLaws.{laws_of}
use Rattle.theory_windows.proofs.Carried as law
use Rattle.theory_windows.proofs.patch_laws.from_level_law.Goals as goal

pub returns-clause-inner : goal.returns-clause-inner
returns-clause-inner c = law.inner_from_level_law (points_of c.args.order) (laws_of c.args.order)

pub returns-clause-held : goal.returns-clause-held
returns-clause-held c = law.held_from_level_law (points_of c.args.order) (laws_of c.args.order)

pub returns-clause-one : goal.returns-clause-one
returns-clause-one c = law.one_across_law (points_of c.args.order) (laws_of c.args.order)
