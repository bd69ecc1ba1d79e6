use Rattle.cyclo_points.specs.Order.{points_of}
use Rattle.cyclo_points.proofs.OrderLaws.{laws_of}
use Rattle.theory_windows.proofs.Carried as law
use Rattle.theory_windows.proofs.patch_laws.outline_law.Goals as goal

pub returns-clause-known : goal.returns-clause-known
returns-clause-known c = law.outline_law (points_of c.args.order) (laws_of c.args.order)

pub returns-clause-one_owner : goal.returns-clause-one_owner
returns-clause-one_owner c = law.owner_law (points_of c.args.order) (laws_of c.args.order)
