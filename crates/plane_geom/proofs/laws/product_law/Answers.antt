use Rattle.cyclo_points.specs.Order.{points_of}
use Rattle.theory_substitution.proofs.Lengths.{norm-mul}
use Rattle.theory_substitution.proofs.Keeping.{product-orientation, product-keeps}
use Rattle.plane_geom.proofs.laws.product_law.Goals as goal

pub returns-clause-orientations : goal.returns-clause-orientations
returns-clause-orientations c = product-orientation (points_of c.args.order) c.points_law.ensures

pub returns-clause-lengths : goal.returns-clause-lengths
returns-clause-lengths c = norm-mul (points_of c.args.order) c.points_law.ensures

pub returns-clause-keeps : goal.returns-clause-keeps
returns-clause-keeps c = product-keeps (points_of c.args.order) c.points_law.ensures
