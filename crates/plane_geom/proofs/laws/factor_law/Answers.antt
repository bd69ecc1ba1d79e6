use Rattle.cyclo_points.specs.Order.{points_of}
use Rattle.theory_substitution.proofs.Lengths.{real_growth}
use Rattle.theory_substitution.proofs.Keeping.{factor-keeps, powers-keep}
use Rattle.plane_geom.proofs.laws.factor_law.Goals as goal

pub returns-clause-keeps : goal.returns-clause-keeps
returns-clause-keeps c = factor-keeps (points_of c.args.order) c.points_law.ensures

pub returns-clause-powers_keep : goal.returns-clause-powers_keep
returns-clause-powers_keep c = powers-keep (points_of c.args.order) c.points_law.ensures

pub returns-clause-real_factors : goal.returns-clause-real_factors
returns-clause-real_factors c = real_growth (points_of c.args.order) c.points_law.ensures
