use Rattle.std.proofs.Common.{◌^◌, subst, sym}
use Rattle.cyclo_points.specs.Point.{Within}
use Rattle.cyclo_points.specs.Product.{product_of}
use Rattle.cyclo_points.proofs.Sizes.{within_product}
use Rattle.cyclo_points.proofs.ProductReadings.{read_product, machine_product_fits}
use Rattle.cyclo_points.proofs.product.times.Goals as goal

pub overflow_mul-result : goal.overflow_mul-result
overflow_mul-result c = machine_product_fits c.args.x c.args.y c.ranges.x c.ranges.y c.requires.x_within c.requires.y_within

pub returns-clause-value : goal.returns-clause-value
unfolding product_of
returns-clause-value c = read_product c.args.x c.args.y c.ranges.x c.ranges.y c.requires.x_within c.requires.y_within

pub returns-clause-bounded : goal.returns-clause-bounded
returns-clause-bounded c =
    subst (Within (2 ^ 49)) (sym (read_product c.args.x c.args.y c.ranges.x c.ranges.y c.requires.x_within c.requires.y_within))
    (within_product (2 ^ 32) (2 ^ 17) c.args.x c.args.y c.requires.x_within c.requires.y_within)
