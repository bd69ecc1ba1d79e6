use Rattle.std.specs.Int.{w64}
use Rattle.std.proofs.Common.{◌^◌, ◌*ℤ◌, ◌≡◌, subst, sym}
use Rattle.cyclo_points.specs.Point.{Within}
use Rattle.cyclo_points.specs.Product.{product_of}
use Rattle.cyclo_points.proofs.Sizes.{within_product}
use Rattle.cyclo_points.proofs.Reals.{reading}
use Rattle.cyclo_points.proofs.RealProducts.{read_part_product, short_product_fits}
use Rattle.cyclo_points.proofs.real_product.short_times.Goals as goal

pub returns-clause-value : goal.returns-clause-value
unfolding product_of
returns-clause-value c =
    read_part_product w64 c.args.x c.args.y c.ranges.x c.ranges.y (short_product_fits c.args.x c.args.y c.requires.x_within c.requires.y_within)

pub returns-clause-bounded : goal.returns-clause-bounded
returns-clause-bounded c =
    let e : reading w64 (reading w64 c.args.x *ℤ reading w64 c.args.y) ≡ c.args.x *ℤ c.args.y =
    read_part_product w64 c.args.x c.args.y c.ranges.x c.ranges.y (short_product_fits c.args.x c.args.y c.requires.x_within c.requires.y_within) in
    subst (Within (2 ^ 50)) (sym e) (within_product (2 ^ 25) (2 ^ 25) c.args.x c.args.y c.requires.x_within c.requires.y_within)
