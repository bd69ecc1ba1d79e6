use Rattle.std.proofs.Common.{subst, sym}
use Rattle.cyclo_points.specs.declared.order.Order.TheVariants.{Four, Six, Eight, Ten}
use Rattle.cyclo_points.proofs.ProductSizes.{IsProduct, product_within}
use Rattle.cyclo_points.proofs.product.mul.Goals as goal

pub returns-in-Four-clause-product : goal.returns-in-Four-clause-product
returns-in-Four-clause-product c = subst (λ o. IsProduct o c.args.p.now c.args.q.now c.mul_four.result) (sym c.in-Four.is) c.mul_four.ensures.product

pub returns-in-Four-clause-bounded : goal.returns-in-Four-clause-bounded
returns-in-Four-clause-bounded c = λ m k. product_within Four m k c.args.p.now c.args.q.now c.mul_four.result
    c.mul_four.ensures.product c.mul_four.ensures.in_order

pub returns-in-Six-clause-product : goal.returns-in-Six-clause-product
returns-in-Six-clause-product c = subst (λ o. IsProduct o c.args.p.now c.args.q.now c.mul_six.result) (sym c.in-Six.is) c.mul_six.ensures.product

pub returns-in-Six-clause-bounded : goal.returns-in-Six-clause-bounded
returns-in-Six-clause-bounded c = λ m k. product_within Six m k c.args.p.now c.args.q.now c.mul_six.result
    c.mul_six.ensures.product c.mul_six.ensures.in_order

pub returns-in-Eight-clause-product : goal.returns-in-Eight-clause-product
returns-in-Eight-clause-product c = subst (λ o. IsProduct o c.args.p.now c.args.q.now c.mul_eight.result) (sym c.in-Eight.is) c.mul_eight.ensures

pub returns-in-Eight-clause-bounded : goal.returns-in-Eight-clause-bounded
returns-in-Eight-clause-bounded c = λ m k. product_within Eight m k c.args.p.now c.args.q.now c.mul_eight.result c.mul_eight.ensures tt

pub returns-in-Ten-clause-product : goal.returns-in-Ten-clause-product
returns-in-Ten-clause-product c = subst (λ o. IsProduct o c.args.p.now c.args.q.now c.mul_ten.result) (sym c.in-Ten.is) c.mul_ten.ensures

pub returns-in-Ten-clause-bounded : goal.returns-in-Ten-clause-bounded
returns-in-Ten-clause-bounded c = λ m k. product_within Ten m k c.args.p.now c.args.q.now c.mul_ten.result c.mul_ten.ensures tt
