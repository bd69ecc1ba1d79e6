use Rattle.std.proofs.Common.{◌+ℤ◌, ◌∙◌, ap₂}
use Rattle.cyclo_points.specs.Product.{dot_of}
use Rattle.cyclo_points.proofs.ProductReadings.{read_four, read_factors}
use Rattle.cyclo_points.proofs.product.dot.Goals as goal

pub returns : goal.returns
unfolding dot_of
returns c =
    read_four c.times.result c.times-2.result c.times-3.result c.times-4.result c.times.ensures.bounded
    c.times-2.ensures.bounded c.times-3.ensures.bounded c.times-4.ensures.bounded
    ∙ ap₂ ◌+ℤ◌ (ap₂ ◌+ℤ◌ (ap₂ ◌+ℤ◌
    (c.times.ensures.value ∙ read_factors _ _ c.requires.p_within.at_0 c.requires.v0_within)
    (c.times-2.ensures.value ∙ read_factors _ _ c.requires.p_within.at_1 c.requires.v1_within))
    (c.times-3.ensures.value ∙ read_factors _ _ c.requires.p_within.at_2 c.requires.v2_within))
    (c.times-4.ensures.value ∙ read_factors _ _ c.requires.p_within.at_3 c.requires.v3_within)
