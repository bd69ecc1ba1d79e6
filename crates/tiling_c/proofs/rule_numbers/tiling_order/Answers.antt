use Rattle.std.proofs.Common.{ap, ◌∙◌}
use Rattle.cyclo_points.specs.Order.{points_of}
use Rattle.tiling_c.proofs.rule_numbers.tiling_order.Goals as goal

pub returns : goal.returns
returns c = c.n.ensures ∙ ap (λ o. (points_of o).order) (c.order.ensures.order ∙ ap (λ r. r.order) (c.checked.ensures.rule ∙ c.get.ensures))
