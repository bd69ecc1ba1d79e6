use Rattle.std.proofs.Common.{◌^◌, lit≤}
use Rattle.std.proofs.lemmas.Bool.{not-true}
use Rattle.cyclo_points.proofs.Within.{point_wider}
use Rattle.trial_plain_tiles.proofs.small.near.Goals as goal

pub returns-clause-crossed : goal.returns-clause-crossed
returns-clause-crossed c = λ yes. point_wider (2 ^ 24) (2 ^ 25) _ (lit≤ tt) (c.refused.ensures.within (not-true c.refused.result yes))

pub returns-clause-moved : goal.returns-clause-moved
returns-clause-moved c = λ yes. point_wider (2 ^ 24) (2 ^ 38) _ (lit≤ tt) (c.refused.ensures.within (not-true c.refused.result yes))

pub returns-clause-turned : goal.returns-clause-turned
returns-clause-turned c = λ yes. point_wider (2 ^ 24) (2 ^ 40) _ (lit≤ tt) (c.refused.ensures.within (not-true c.refused.result yes))
