use Rattle.std.proofs.Common.{◌^◌, ◌∙◌, ap, subst, lit≤}
use Rattle.theory_substitution.specs.Motion.{still}
use Rattle.theory_substitution.specs.Rule.{Child}
use Rattle.theory_substitution.specs.Placement.{finer}
use Rattle.cyclo_points.specs.Order.{NumberOf, PointsLaw, points_of}
use Rattle.cyclo_points.proofs.Within.{point_wider}
use Rattle.rule_model.specs.Views.{child_in}
use Rattle.tile_place.proofs.Start.{from_still}
use Rattle.tile_place.proofs.place.coarsest.Goals as goal

pub returns-clause-moved : goal.returns-clause-moved
returns-clause-moved g c =
    let t = g.P.Placing.tiling c.args.rule.now in
    from_still (points_of t.order) (subst PointsLaw c.requires.order c.points_law.ensures) t.rule
    (child_in t.order c.child-child.result).motion c.child-child.ensures.turn_below
    ∙ ap (λ (child : Child (NumberOf t.order)). finer (points_of t.order) t.rule (still (points_of t.order))
    child.motion) c.child-child.ensures.number

pub returns-clause-moves : goal.returns-clause-moves
returns-clause-moves g c =
    record {
      turn_below = c.child-child.ensures.turn_below;
      within = point_wider 64 (2 ^ 24) _ (lit≤ tt) c.child-child.ensures.small.within;
      in_order = c.child-child.ensures.small.in_order;
    }
