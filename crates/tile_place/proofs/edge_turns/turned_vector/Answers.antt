use Rattle.std.proofs.Common.{◌≡◌, ◌^◌, ◌<◌, ◌∙◌, length, sym, ap, subst, arith, lit≤}
use Rattle.theory_substitution.specs.RuleParts.{edge_count, next}
use Rattle.cyclo_points.specs.Order.{PointsLaw, coefficients}
use Rattle.cyclo_points.proofs.Within.{point_wider}
use Rattle.rule_model.specs.Tiling.{tiling_of}
use Rattle.rule_model.specs.Views.{rule_of}
use Rattle.tile_place.specs.TurnedVertices.{IsTurned}
use Rattle.cyclo_points.proofs.Coefficients.{coefficients_of}
use Rattle.tile_place.proofs.TurnedPlaces.{vertex-there, end-below, vector-turned}
use Rattle.tile_place.proofs.edge_turns.turned_vector.Goals as goal
use Rattle.tile_place.proofs.edge_turns.turned_vector.Goals.{After-at-from}

pub at-to-requires : goal.at-to-requires
at-to-requires c =
    let m = c.args.checked.now in
    let k = c.args.edge.kind in
    let below = subst (λ e. e < edge_count (rule_of m) k) (sym c.requires.edge.ends)
    (end-below (edge_count (rule_of m) k) c.args.edge.start c.requires.edge.edge_exists) in
    record {
      exists = (vertex-there (tiling_of m) c.args.vertices.now c.requires.vertices k c.args.steps
          c.args.edge.end c.requires.edge.kind_exists c.requires.turn_below below).0;
    }

pub at-from-requires : goal.at-from-requires
at-from-requires c =
    record {
      exists = (vertex-there (tiling_of c.args.checked.now) c.args.vertices.now c.requires.vertices
          c.args.edge.kind c.args.steps c.args.edge.start c.requires.edge.kind_exists c.requires.turn_below
          c.requires.edge.edge_exists).0;
    }

end-turned : (c : After-at-from) → IsTurned (tiling_of c.args.checked.now) c.args.edge.kind c.args.steps
    (next (rule_of c.args.checked.now) c.args.edge.kind c.args.edge.start) c.at-to.result
end-turned c =
    let m = c.args.checked.now in
    let k = c.args.edge.kind in
    let below = subst (λ e. e < edge_count (rule_of m) k) (sym c.requires.edge.ends)
    (end-below (edge_count (rule_of m) k) c.args.edge.start c.requires.edge.edge_exists) in
    subst (λ e. IsTurned (tiling_of m) k c.args.steps e c.at-to.result) c.requires.edge.ends
    (subst (IsTurned (tiling_of m) k c.args.steps c.args.edge.end) (sym c.at-to.ensures)
    (vertex-there (tiling_of m) c.args.vertices.now c.requires.vertices k c.args.steps c.args.edge.end
    c.requires.edge.kind_exists c.requires.turn_below below).1)

start-turned : (c : After-at-from) → IsTurned (tiling_of c.args.checked.now) c.args.edge.kind c.args.steps c.args.edge.start c.at-from.result
start-turned c =
    let m = c.args.checked.now in
    subst (IsTurned (tiling_of m) c.args.edge.kind c.args.steps c.args.edge.start) (sym c.at-from.ensures)
    (vertex-there (tiling_of m) c.args.vertices.now c.requires.vertices c.args.edge.kind c.args.steps c.args.edge.start
    c.requires.edge.kind_exists c.requires.turn_below c.requires.edge.edge_exists).1

pub sub-requires-clause-p_within : goal.sub-requires-clause-p_within
sub-requires-clause-p_within c = point_wider (2 ^ 7) (2 ^ 40) _ (lit≤ tt) (end-turned (goal.at.sub-requires-clause-p_within c).After-at-from).within

pub sub-requires-clause-q_within : goal.sub-requires-clause-q_within
sub-requires-clause-q_within c = point_wider (2 ^ 7) (2 ^ 40) _ (lit≤ tt) (start-turned (goal.at.sub-requires-clause-q_within c).After-at-from).within

pub returns : goal.returns
returns c =
    let m = c.args.checked.now in
    let o = m.order in
    let end = end-turned (goal.at.returns c).After-at-from in
    let start = start-turned (goal.at.returns c).After-at-from in
    let d = c.sub.result in
    let four : length d.c ≡ 4 = omega arith in
    coefficients_of o d four (c.sub.ensures.in_order o end.in_order start.in_order)
    ∙ ap (coefficients o)
    (vector-turned m (subst PointsLaw c.order.ensures.order c.points_law.ensures) c.args.edge.kind c.args.steps
    c.args.edge.start c.at-to.result c.at-from.result d end start (c.sub.ensures.is_difference o))
