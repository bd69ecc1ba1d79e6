use Rattle.std.proofs.Common.{◌≡◌, ◌^◌, [], find, None, sym, ap, ◌∙◌, subst, lit≤, arith}
use Rattle.cyclo_points.specs.Order.{is_refused}
use Rattle.rule_model.specs.declared.rule.Rule.{Rule}
use Rattle.cyclo_points.proofs.Within.{point_wider}
use Rattle.tile_place.specs.Motions.{IsMotionOf}
use Rattle.tile_place.specs.Refused.{IsRefusedFirst}
use Rattle.tile_place.proofs.Ahead.{none_left}
use Rattle.tile_place.proofs.Visits.{visits-refused}
use Rattle.tile_place.proofs.Corners.{corner_of, corner_refused, corner_passed, of_outline}
use Rattle.tile_place.proofs.machine.Machine.look_round.Goals as goal

pub turn-turned-requires-clause-p_within : goal.turn-turned-requires-clause-p_within
turn-turned-requires-clause-p_within c = point_wider (2 ^ 24) (2 ^ 40) _ (lit≤ tt) c.requires.tile.scale_within

pub corner-requires-clause-scale_within : goal.corner-requires-clause-scale_within
corner-requires-clause-scale_within c = c.turn-turned.ensures.at_most_doubled (2 ^ 24) c.requires.tile.scale_within

pub corner-requires-clause-vertex_within : goal.corner-requires-clause-vertex_within
corner-requires-clause-vertex_within c = (c.vertices-vertices.ensures.small c.loop-i.i (record { c = [] }) c.loop-i-test.true).within

pub corner-requires-clause-moves : goal.corner-requires-clause-moves
corner-requires-clause-moves c =
    subst (λ q. IsMotionOf q (2 ^ 24) c.args.tile.now.at.now) (sym c.requires.its_order) c.requires.tile.moves

pub loop-i-preserved : goal.loop-i-preserved
loop-i-preserved c =
    record {
      refused =
          corner_passed c.args.order c.points_law.ensures c.args.tile.now.scale.now c.args.tile.now.at.now
          c.vertices-vertices.result.now c.loop-i.i (record { c = [] }) c.loop-i-test.true
          c.turn-turned.result c.in_ok-corner.field-0
          c.turn-turned.ensures.turned c.in_ok-corner.ensures.place c.in_ok-corner.ensures.refused
          ∙ c.loop-i.invariant.refused;
    }

pub returns-in_err-corner-clause-visits : goal.returns-in_err-corner-clause-visits
returns-in_err-corner-clause-visits c =
    visits-refused c.args.self.now.order _ c.from_residual.result c.in_err-corner.field-0.0 c.from_residual.ensures.1
    (of_outline c.args.order c.checked-checked.result.now c.args.self.now c.vertices-vertices.result.now c.args.tile.now.kind
    c.args.tile.now.scale.now c.args.tile.now.at.now (λ q xs. IsRefusedFirst q xs c.in_err-corner.field-0.0)
    (c.requires.its_order ∙ ap (λ (r : Rule). r.order) (sym c.checked-checked.ensures.rule))
    c.checked-checked.ensures.rule c.vertices-vertices.ensures.numbers
    (record {
      first =
          sym c.loop-i.invariant.refused
          ∙ corner_refused c.args.order c.points_law.ensures c.args.tile.now.scale.now c.args.tile.now.at.now
          c.vertices-vertices.result.now c.loop-i.i (record { c = [] }) c.loop-i-test.true c.turn-turned.result
          c.in_err-corner.field-0.0.value
          c.turn-turned.ensures.turned c.in_err-corner.ensures.place c.in_err-corner.ensures.refused;
      in_order = c.in_err-corner.ensures.limit_in_order;
    }))

pub returns-clause-visits : goal.returns-clause-visits
returns-clause-visits c =
    record {
      none_refused =
          of_outline c.args.order c.checked-checked.result.now c.args.self.now c.vertices-vertices.result.now c.args.tile.now.kind
          c.args.tile.now.scale.now c.args.tile.now.at.now
          (λ q xs. find (is_refused q) xs ≡ None) (c.requires.its_order
          ∙ ap (λ (r : Rule). r.order) (sym c.checked-checked.ensures.rule)) c.checked-checked.ensures.rule
          c.vertices-vertices.ensures.numbers
          (sym c.loop-i.invariant.refused ∙ none_left (is_refused c.args.order)
          (corner_of c.args.order c.args.tile.now.scale.now c.args.tile.now.at.now) c.vertices-vertices.result.now c.loop-i.i
          c.loop-i-test.false);
      limit = tt;
    }

pub loop-i-init : goal.loop-i-init
loop-i-init c = grind arith

pub returns-in_err-corner-clause-is_false : goal.returns-in_err-corner-clause-is_false
returns-in_err-corner-clause-is_false c = grind arith
