use Rattle.std.proofs.Common.{◌+◌, ◌<◌, length, drop, IfSome, ◌&&◌, sym, ap, ◌∙◌, subst, arith}
use Rattle.std.proofs.lemmas.Grind.{common_steps}
use Rattle.std.specs.Option.{option_map}
use Rattle.theory_substitution.specs.Motion.{still}
use Rattle.theory_substitution.specs.Rule.{Child, children_of}
use Rattle.theory_frames.specs.Outline.{outline, holds_point}
use Rattle.theory_frames.specs.Part.{Part, holder}
use Rattle.cyclo_points.specs.Order.{NumberOf, points_of, is_refused}
use Rattle.cyclo_points.specs.Point.{point_in}
use Rattle.cyclo_points.specs.Motion.{motion_in}
use Rattle.rule_model.specs.Views.{rule_of}
use Rattle.theory_addresses.specs.Search.{or_else}
use Rattle.tile_place.specs.Parts.{part_in, IsPart}
use Rattle.tile_place.proofs.Visits.{visits-refused}
use Rattle.tile_place.proofs.Holders.{sought-next, values-next, values-here, IfSome-or_else}
use Rattle.tile_place.proofs.machine.Machine.holder.Goals as goal

pub returns-in_err-seen-clause-visits : goal.returns-in_err-seen-clause-visits
returns-in_err-seen-clause-visits c =
    let m = c.args.self.now in
    let P = points_of m.order in
    visits-refused m.order _ c.from_residual.result c.in_err-seen.field-0.0 c.from_residual.ensures.1
    (record {
      first =
          sym c.loop-number.invariant.first
          ∙ values-here P (rule_of m) (point_in m.order c.args.whole.now.scale.now) (motion_in m.order c.args.whole.now.at.now)
          (point_in m.order c.args.point.now) (children_of (rule_of m) c.args.whole.now.kind) c.loop-number.number
          (record { kind = 0; motion = still P })
          (omega (arith, c.loop-number-test.true, c.loop-number.invariant.all)) (is_refused m.order) _
          c.in_err-seen.ensures.visits.limit.first;
      in_order = c.in_err-seen.ensures.visits.limit.in_order;
    })

pub loop-number-preserved : goal.loop-number-preserved
loop-number-preserved c =
    let m = c.args.self.now in
    let P = points_of m.order in
    let r = rule_of m in
    let scale = point_in m.order c.args.whole.now.scale.now in
    let at = motion_in m.order c.args.whole.now.at.now in
    let point = point_in m.order c.args.point.now in
    let cs = children_of r c.args.whole.now.kind in
    let n = c.loop-number.number in
    let none : Child (NumberOf m.order) = record { kind = 0; motion = still P } in
    let within : n < length cs = omega (arith, c.loop-number-test.true, c.loop-number.invariant.all) in
    let seen = c.in_ok-seen.seen in
    record {
      held =
          ap (λ x. or_else (option_map (part_in m.order) x) (holder P r scale at point (n + 1) (drop (n + 1) cs))) c.first_held-held.ensures
          ∙ sought-next P r scale at point cs n none within (part_in m.order) c.loop-number.held seen.part
          c.is_none.result seen.holds c.is_none.ensures c.in_ok-seen.ensures.part
          (c.in_ok-seen.ensures.holds ∙ ap (λ (p : Part (NumberOf m.order)). c.is_none.result
          && holds_point P (outline P r p.kind scale p.motion) point) c.in_ok-seen.ensures.part)
          ∙ c.loop-number.invariant.held;
      first = sym (values-next P r scale at point cs n none within (is_refused m.order)
          c.in_ok-seen.ensures.visits.none_refused) ∙ c.loop-number.invariant.first;
      is_part = subst (λ x. IfSome x (IsPart m)) (sym c.first_held-held.ensures)
          (IfSome-or_else (IsPart m) c.loop-number.held seen.holds seen.part c.loop-number.invariant.is_part
          c.in_ok-seen.ensures.is_part);
      all = c.loop-number.invariant.all;
    }

pub child_count-count-requires : goal.child_count-count-requires
child_count-count-requires c = grind (arith, common_steps)

pub overflow_cast-number : goal.overflow_cast-number
overflow_cast-number c = omega arith

pub returns-in_err-seen-clause-held : goal.returns-in_err-seen-clause-held
returns-in_err-seen-clause-held c = grind (arith, common_steps)

pub returns-in_err-seen-clause-is_part : goal.returns-in_err-seen-clause-is_part
returns-in_err-seen-clause-is_part c = grind (arith, common_steps)

pub returns-clause-held : goal.returns-clause-held
returns-clause-held c = grind (arith, common_steps)

pub returns-clause-visits : goal.returns-clause-visits
returns-clause-visits c = record { none_refused = grind (arith, common_steps); limit = tt }
