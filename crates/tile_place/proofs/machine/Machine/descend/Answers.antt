use Rattle.std.proofs.Common.{◌≡◌, ◌+◌, ◌-◌, suc, length, map, get_or, None, Some, IfSome, [], refl, sym, ap, ◌∙◌, subst, arith}
use Rattle.std.proofs.lemmas.Grind.{common_steps}
use Rattle.std.specs.Option.{option_map}
use Rattle.std.proofs.lemmas.List.{length-map}
use Rattle.theory_ring.specs.Ring.{power}
use Rattle.theory_frames.specs.Part.{holder}
use Rattle.theory_frames.specs.Descent.{tile_below, of_whole}
use Rattle.theory_substitution.specs.Rule.{children_of}
use Rattle.cyclo_points.specs.Order.{points_of, is_refused}
use Rattle.cyclo_points.specs.Point.{point_in}
use Rattle.cyclo_points.specs.Motion.{motion_in}
use Rattle.rule_model.specs.Views.{rule_of}
use Rattle.tile_shape.specs.Views.{step_of}
use Rattle.tile_place.specs.Parts.{part_in, IsPart}
use Rattle.tile_place.proofs.FactorPowers.{powers-length, power-read}
use Rattle.tile_place.proofs.Below.{behind-behind, refused_here, values_on, tile_on, values_end, tile_none}
use Rattle.tile_place.proofs.machine.Machine.descend.Goals as goal

pub bounds-powers-level : goal.bounds-powers-level
bounds-powers-level c =
    let m = c.args.self.now in
    omega (
      arith,
      ap length c.requires.powers.in_order,
      powers-length (points_of m.order) (rule_of m).factor 0
          (c.args.whole.now.depth + 1),
      length-map c.args.powers.now (point_in m.order),
      c.loop-level.invariant.count,
      c.loop-level-test.true,
    )

pub holder-requires-clause-whole : goal.holder-requires-clause-whole
holder-requires-clause-whole c =
    let m = c.args.self.now in
    record {
      kind_exists = c.loop-level.invariant.kind_exists;
      scale_within = c.requires.powers.within (c.loop-level.level - 1) _
          (omega (
            arith,
            ap length c.requires.powers.in_order,
            powers-length (points_of m.order) (rule_of m).factor 0
                (c.args.whole.now.depth + 1),
            length-map c.args.powers.now (point_in m.order),
            c.loop-level.invariant.count,
            c.loop-level-test.true,
          ));
      moves = c.loop-level.invariant.moves;
    }

pub loop-level-preserved : goal.loop-level-preserved
loop-level-preserved c =
    let m = c.args.self.now in
    let P = points_of m.order in
    let r = rule_of m in
    let n = c.loop-level.level - 1 in
    let scale = point_in m.order (get_or c.args.powers.now n (record { c = [] })) in
    let down : c.loop-level.level ≡ suc n = omega (arith, c.loop-level-test.true) in
    let power_is : scale ≡ power P.ring r.factor n = power-read m.order r.factor (c.args.whole.now.depth + 1)
    c.args.powers.now n (record { c = [] }) c.requires.powers.in_order
    (omega (arith, c.loop-level.invariant.count, c.loop-level-test.true)) in
    let part = c.in-Ok-Some.part in
    let held : Some (part_in m.order part) ≡ holder P r scale (motion_in m.order c.loop-level.motion)
    (point_in m.order c.args.point.now) 0 (children_of r c.loop-level.top) =
    ap (option_map (part_in m.order)) (sym c.in-Ok-Some.field-0-is) ∙ c.in-Ok-Some.ensures.held in
    let is_part : IsPart m part = subst (λ x. IfSome x (IsPart m)) c.in-Ok-Some.field-0-is c.in-Ok-Some.ensures.is_part in
    let point = point_in m.order c.args.point.now in
    let at = motion_in m.order c.loop-level.motion in
    record {
      values = values_on P r (is_refused m.order) c.loop-level.top n c.loop-level.level at point scale down
          power_is (part_in m.order part) held c.in-Ok-Some.ensures.visits.none_refused
          ∙ c.loop-level.invariant.values;
      tile =
          ap (λ xs. option_map (of_whole (map step_of xs)) (tile_below P r part.kind n (motion_in m.order part.motion) point)) c.insert.ensures.items
          ∙ sym (behind-behind (map step_of c.loop-level.digits.items)
          (record { child = part.child; parent = c.loop-level.top })
          (tile_below P r part.kind n (motion_in m.order part.motion) point))
          ∙ ap (option_map (of_whole (map step_of c.loop-level.digits.items)))
          (tile_on P r (is_refused m.order) c.loop-level.top n c.loop-level.level at point scale down
          power_is (part_in m.order part) held)
          ∙ c.loop-level.invariant.tile;
      kind_exists = is_part.kind_exists;
      moves = is_part.moves;
      count = omega (arith, c.insert.ensures.len, c.loop-level.invariant.count, c.loop-level-test.true);
    }

pub returns-in-Ok-None-clause-fault : goal.returns-in-Ok-None-clause-fault
returns-in-Ok-None-clause-fault c =
    let m = c.args.self.now in
    let P = points_of m.order in
    let r = rule_of m in
    let n = c.loop-level.level - 1 in
    let scale = point_in m.order (get_or c.args.powers.now n (record { c = [] })) in
    let down : c.loop-level.level ≡ suc n = omega (arith, c.loop-level-test.true) in
    let power_is : scale ≡ power P.ring r.factor n = power-read m.order r.factor (c.args.whole.now.depth + 1)
    c.args.powers.now n (record { c = [] }) c.requires.powers.in_order
    (omega (arith, c.loop-level.invariant.count, c.loop-level-test.true)) in
    let point = point_in m.order c.args.point.now in
    let at = motion_in m.order c.loop-level.motion in
    let held : None ≡ holder P r scale at point 0 (children_of r c.loop-level.top) =
    ap (option_map (part_in m.order)) (sym c.in-Ok-None.field-0-is) ∙ c.in-Ok-None.ensures.held in (
      sym c.loop-level.invariant.values ∙ values_end P r (is_refused m.order) c.loop-level.top n
          c.loop-level.level at point scale down power_is held c.in-Ok-None.ensures.visits.none_refused,
      sym c.loop-level.invariant.tile ∙ ap (option_map (of_whole (map step_of c.loop-level.digits.items)))
          (tile_none P r (is_refused m.order) c.loop-level.top n c.loop-level.level at point scale down
          power_is held),
    )

pub returns-in-Err-clause-fault : goal.returns-in-Err-clause-fault
returns-in-Err-clause-fault c =
    let m = c.args.self.now in
    let P = points_of m.order in
    let r = rule_of m in
    let n = c.loop-level.level - 1 in
    let scale = point_in m.order (get_or c.args.powers.now n (record { c = [] })) in
    let down : c.loop-level.level ≡ suc n = omega (arith, c.loop-level-test.true) in
    let power_is : scale ≡ power P.ring r.factor n = power-read m.order r.factor (c.args.whole.now.depth + 1)
    c.args.powers.now n (record { c = [] }) c.requires.powers.in_order
    (omega (arith, c.loop-level.invariant.count, c.loop-level-test.true)) in
    let point = point_in m.order c.args.point.now in
    let at = motion_in m.order c.loop-level.motion in (
      sym c.loop-level.invariant.values ∙ refused_here P r (is_refused m.order) c.loop-level.top n
          c.loop-level.level at point scale down power_is _ (point_in m.order c.in-Err.limit.value) refl
          c.in-Err.ensures.visits.limit.first,
      c.in-Err.ensures.visits.limit.in_order,
    )

pub returns-clause-found : goal.returns-clause-found
returns-clause-found c = record {
  holder = grind (arith, common_steps);
  its_kind = refl;
  moves = c.loop-level.invariant.moves;
  none_refused = grind (arith, common_steps);
}
