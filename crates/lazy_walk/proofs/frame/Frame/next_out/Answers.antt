use Rattle.std.proofs.Common.{◌≡◌, ◌+◌, false, [], ◌∷◌, slice_get, Some, refl, sym, ap, ◌∙◌, arith}
use Rattle.theory_addresses.specs.Address.{Address}
use Rattle.cyclo_points.specs.Order.{NumberOf, points_of, is_refused}
use Rattle.cyclo_points.specs.Point.{point_in}
use Rattle.cyclo_points.specs.Motion.{motion_in}
use Rattle.theory_frames.specs.Contain.{ancestor_motion}
use Rattle.theory_ring.specs.Ring.{power}
use Rattle.rule_model.specs.Tiling.{tiling_of}
use Rattle.rule_model.specs.Views.{rule_of}
use Rattle.theory_substitution.specs.Motion.{Motion}
use Rattle.tile_place.proofs.Ahead.{handed_on}
use Rattle.tile_place.proofs.Parts.{first_is, first_not}
use Rattle.tile_shape.specs.Views.{step_of}
use Rattle.theory_walks.specs.Ancestors.{full}
use Rattle.theory_walks.proofs.Ancestors.{full-later, next-motion, next-power_is}
use Rattle.lazy_walk.proofs.frame.Frame.next_out.Goals as goal

pub returns-in_err-power-clause-limit : goal.returns-in_err-power-clause-limit
returns-in_err-power-clause-limit c =
    let m = c.args.machine.now in
    let P = points_of m.order in
    let r = rule_of m in
    let f = full (tiling_of m) c.args.self.now in
    let level = c.args.ancestor.now.level in
    let power_is : point_in m.order c.in_err-power.field-0.0.value ≡ power P.ring r.factor (level + 1) =
    next-power_is P r.factor (point_in m.order c.args.ancestor.now.power)
    (point_in m.order c.in_err-power.field-0.0.value) level c.in_err-power.ensures.limit
    c.requires.ancestor.power_is in
    handed_on c.from_residual.result c.in_err-power.field-0.0 _ c.from_residual.ensures.1
    (first_is (is_refused m.order) (power P.ring r.factor (level + 1))
    ((ancestor_motion P r f (level + 1)).shift ∷ [])
    (ap (is_refused m.order) (sym power_is) ∙ c.in_err-power.ensures.refused)
    ∙ ap (λ z. Some z) (sym power_is))

pub returns-then-refused-clause-limit : goal.returns-then-refused-clause-limit
returns-then-refused-clause-limit c =
    let m = c.args.machine.now in
    let P = points_of m.order in
    let r = rule_of m in
    let f = full (tiling_of m) c.args.self.now in
    let level = c.args.ancestor.now.level in
    let power_is : point_in m.order c.in_ok-power.power ≡ power P.ring r.factor (level + 1) =
    next-power_is P r.factor (point_in m.order c.args.ancestor.now.power)
    (point_in m.order c.in_ok-power.power) level c.in_ok-power.ensures.next
    c.requires.ancestor.power_is in
    let unrefused : is_refused m.order (power P.ring r.factor (level + 1)) ≡ false = ap (is_refused m.order)
    (sym power_is) ∙ c.in_ok-power.ensures.unrefused in
    let motion_is : motion_in m.order c.one_out-motion.result ≡ ancestor_motion P r f (level + 1) =
    c.one_out-motion.ensures.moved
    ∙ next-motion P r f level (step_of c.digit_of-digit.result) (point_in m.order c.args.ancestor.now.power)
    (motion_in m.order c.args.ancestor.now.motion)
    (ap (λ (a : Address). slice_get a.digits level)
    (sym (full-later (tiling_of m) c.args.self.now c.grow_to.new.self c.grow_to.ensures.frame))
    ∙ c.digit_of-digit.ensures.digit)
    c.requires.ancestor.power_is c.requires.ancestor.motion_is in
    let shift_is : point_in m.order c.one_out-motion.result.shift ≡ (ancestor_motion P r f (level + 1)).shift
    = ap (λ (g : Motion (NumberOf m.order)). g.shift) motion_is in
    first_not (is_refused m.order) (power P.ring r.factor (level + 1)) ((ancestor_motion P r f (level + 1)).shift ∷ []) unrefused
    ∙ first_is (is_refused m.order) (ancestor_motion P r f (level + 1)).shift []
    (ap (is_refused m.order) (sym shift_is) ∙ sym
    (c.refused.ensures.in_order m.order c.one_out-motion.ensures.in_order) ∙ c.if-refused.true)
    ∙ ap (λ z. Some z) (sym shift_is)

pub returns-clause-next : goal.returns-clause-next
returns-clause-next c =
    let m = c.args.machine.now in
    let P = points_of m.order in
    let r = rule_of m in
    let f = full (tiling_of m) c.args.self.now in
    let level = c.args.ancestor.now.level in
    let power_is : point_in m.order c.in_ok-power.power ≡ power P.ring r.factor (level + 1) =
    next-power_is P r.factor (point_in m.order c.args.ancestor.now.power)
    (point_in m.order c.in_ok-power.power) level c.in_ok-power.ensures.next
    c.requires.ancestor.power_is in
    let unrefused : is_refused m.order (power P.ring r.factor (level + 1)) ≡ false = ap (is_refused m.order)
    (sym power_is) ∙ c.in_ok-power.ensures.unrefused in
    let motion_is : motion_in m.order c.one_out-motion.result ≡ ancestor_motion P r f (level + 1) =
    c.one_out-motion.ensures.moved
    ∙ next-motion P r f level (step_of c.digit_of-digit.result) (point_in m.order c.args.ancestor.now.power)
    (motion_in m.order c.args.ancestor.now.motion)
    (ap (λ (a : Address). slice_get a.digits level)
    (sym (full-later (tiling_of m) c.args.self.now c.grow_to.new.self c.grow_to.ensures.frame))
    ∙ c.digit_of-digit.ensures.digit)
    c.requires.ancestor.power_is c.requires.ancestor.motion_is in
    let shift_is : point_in m.order c.one_out-motion.result.shift ≡ (ancestor_motion P r f (level + 1)).shift
    = ap (λ (g : Motion (NumberOf m.order)). g.shift) motion_is in
    record {
      one_more = refl;
      ancestor = record {
        at_most_64 = omega (arith, c.requires.more);
        power_is = power_is;
        motion_is = motion_is;
        power_within = c.in_ok-power.ensures.within;
        turn_below = c.one_out-motion.ensures.turn_below;
        shift_within = c.refused.ensures.within c.if-refused.false;
        in_order = c.one_out-motion.ensures.in_order;
      };
      grown = c.grow_to.ensures.depth;
      power_unrefused = unrefused;
      none_refused =
          first_not (is_refused m.order) (power P.ring r.factor (level + 1)) ((ancestor_motion P r f (level + 1)).shift ∷ []) unrefused
          ∙ first_not (is_refused m.order) (ancestor_motion P r f (level + 1)).shift []
          (ap (is_refused m.order) (sym shift_is) ∙ sym
          (c.refused.ensures.in_order m.order c.one_out-motion.ensures.in_order) ∙ c.if-refused.false);
    }
