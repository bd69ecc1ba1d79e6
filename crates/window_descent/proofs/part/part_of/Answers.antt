use Rattle.std.proofs.Common.{◌≡◌, ◌<◌, ◌*◌, ◌^◌, length, sym, ap, ◌∙◌, subst, lit≤}
use Rattle.cyclo_points.specs.Order.{NumberOf, points_of}
use Rattle.cyclo_points.specs.Point.{IsOf}
use Rattle.cyclo_points.proofs.Within.{point_wider}
use Rattle.theory_frames.specs.Part as theory
use Rattle.rule_model.specs.declared.rule.Rule.{Rule}
use Rattle.rule_model.specs.Views.{rule_of}
use Rattle.tile_place.proofs.Parts.{part_is}
use Rattle.window_descent.proofs.part.part_of.Goals as goal

pub mul-requires-clause-p_within : goal.mul-requires-clause-p_within
mul-requires-clause-p_within c = point_wider (2 ^ 24) (2 ^ 32) _ (lit≤ tt) c.requires.scale_within

pub mul-requires-clause-q_within : goal.mul-requires-clause-q_within
mul-requires-clause-q_within c = point_wider 64 (2 ^ 16) _ (lit≤ tt) c.child-child.ensures.small.within

pub compose-motion-requires-clause-f_within : goal.compose-motion-requires-clause-f_within
compose-motion-requires-clause-f_within c = point_wider (2 ^ 24) (2 ^ 38) _ (lit≤ tt) c.requires.parent.within

pub compose-motion-requires-clause-g_within : goal.compose-motion-requires-clause-g_within
compose-motion-requires-clause-g_within c = point_wider (8 * 2 ^ 24 * 64) (2 ^ 38) _ (lit≤ tt)
    (c.mul.ensures.bounded (2 ^ 24) 64 c.requires.scale_within c.child-child.ensures.small.within)

pub returns : goal.returns
returns c =
    let m = c.args.machine.now in
    let o = c.order-order.result in
    let same : o ≡ m.order = c.order-order.ensures.order ∙ ap (λ (r : Rule). r.order) c.checked-checked.ensures.rule in
    let part = part_is o c.checked-checked.result.now m c.order-order.ensures.order
    c.checked-checked.ensures.rule c.child-child.result c.args.scale.now c.args.parent.now.motion c.mul.result
    c.compose-motion.result c.args.parent.now.kind c.args.number
    c.child-child.ensures.number c.mul.ensures.product c.compose-motion.ensures.followed_by in
    record {
      part = record {
        its_kind = ap (λ (p : theory.Part (NumberOf m.order)). p.kind) part;
        its_motion = ap (λ (p : theory.Part (NumberOf m.order)). p.motion) part;
        is_part = record {
          kind_exists = subst (λ (r : Rule). c.child-child.result.kind < length
              (rule_of r).kinds) c.checked-checked.ensures.rule c.child-child.ensures.kind_exists;
          turn_below = subst (λ q. c.compose-motion.result.turn < (points_of q).order) same c.compose-motion.ensures.turn_below;
          within = c.refused.ensures.within c.if-refused.false;
          in_order = subst (λ q. IsOf q c.compose-motion.result.shift) same
              (c.compose-motion.ensures.in_order (subst (λ q. IsOf q c.args.parent.now.motion.shift) (sym same) c.requires.parent.in_order));
        };
      };
    }
