use Rattle.std.proofs.Common.{◌≡◌, ◌+◌, true, false, find, get_or, [], refl, sym, ap, ◌∙◌, arith}
use Rattle.theory_ring.specs.Ring.{power}
use Rattle.theory_frames.specs.Outline.{outline, holds_point}
use Rattle.cyclo_points.specs.Order.{points_of, is_refused}
use Rattle.cyclo_points.specs.Point.{point_in}
use Rattle.cyclo_points.specs.Motion.{motion_in}
use Rattle.rule_model.specs.declared.rule.Rule.{Rule}
use Rattle.rule_model.specs.Views.{rule_of}
use Rattle.tile_place.specs.Searched.{values_of_search, holder_of_search, values_under, holder_under}
use Rattle.tile_place.proofs.FactorPowers.{power-read}
use Rattle.tile_place.proofs.Parts.{holds_is}
use Rattle.tile_place.proofs.Below.{power_refused, vertex_refused, past_outline, tile_same, same_found, same_fault}
use Rattle.tile_place.proofs.machine.Machine.search.Goals.{After-descend}
use Rattle.tile_place.proofs.machine.Machine.search.Goals as goal

pub returns-in-Err-clause-fault : goal.returns-in-Err-clause-fault
returns-in-Err-clause-fault c =
    let m = c.args.self.now in (
      power_refused (points_of m.order) (rule_of m) (is_refused m.order) c.args.whole.now.kind c.args.whole.now.depth
          (motion_in m.order c.args.whole.now.at.now) (point_in m.order c.args.point.now) _ refl
          (point_in m.order c.in-Err.limit.value) c.in-Err.ensures.limit,
      c.in-Err.ensures.limit_in_order,
    )

pub returns-in-Err-outline-clause-fault : goal.returns-in-Err-outline-clause-fault
returns-in-Err-outline-clause-fault c =
    let m = c.args.self.now in
    let P = points_of m.order in
    let r = rule_of m in
    let at = motion_in m.order c.args.whole.now.at.now in
    let point = point_in m.order c.args.point.now in
    let scale = point_in m.order (get_or c.deref.result.now c.args.whole.now.depth (record { c = [] })) in
    let power_is : scale ≡ power P.ring r.factor c.args.whole.now.depth =
    ap (λ ps. point_in m.order (get_or ps c.args.whole.now.depth (record { c = [] }))) c.deref.ensures.0
    ∙ power-read m.order r.factor (c.args.whole.now.depth + 1) c.in-Ok.powers.items c.args.whole.now.depth
    (record { c = [] }) c.in-Ok.ensures.powers (omega arith) in (
      vertex_refused P r (is_refused m.order) c.args.whole.now.kind c.args.whole.now.depth at point scale power_is
          (point_in m.order c.in-Err-outline.limit.value) c.in-Ok.ensures.none_refused
          c.in-Err-outline.ensures.limit,
      c.in-Err-outline.ensures.limit_in_order,
    )

pub returns-then-not-member-clause-fault : goal.returns-then-not-member-clause-fault
returns-then-not-member-clause-fault c =
    let m = c.args.self.now in
    let P = points_of m.order in
    let r = rule_of m in
    let at = motion_in m.order c.args.whole.now.at.now in
    let point = point_in m.order c.args.point.now in
    let scale = point_in m.order (get_or c.deref.result.now c.args.whole.now.depth (record { c = [] })) in
    let power_is : scale ≡ power P.ring r.factor c.args.whole.now.depth =
    ap (λ ps. point_in m.order (get_or ps c.args.whole.now.depth (record { c = [] }))) c.deref.ensures.0
    ∙ power-read m.order r.factor (c.args.whole.now.depth + 1) c.in-Ok.powers.items c.args.whole.now.depth
    (record { c = [] }) c.in-Ok.ensures.powers (omega arith) in
    let held : c.member.result ≡ holds_point P (outline P r c.args.whole.now.kind scale at) point =
    holds_is c.order-order.result m.order (c.order-order.ensures.order
    ∙ ap (λ (q : Rule). q.order) c.checked.ensures.rule) c.in-Ok-outline.corners.items
    c.as_slice.result.now _ c.args.point.now c.member.result
    c.as_slice.ensures.value c.in-Ok-outline.ensures.vertices c.member.ensures in
    let outside : false ≡ holds_point P (outline P r c.args.whole.now.kind scale at) point = sym c.if-not-member.true ∙ held in (
      past_outline P r (is_refused m.order) c.args.whole.now.kind c.args.whole.now.depth at point scale power_is false outside
          c.in-Ok.ensures.none_refused c.in-Ok-outline.ensures.none_refused,
      tile_same P r (is_refused m.order) c.args.whole.now.kind c.args.whole.now.depth at point scale power_is false outside,
    )

-- ---- the supertile holds the point
at_depth : (c : After-descend) → point_in c.args.self.now.order (get_or c.deref.result.now c.args.whole.now.depth (record { c = [] }))
    ≡ power (points_of c.args.self.now.order).ring (rule_of c.args.self.now).factor c.args.whole.now.depth
at_depth c =
    ap (λ ps. point_in c.args.self.now.order (get_or ps c.args.whole.now.depth (record { c = [] }))) c.deref.ensures.0
    ∙ power-read c.args.self.now.order (rule_of c.args.self.now).factor (c.args.whole.now.depth + 1) c.in-Ok.powers.items c.args.whole.now.depth
    (record { c = [] }) c.in-Ok.ensures.powers (omega arith)

inside : (c : After-descend) → true ≡ holds_point (points_of c.args.self.now.order)
    (outline (points_of c.args.self.now.order) (rule_of c.args.self.now) c.args.whole.now.kind
    (point_in c.args.self.now.order (get_or c.deref.result.now c.args.whole.now.depth (record { c = [] })))
    (motion_in c.args.self.now.order c.args.whole.now.at.now)) (point_in c.args.self.now.order c.args.point.now)
inside c = sym c.if-not-member.false
    ∙ holds_is c.order-order.result c.args.self.now.order (c.order-order.ensures.order
    ∙ ap (λ (q : Rule). q.order) c.checked.ensures.rule) c.in-Ok-outline.corners.items
    c.as_slice.result.now _ c.args.point.now c.member.result
    c.as_slice.ensures.value c.in-Ok-outline.ensures.vertices c.member.ensures

values : (c : After-descend) → find (is_refused c.args.self.now.order) (values_of_search c.args.self.now c.args.whole.now c.args.point.now)
    ≡ find (is_refused c.args.self.now.order) (values_under c.args.self.now c.args.whole.now c.args.point.now)
values c = past_outline (points_of c.args.self.now.order) (rule_of c.args.self.now) (is_refused c.args.self.now.order)
    c.args.whole.now.kind c.args.whole.now.depth _ _ _ (at_depth c) true (inside c) c.in-Ok.ensures.none_refused c.in-Ok-outline.ensures.none_refused

tile : (c : After-descend) → holder_of_search c.args.self.now c.args.whole.now c.args.point.now
    ≡ holder_under c.args.self.now c.args.whole.now c.args.point.now
tile c = tile_same (points_of c.args.self.now.order) (rule_of c.args.self.now) (is_refused c.args.self.now.order)
    c.args.whole.now.kind c.args.whole.now.depth _ _ _ (at_depth c) true (inside c)

pub returns-clause-found : goal.returns-clause-found
returns-clause-found c =
    same_found c.args.self.now.order c.descend.result
    (values_of_search c.args.self.now c.args.whole.now c.args.point.now) (values_under c.args.self.now c.args.whole.now c.args.point.now)
    (holder_of_search c.args.self.now c.args.whole.now c.args.point.now) (holder_under c.args.self.now c.args.whole.now c.args.point.now)
    (values c) (tile c) c.descend.ensures.found

pub returns-clause-fault : goal.returns-clause-fault
returns-clause-fault c =
    same_fault c.args.self.now.order c.descend.result
    (values_of_search c.args.self.now c.args.whole.now c.args.point.now) (values_under c.args.self.now c.args.whole.now c.args.point.now)
    (holder_of_search c.args.self.now c.args.whole.now c.args.point.now) (holder_under c.args.self.now c.args.whole.now c.args.point.now)
    (values c) (tile c) c.descend.ensures.fault
