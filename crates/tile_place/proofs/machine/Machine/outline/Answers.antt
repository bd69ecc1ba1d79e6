use Rattle.std.proofs.Common.{◌≡◌, All, ◌+◌, ◌*◌, ◌^◌, ◌++◌, [], map, drop, get_or, find, None, Some, sym, ap, ◌∙◌, subst, lit≤, arith}
use Rattle.cyclo_points.specs.Order.{is_refused}
use Rattle.cyclo_points.specs.Point.{point_in, IsOf, IsWithin}
use Rattle.rule_model.specs.declared.rule.Rule.{Rule}
use Rattle.cyclo_points.proofs.Within.{point_wider}
use Rattle.tile_place.proofs.Ahead.{All-one_more, there, found_here, found_later, mapped_next, none_left, mapped_all}
use Rattle.tile_place.proofs.Corners.{corner_of, corner-is, of_outline}
use Rattle.tile_place.proofs.machine.Machine.outline.Goals as goal

pub mul-requires-clause-p_within : goal.mul-requires-clause-p_within
mul-requires-clause-p_within c = point_wider (2 * 2 ^ 24) (2 ^ 32) _ (lit≤ tt)
    (c.turn-turned.ensures.at_most_doubled (2 ^ 24) c.requires.scale_within)

pub mul-requires-clause-q_within : goal.mul-requires-clause-q_within
mul-requires-clause-q_within c = point_wider 64 (2 ^ 16) _ (lit≤ tt)
    (c.vertices-vertices.ensures.small c.loop-vertex.vertex-index (record { c = [] })
    c.loop-vertex-test.true).within

pub add-corner-requires-clause-p_within : goal.add-corner-requires-clause-p_within
add-corner-requires-clause-p_within c =
    point_wider (8 * (2 * 2 ^ 24) * 64) (2 ^ 40) _ (lit≤ tt)
    (c.mul.ensures.bounded (2 * 2 ^ 24) 64 (c.turn-turned.ensures.at_most_doubled (2 ^ 24) c.requires.scale_within)
    (c.vertices-vertices.ensures.small c.loop-vertex.vertex-index (record { c = [] }) c.loop-vertex-test.true).within)

pub add-corner-requires-clause-q_within : goal.add-corner-requires-clause-q_within
add-corner-requires-clause-q_within c = point_wider (2 ^ 24) (2 ^ 40) _ (lit≤ tt) c.requires.moves.within

pub turn-turned-requires-clause-p_within : goal.turn-turned-requires-clause-p_within
turn-turned-requires-clause-p_within c = point_wider (2 ^ 24) (2 ^ 40) _ (lit≤ tt) c.requires.scale_within

pub returns-then-refused-clause-limit : goal.returns-then-refused-clause-limit
returns-then-refused-clause-limit c =
    let o = c.order-order.result in
    let vs = c.vertices-vertices.result.now in
    let i = c.loop-vertex.vertex-index in
    let v = get_or vs i (record { c = [] }) in
    let same : o ≡ c.args.self.now.order = c.order-order.ensures.order ∙ ap (λ (r : Rule). r.order) c.checked-checked.ensures.rule in
    let corner : point_in o c.add-corner.result ≡ corner_of o c.args.scale.now c.args.at.now v =
    corner-is o c.points_law.ensures c.args.scale.now c.args.at.now v c.turn-turned.result c.mul.result
    c.add-corner.result c.turn-turned.ensures.turned c.mul.ensures.product (c.add-corner.ensures.sum o) in
    of_outline o c.checked-checked.result.now c.args.self.now vs c.args.kind c.args.scale.now c.args.at.now
    (λ q xs. find (is_refused q) xs ≡ Some (point_in q c.add-corner.result))
    c.order-order.ensures.order c.checked-checked.ensures.rule c.vertices-vertices.ensures.numbers
    (sym c.loop-vertex.invariant.first ∙ found_here (is_refused o)
    (corner_of o c.args.scale.now c.args.at.now) vs i v c.loop-vertex-test.true
    (there vs i _ c.loop-vertex-test.true)
    (ap (is_refused o) (sym corner) ∙ sym (c.refused.ensures.in_order o
    (c.add-corner.ensures.in_order o c.mul.ensures.in_order
    (subst (λ q. IsOf q c.args.at.now.shift) (sym same) c.requires.moves.in_order))) ∙ c.if-refused.true)
    ∙ ap (λ z. Some z) (sym corner))

pub loop-vertex-preserved : goal.loop-vertex-preserved
loop-vertex-preserved c =
    let o = c.order-order.result in
    let vs = c.vertices-vertices.result.now in
    let i = c.loop-vertex.vertex-index in
    let v = get_or vs i (record { c = [] }) in
    let same : o ≡ c.args.self.now.order = c.order-order.ensures.order ∙ ap (λ (r : Rule). r.order) c.checked-checked.ensures.rule in
    let corner : point_in o c.add-corner.result ≡ corner_of o c.args.scale.now c.args.at.now v =
    corner-is o c.points_law.ensures c.args.scale.now c.args.at.now v c.turn-turned.result c.mul.result
    c.add-corner.result c.turn-turned.ensures.turned c.mul.ensures.product (c.add-corner.ensures.sum o) in
    record {
      seen =
          ap (λ xs. map (point_in o) xs ++ map (corner_of o c.args.scale.now c.args.at.now) (drop (i + 1) vs)) c.push.ensures.items
          ∙ mapped_next (is_refused o) (corner_of o c.args.scale.now c.args.at.now) vs i v
          c.loop-vertex-test.true (there vs i _ c.loop-vertex-test.true) (point_in o)
          c.loop-vertex.corners.items c.add-corner.result corner
          ∙ c.loop-vertex.invariant.seen;
      first =
          sym (found_later (is_refused o) (corner_of o c.args.scale.now c.args.at.now) vs i v
          c.loop-vertex-test.true (there vs i _ c.loop-vertex-test.true)
          (ap (is_refused o) (sym corner) ∙ sym (c.refused.ensures.in_order o
          (c.add-corner.ensures.in_order o c.mul.ensures.in_order
          (subst (λ q. IsOf q c.args.at.now.shift) (sym same) c.requires.moves.in_order)))
          ∙ c.if-refused.false))
          ∙ c.loop-vertex.invariant.first;
      within = subst (λ xs. All (IsWithin (2 ^ 24)) xs) (sym c.push.ensures.items)
          (All-one_more (IsWithin (2 ^ 24)) c.loop-vertex.corners.items c.add-corner.result
          c.loop-vertex.invariant.within (c.refused.ensures.within c.if-refused.false));
      in_order = subst (λ xs. All (IsOf o) xs) (sym c.push.ensures.items)
          (All-one_more (IsOf o) c.loop-vertex.corners.items c.add-corner.result
          c.loop-vertex.invariant.in_order
          (c.add-corner.ensures.in_order o c.mul.ensures.in_order (subst (λ q. IsOf q c.args.at.now.shift) (sym same) c.requires.moves.in_order)));
      count = c.push.ensures.len ∙ ap (λ n. n + 1) c.loop-vertex.invariant.count;
    }

pub returns-clause-vertices : goal.returns-clause-vertices
returns-clause-vertices c =
    of_outline c.order-order.result c.checked-checked.result.now c.args.self.now
    c.vertices-vertices.result.now c.args.kind c.args.scale.now c.args.at.now
    (λ q xs. map (point_in q) c.loop-vertex.corners.items ≡ xs) c.order-order.ensures.order
    c.checked-checked.ensures.rule c.vertices-vertices.ensures.numbers
    (mapped_all (is_refused c.order-order.result)
    (corner_of c.order-order.result c.args.scale.now c.args.at.now) c.vertices-vertices.result.now
    c.loop-vertex.vertex-index c.loop-vertex-test.false
    (point_in c.order-order.result) c.loop-vertex.corners.items c.loop-vertex.invariant.seen)

pub returns-clause-none_refused : goal.returns-clause-none_refused
returns-clause-none_refused c =
    of_outline c.order-order.result c.checked-checked.result.now c.args.self.now
    c.vertices-vertices.result.now c.args.kind c.args.scale.now c.args.at.now
    (λ q xs. find (is_refused q) xs ≡ None) c.order-order.ensures.order c.checked-checked.ensures.rule c.vertices-vertices.ensures.numbers
    (sym c.loop-vertex.invariant.first ∙ none_left (is_refused c.order-order.result)
    (corner_of c.order-order.result c.args.scale.now c.args.at.now) c.vertices-vertices.result.now
    c.loop-vertex.vertex-index c.loop-vertex-test.false)

pub returns-then-refused-clause-limit_in_order : goal.returns-then-refused-clause-limit_in_order
returns-then-refused-clause-limit_in_order c =
    let same : c.order-order.result ≡ c.args.self.now.order = c.order-order.ensures.order
    ∙ ap (λ (r : Rule). r.order) c.checked-checked.ensures.rule in
    subst (λ q. IsOf q c.add-corner.result) same
    (c.add-corner.ensures.in_order c.order-order.result c.mul.ensures.in_order
    (subst (λ q. IsOf q c.args.at.now.shift) (sym same) c.requires.moves.in_order))

pub returns-clause-in_order : goal.returns-clause-in_order
returns-clause-in_order c =
    let same : c.order-order.result ≡ c.args.self.now.order = c.order-order.ensures.order
    ∙ ap (λ (r : Rule). r.order) c.checked-checked.ensures.rule in
    subst (λ q. All (IsOf q) c.loop-vertex.corners.items) same c.loop-vertex.invariant.in_order

pub loop-vertex-init : goal.loop-vertex-init
loop-vertex-init c = grind arith

pub push-requires : goal.push-requires
push-requires c = grind arith

pub returns-clause-at_least_3 : goal.returns-clause-at_least_3
returns-clause-at_least_3 c = grind arith
