use Rattle.std.proofs.Common.{◌≡◌, ℤ, pos, ◌+ℤ◌, ◌+◌, ◌<◌, ◌^◌, length, [], map, drop, find, None, sym, ap, ◌∙◌, subst, lit≤, arith, w8, w32, to_z, of_z}
use Rattle.std.proofs.lemmas.Grind.{common_steps}
use Rattle.std.proofs.lemmas.Int.{ints}
use Rattle.cyclo_points.specs.Order.{points_of, is_refused}
use Rattle.cyclo_points.specs.Point.{point_in}
use Rattle.theory_plane.specs.Crossing.{crossing, count_from, count}
use Rattle.plane_geom.specs.Spots.{reals_of, spot_of, test_of}
use Rattle.theory_frames.specs.Outline.{holds_point}
use Rattle.cyclo_points.specs.declared.point.Point.{Point}
use Rattle.rule_model.specs.declared.rule.Rule.{Rule}
use Rattle.theory_plane.proofs.Rounds.{count-begun, count-next, count-ended}
use Rattle.cyclo_points.proofs.Within.{point_wider}
use Rattle.tile_place.specs.Motions.{IsMotionOf}
use Rattle.tile_place.specs.Refused.{IsRefusedFirst}
use Rattle.tile_place.proofs.Ahead.{none_left}
use Rattle.tile_place.proofs.Visits.{visits-refused}
use Rattle.tile_place.proofs.Corners.{corner_of, corner_spot, corner_refused, corner_passed, corner_there, holds-counted, of_outline, drop-none, vertices_few}
use Rattle.tile_place.proofs.machine.Machine.holds.Goals as goal

pub turn-turned-requires-clause-p_within : goal.turn-turned-requires-clause-p_within
turn-turned-requires-clause-p_within c = point_wider (2 ^ 24) (2 ^ 40) _ (lit≤ tt) c.requires.tile.scale_within

pub bounds-vertices-0 : goal.bounds-vertices-0
bounds-vertices-0 c =
    let few = vertices_few c.checked-checked.result.now c.args.self.now c.args.tile.now.kind _
    c.checked-checked.ensures.rule c.vertices-vertices.ensures.each_edge c.checked-checked.ensures.usable
    c.requires.tile.kind_exists in
    let least = few.0 in omega arith

pub corner-requires-clause-scale_within : goal.corner-requires-clause-scale_within
corner-requires-clause-scale_within c = c.turn-turned.ensures.at_most_doubled (2 ^ 24) c.requires.tile.scale_within

pub corner-requires-clause-vertex_within : goal.corner-requires-clause-vertex_within
corner-requires-clause-vertex_within c =
    let few = vertices_few c.checked-checked.result.now c.args.self.now c.args.tile.now.kind _
    c.checked-checked.ensures.rule c.vertices-vertices.ensures.each_edge c.checked-checked.ensures.usable
    c.requires.tile.kind_exists in
    let least = few.0 in (c.vertices-vertices.ensures.small 0 (record { c = [] }) (omega arith)).within

pub corner-requires-clause-moves : goal.corner-requires-clause-moves
corner-requires-clause-moves c =
    subst (λ q. IsMotionOf q (2 ^ 24) c.args.tile.now.at.now) (sym c.requires.its_order) c.requires.tile.moves

pub corner-requires-in-loop-i-clause-moves : goal.corner-requires-in-loop-i-clause-moves
corner-requires-in-loop-i-clause-moves c =
    subst (λ q. IsMotionOf q (2 ^ 24) c.args.tile.now.at.now) (sym c.requires.its_order) c.requires.tile.moves

pub returns-in_err-first-clause-visits : goal.returns-in_err-first-clause-visits
returns-in_err-first-clause-visits c =
    let o = c.args.order in
    let vs = c.vertices-vertices.result.now in
    let few = vertices_few c.checked-checked.result.now c.args.self.now c.args.tile.now.kind (length vs)
    c.checked-checked.ensures.rule c.vertices-vertices.ensures.each_edge c.checked-checked.ensures.usable
    c.requires.tile.kind_exists in
    let least = few.0 in
    visits-refused c.args.self.now.order _ c.from_residual.result c.in_err-first.field-0.0 c.from_residual.ensures.1
    (of_outline o c.checked-checked.result.now c.args.self.now vs c.args.tile.now.kind c.args.tile.now.scale.now c.args.tile.now.at.now
    (λ q xs. IsRefusedFirst q xs c.in_err-first.field-0.0)
    (c.requires.its_order ∙ ap (λ (r : Rule). r.order) (sym c.checked-checked.ensures.rule))
    c.checked-checked.ensures.rule c.vertices-vertices.ensures.numbers
    (record {
      first =
          ap (λ xs. find (is_refused o) (map (corner_of o c.args.tile.now.scale.now c.args.tile.now.at.now) xs)) (sym (drop-none vs))
          ∙ corner_refused o c.points_law.ensures c.args.tile.now.scale.now c.args.tile.now.at.now vs 0 (record { c = [] })
          (omega arith) c.turn-turned.result c.in_err-first.field-0.0.value
          c.turn-turned.ensures.turned c.in_err-first.ensures.place c.in_err-first.ensures.refused;
      in_order = c.in_err-first.ensures.limit_in_order;
    }))

pub loop-i-init : goal.loop-i-init
loop-i-init c =
    let o = c.args.order in
    let vs = c.vertices-vertices.result.now in
    let S = reals_of o in
    let t = test_of o c.args.point.now in
    let d : Point = record { c = [] } in
    let few = vertices_few c.checked-checked.result.now c.args.self.now c.args.tile.now.kind (length vs)
    c.checked-checked.ensures.rule c.vertices-vertices.ensures.each_edge c.checked-checked.ensures.usable
    c.requires.tile.kind_exists in
    let least = few.0 in
    let some : 0 < length vs = omega arith in
    let here = corner_there o c.points_law.ensures c.args.tile.now.scale.now c.args.tile.now.at.now vs 0 d some
    c.turn-turned.result c.in_ok-first.first c.turn-turned.ensures.turned c.in_ok-first.ensures.place in
    record {
      counted = subst (λ s. pos 0 +ℤ count_from S t s s
          (map (corner_spot o c.args.tile.now.scale.now c.args.tile.now.at.now) (drop 1 vs)) ≡ count S
          (map (corner_spot o c.args.tile.now.scale.now c.args.tile.now.at.now) vs) t) (sym here)
          (count-begun S t (corner_spot o c.args.tile.now.scale.now c.args.tile.now.at.now) d vs few.0);
      refused =
          corner_passed o c.points_law.ensures c.args.tile.now.scale.now c.args.tile.now.at.now vs 0 d some c.turn-turned.result
          c.in_ok-first.first c.turn-turned.ensures.turned c.in_ok-first.ensures.place
          c.in_ok-first.ensures.refused
          ∙ ap (λ xs. find (is_refused o) (map (corner_of o c.args.tile.now.scale.now c.args.tile.now.at.now) xs)) (drop-none vs);
      from_within = c.in_ok-first.ensures.within;
      height = c.is_above-begins_above.ensures;
      bounded = record { low = omega (arith, ints); high = omega (arith, ints) };
    }

pub corner-requires-in-loop-i-clause-scale_within : goal.corner-requires-in-loop-i-clause-scale_within
corner-requires-in-loop-i-clause-scale_within c = c.turn-turned.ensures.at_most_doubled (2 ^ 24) c.requires.tile.scale_within

pub corner-requires-in-loop-i-clause-vertex_within : goal.corner-requires-in-loop-i-clause-vertex_within
corner-requires-in-loop-i-clause-vertex_within c = (c.vertices-vertices.ensures.small c.loop-i.i (record { c = [] }) c.loop-i-test.true).within

pub returns-in_err-to-clause-visits : goal.returns-in_err-to-clause-visits
returns-in_err-to-clause-visits c =
    visits-refused c.args.self.now.order _ c.from_residual-in_err-to.result c.in_err-to.field-0.0 c.from_residual-in_err-to.ensures.1
    (of_outline c.args.order c.checked-checked.result.now c.args.self.now c.vertices-vertices.result.now c.args.tile.now.kind
    c.args.tile.now.scale.now c.args.tile.now.at.now
    (λ q xs. IsRefusedFirst q xs c.in_err-to.field-0.0)
    (c.requires.its_order ∙ ap (λ (r : Rule). r.order) (sym c.checked-checked.ensures.rule))
    c.checked-checked.ensures.rule c.vertices-vertices.ensures.numbers
    (record {
      first =
          sym c.loop-i.invariant.refused
          ∙ corner_refused c.args.order c.points_law.ensures c.args.tile.now.scale.now c.args.tile.now.at.now
          c.vertices-vertices.result.now c.loop-i.i (record { c = [] }) c.loop-i-test.true c.turn-turned.result
          c.in_err-to.field-0.0.value
          c.turn-turned.ensures.turned c.in_err-to.ensures.place c.in_err-to.ensures.refused;
      in_order = c.in_err-to.ensures.limit_in_order;
    }))

pub crossing_between-crossed-requires-clause-a_within : goal.crossing_between-crossed-requires-clause-a_within
crossing_between-crossed-requires-clause-a_within c = point_wider (2 ^ 24) (2 ^ 25) _ (lit≤ tt) c.loop-i.invariant.from_within

pub overflow_add-total : goal.overflow_add-total
overflow_add-total c =
    let few = vertices_few c.checked-checked.result.now c.args.self.now c.args.tile.now.kind _
    c.checked-checked.ensures.rule c.vertices-vertices.ensures.each_edge c.checked-checked.ensures.usable
    c.requires.tile.kind_exists in
    let n = few.1 in
    let h = c.loop-i-test.true in
    let a = c.loop-i.invariant.bounded.low in
    let b = c.loop-i.invariant.bounded.high in
    let u = c.crossing_between-crossed.ensures.at_most_one.low in
    let v = c.crossing_between-crossed.ensures.at_most_one.high in
    omega (arith, ints)

pub loop-i-preserved : goal.loop-i-preserved
loop-i-preserved c =
    let o = c.args.order in
    let vs = c.vertices-vertices.result.now in
    let S = reals_of o in
    let t = test_of o c.args.point.now in
    let d : Point = record { c = [] } in
    let few = vertices_few c.checked-checked.result.now c.args.self.now c.args.tile.now.kind (length vs)
    c.checked-checked.ensures.rule c.vertices-vertices.ensures.each_edge c.checked-checked.ensures.usable
    c.requires.tile.kind_exists in
    let n = few.1 in
    let h = c.loop-i-test.true in
    let a = c.loop-i.invariant.bounded.low in
    let b = c.loop-i.invariant.bounded.high in
    let u = c.crossing_between-crossed.ensures.at_most_one.low in
    let v = c.crossing_between-crossed.ensures.at_most_one.high in
    let total : ℤ = to_z w32 c.loop-i.total-bits in
    let crossed : ℤ = c.crossing_between-crossed.result in
    let next : ℤ = to_z w32 (of_z w32 (total +ℤ to_z w32 (of_z w32 (to_z w8 (of_z w8 crossed))))) in
    let sum : to_z w32 (of_z w32 (total +ℤ to_z w32 (of_z w32 (to_z w8 (of_z w8 crossed))))) ≡ total +ℤ crossed = omega (arith, ints) in
    let here = corner_there o c.points_law.ensures c.args.tile.now.scale.now c.args.tile.now.at.now vs c.loop-i.i d h
    c.turn-turned.result c.in_ok-to.to c.turn-turned.ensures.turned c.in_ok-to.ensures.place in
    let first = spot_of o c.in_ok-first.first in
    let from = spot_of o c.loop-i.from in
    record {
      counted = subst (λ s. to_z w32 (of_z w32 (to_z w32 c.loop-i.total-bits +ℤ to_z w32
          (of_z w32 (to_z w8 (of_z w8 c.crossing_between-crossed.result)))))
          +ℤ count_from S t (spot_of o c.in_ok-first.first) s
          (map (corner_spot o c.args.tile.now.scale.now c.args.tile.now.at.now) (drop (c.loop-i.i + 1) vs))
          ≡ count S (map (corner_spot o c.args.tile.now.scale.now c.args.tile.now.at.now) vs) t) (sym here)
          (count-next S t (corner_spot o c.args.tile.now.scale.now c.args.tile.now.at.now) d vs c.loop-i.i first from total _ crossed _ sum
          (c.crossing_between-crossed.ensures.value ∙ ap (λ s. crossing S (spot_of o c.loop-i.from) s t) here) h c.loop-i.invariant.counted);
      refused =
          corner_passed o c.points_law.ensures c.args.tile.now.scale.now c.args.tile.now.at.now vs c.loop-i.i d h
          c.turn-turned.result c.in_ok-to.to c.turn-turned.ensures.turned c.in_ok-to.ensures.place
          c.in_ok-to.ensures.refused
          ∙ c.loop-i.invariant.refused;
      from_within = c.in_ok-to.ensures.within;
      height = c.is_above-ends_above.ensures;
      bounded = record { low = omega (arith, ints); high = omega (arith, ints) };
    }

pub overflow_add-total-2 : goal.overflow_add-total-2
overflow_add-total-2 c =
    let few = vertices_few c.checked-checked.result.now c.args.self.now c.args.tile.now.kind _
    c.checked-checked.ensures.rule c.vertices-vertices.ensures.each_edge c.checked-checked.ensures.usable
    c.requires.tile.kind_exists in
    let n = few.1 in
    let h = c.loop-i.auto.i-end in
    let a = c.loop-i.invariant.bounded.low in
    let b = c.loop-i.invariant.bounded.high in
    let u = c.crossing_between-crossed-2.ensures.at_most_one.low in
    let v = c.crossing_between-crossed-2.ensures.at_most_one.high in
    omega (arith, ints)

pub returns-clause-holds : goal.returns-clause-holds
returns-clause-holds c =
    let o = c.args.order in
    let vs = c.vertices-vertices.result.now in
    let few = vertices_few c.checked-checked.result.now c.args.self.now c.args.tile.now.kind (length vs)
    c.checked-checked.ensures.rule c.vertices-vertices.ensures.each_edge c.checked-checked.ensures.usable
    c.requires.tile.kind_exists in
    let n = few.1 in
    let h = c.loop-i.auto.i-end in
    let a = c.loop-i.invariant.bounded.low in
    let b = c.loop-i.invariant.bounded.high in
    let u = c.crossing_between-crossed-2.ensures.at_most_one.low in
    let v = c.crossing_between-crossed-2.ensures.at_most_one.high in
    let total : ℤ = to_z w32 c.loop-i.total-bits in
    let crossed : ℤ = c.crossing_between-crossed-2.result in
    let sum : to_z w32 (of_z w32 (total +ℤ to_z w32 (of_z w32 (to_z w8 (of_z w8 crossed))))) ≡ total +ℤ crossed = omega (arith, ints) in
    of_outline o c.checked-checked.result.now c.args.self.now vs c.args.tile.now.kind c.args.tile.now.scale.now c.args.tile.now.at.now
    (λ q xs. c.is_once.result ≡ holds_point (points_of q) xs (point_in q c.args.point.now))
    (c.requires.its_order ∙ ap (λ (r : Rule). r.order) (sym c.checked-checked.ensures.rule))
    c.checked-checked.ensures.rule c.vertices-vertices.ensures.numbers
    (c.is_once.ensures ∙ holds-counted o c.args.tile.now.scale.now c.args.tile.now.at.now vs c.args.point.now _
    (count-ended (reals_of o) (test_of o c.args.point.now) (corner_spot o c.args.tile.now.scale.now c.args.tile.now.at.now)
    (record { c = [] }) vs c.loop-i.i (spot_of o c.in_ok-first.first) (spot_of o c.loop-i.from) total _ crossed _ sum
    c.crossing_between-crossed-2.ensures.value c.loop-i-test.false c.loop-i.invariant.counted))

pub returns-clause-visits : goal.returns-clause-visits
returns-clause-visits c =
    record {
      none_refused =
          of_outline c.args.order c.checked-checked.result.now c.args.self.now c.vertices-vertices.result.now c.args.tile.now.kind
          c.args.tile.now.scale.now c.args.tile.now.at.now
          (λ q xs. find (is_refused q) xs ≡ None) (c.requires.its_order
          ∙ ap (λ (r : Rule). r.order) (sym c.checked-checked.ensures.rule)) c.checked-checked.ensures.rule
          c.vertices-vertices.ensures.numbers
          (sym c.loop-i.invariant.refused ∙ none_left (is_refused c.args.order)
          (corner_of c.args.order c.args.tile.now.scale.now c.args.tile.now.at.now) c.vertices-vertices.result.now c.loop-i.i
          c.loop-i-test.false);
      limit = tt;
    }

pub returns-in_err-first-clause-holds : goal.returns-in_err-first-clause-holds
returns-in_err-first-clause-holds c = grind (arith, common_steps)

pub returns-in_err-to-clause-holds : goal.returns-in_err-to-clause-holds
returns-in_err-to-clause-holds c = grind arith

pub crossing_between-crossed-requires-clause-starts : goal.crossing_between-crossed-requires-clause-starts
crossing_between-crossed-requires-clause-starts c = grind arith

pub crossing_between-crossed-requires-clause-ends : goal.crossing_between-crossed-requires-clause-ends
crossing_between-crossed-requires-clause-ends c = grind arith

pub crossing_between-crossed-requires-2-clause-starts : goal.crossing_between-crossed-requires-2-clause-starts
crossing_between-crossed-requires-2-clause-starts c = grind arith

pub crossing_between-crossed-requires-2-clause-ends : goal.crossing_between-crossed-requires-2-clause-ends
crossing_between-crossed-requires-2-clause-ends c = grind arith
