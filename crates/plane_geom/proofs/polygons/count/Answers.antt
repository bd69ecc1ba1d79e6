use Rattle.std.proofs.Common.{◌≡◌, ◌^◌, ℤ, ◌+ℤ◌, arith, slice_index_or, w8, w32, to_z, of_z}
use Rattle.std.proofs.lemmas.Int.{ints}
use Rattle.std.proofs.lemmas.List.Elements.{All-get_or}
use Rattle.cyclo_points.specs.Point.{IsWithin}
use Rattle.plane_geom.specs.Spots.{reals_of}
use Rattle.plane_geom.specs.Spots.{spot_of, test_of}
use Rattle.plane_geom.proofs.Spots.{nowhere}
use Rattle.theory_plane.proofs.Rounds.{count-begun, count-next, count-ended}
use Rattle.plane_geom.proofs.polygons.count.Goals as goal

pub bounds-poly-0 : goal.bounds-poly-0
bounds-poly-0 c = let n = c.requires.at_least_three in omega arith

pub loop-i-init : goal.loop-i-init
unfolding nowhere
loop-i-init c = record {
  counted = count-begun (reals_of c.args.order) (test_of c.args.order c.args.p.now) (spot_of c.args.order)
      nowhere c.args.poly.now c.requires.at_least_three;
  from_within = All-get_or (IsWithin (2 ^ 25)) c.args.poly.now 0 nowhere
      (let n = c.requires.at_least_three in omega arith) c.requires.vertices_within;
  height = c.is_above-begins_above.ensures;
  bounded = record { low = omega (arith, ints); high = omega (arith, ints) };
}

pub offset_bounds-poly-i : goal.offset_bounds-poly-i
offset_bounds-poly-i c = let n = c.requires.at_most_24 in let h = c.loop-i-test.true in omega arith

pub bounds-poly-i : goal.bounds-poly-i
bounds-poly-i c = c.loop-i-test.true

pub crossing_between-crossed-requires-clause-a_within : goal.crossing_between-crossed-requires-clause-a_within
crossing_between-crossed-requires-clause-a_within c = c.loop-i.invariant.from_within

pub crossing_between-crossed-requires-clause-b_within : goal.crossing_between-crossed-requires-clause-b_within
crossing_between-crossed-requires-clause-b_within c = All-get_or (IsWithin (2 ^ 25)) c.args.poly.now
    c.loop-i.i _ c.loop-i-test.true c.requires.vertices_within

pub crossing_between-crossed-requires-clause-p_within : goal.crossing_between-crossed-requires-clause-p_within
crossing_between-crossed-requires-clause-p_within c = c.requires.p_within

pub overflow_cast-total : goal.overflow_cast-total
overflow_cast-total c =
    let u = c.crossing_between-crossed.ensures.at_most_one.low in
    let v = c.crossing_between-crossed.ensures.at_most_one.high in
    omega (arith, ints)

pub overflow_add-total : goal.overflow_add-total
overflow_add-total c =
    let n = c.requires.at_most_24 in
    let h = c.loop-i-test.true in
    let a = c.loop-i.invariant.bounded.low in
    let b = c.loop-i.invariant.bounded.high in
    let u = c.crossing_between-crossed.ensures.at_most_one.low in
    let v = c.crossing_between-crossed.ensures.at_most_one.high in
    omega (arith, ints)

pub loop-i-preserved : goal.loop-i-preserved
unfolding nowhere
loop-i-preserved c =
    let n = c.requires.at_most_24 in
    let h = c.loop-i-test.true in
    let a = c.loop-i.invariant.bounded.low in
    let b = c.loop-i.invariant.bounded.high in
    let u = c.crossing_between-crossed.ensures.at_most_one.low in
    let v = c.crossing_between-crossed.ensures.at_most_one.high in
    let total : ℤ = to_z w32 c.loop-i.total-bits in
    let crossed : ℤ = c.crossing_between-crossed.result in
    let sum : to_z w32 (of_z w32 (total +ℤ to_z w32 (of_z w32 (to_z w8 (of_z w8 crossed))))) ≡ total +ℤ crossed = omega (arith, ints) in
    record {
      counted = count-next (reals_of c.args.order) (test_of c.args.order c.args.p.now) (spot_of c.args.order) nowhere c.args.poly.now c.loop-i.i
          (spot_of c.args.order (slice_index_or c.args.poly.now 0 nowhere))
          (spot_of c.args.order c.loop-i.from) total _ crossed _ sum
          c.crossing_between-crossed.ensures.value h c.loop-i.invariant.counted;
      from_within = All-get_or (IsWithin (2 ^ 25)) c.args.poly.now c.loop-i.i nowhere h c.requires.vertices_within;
      height = c.is_above-ends_above.ensures;
      bounded = record { low = omega (arith, ints); high = omega (arith, ints) };
    }

pub crossing_between-crossed-requires-2-clause-a_within : goal.crossing_between-crossed-requires-2-clause-a_within
crossing_between-crossed-requires-2-clause-a_within c = c.loop-i.invariant.from_within

pub crossing_between-crossed-requires-2-clause-b_within : goal.crossing_between-crossed-requires-2-clause-b_within
crossing_between-crossed-requires-2-clause-b_within c =
    let n = c.requires.at_least_three in
    All-get_or (IsWithin (2 ^ 25)) c.args.poly.now 0 _ (omega arith) c.requires.vertices_within

pub crossing_between-crossed-requires-2-clause-p_within : goal.crossing_between-crossed-requires-2-clause-p_within
crossing_between-crossed-requires-2-clause-p_within c = c.requires.p_within

pub overflow_cast-result : goal.overflow_cast-result
overflow_cast-result c =
    let u = c.crossing_between-crossed-2.ensures.at_most_one.low in
    let v = c.crossing_between-crossed-2.ensures.at_most_one.high in
    omega (arith, ints)

pub overflow_add-result : goal.overflow_add-result
overflow_add-result c =
    let n = c.requires.at_most_24 in
    let h = c.loop-i.auto.i-end in
    let a = c.loop-i.invariant.bounded.low in
    let b = c.loop-i.invariant.bounded.high in
    let u = c.crossing_between-crossed-2.ensures.at_most_one.low in
    let v = c.crossing_between-crossed-2.ensures.at_most_one.high in
    omega (arith, ints)

pub returns : goal.returns
unfolding nowhere
returns c =
    let n = c.requires.at_most_24 in
    let least = c.requires.at_least_three in
    let h = c.loop-i.auto.i-end in
    let a = c.loop-i.invariant.bounded.low in
    let b = c.loop-i.invariant.bounded.high in
    let u = c.crossing_between-crossed-2.ensures.at_most_one.low in
    let v = c.crossing_between-crossed-2.ensures.at_most_one.high in
    let total : ℤ = to_z w32 c.loop-i.total-bits in
    let crossed : ℤ = c.crossing_between-crossed-2.result in
    let sum : to_z w32 (of_z w32 (total +ℤ to_z w32 (of_z w32 (to_z w8 (of_z w8 crossed))))) ≡ total +ℤ crossed = omega (arith, ints) in
    count-ended (reals_of c.args.order) (test_of c.args.order c.args.p.now) (spot_of c.args.order) nowhere c.args.poly.now c.loop-i.i
    (spot_of c.args.order (slice_index_or c.args.poly.now 0 nowhere)) (spot_of c.args.order c.loop-i.from)
    total _ crossed _ sum c.crossing_between-crossed-2.ensures.value c.loop-i-test.false
    c.loop-i.invariant.counted
