use Rattle.std.proofs.Common.{arith}
use Rattle.std.proofs.lemmas.Int.{ints}
use Rattle.window_descent.proofs.bounds.Bounds.with.Goals as goal

pub returns-clause-own : goal.returns-clause-own
returns-clause-own c = λ o v h.
    let right = h.right in
    let left = h.left in
    let upper = h.upper in
    let lower = h.lower in
    record {
      short_x = h.short_x;
      short_y = h.short_y;
      right = omega (arith, ints, right, c.max.ensures.self_bound, c.max.type_inv);
      left = omega (arith, ints, left, c.min.ensures.self_bound, c.min.type_inv);
      upper = omega (arith, ints, upper, c.max-2.ensures.self_bound, c.max-2.type_inv);
      lower = omega (arith, ints, lower, c.min-2.ensures.self_bound, c.min-2.type_inv);
    }

pub returns-clause-other : goal.returns-clause-other
returns-clause-other c = λ o v h.
    let right = h.right in
    let left = h.left in
    let upper = h.upper in
    let lower = h.lower in
    record {
      short_x = h.short_x;
      short_y = h.short_y;
      right = omega (arith, ints, right, c.max.ensures.other_bound, c.max.type_inv);
      left = omega (arith, ints, left, c.min.ensures.other_bound, c.min.type_inv);
      upper = omega (arith, ints, upper, c.max-2.ensures.other_bound, c.max-2.type_inv);
      lower = omega (arith, ints, lower, c.min-2.ensures.other_bound, c.min-2.type_inv);
    }
