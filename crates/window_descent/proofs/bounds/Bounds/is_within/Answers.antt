use Rattle.std.proofs.Common.{arith}
use Rattle.std.proofs.lemmas.Int.{ints}
use Rattle.window_descent.proofs.bounds.Bounds.is_within.Goals as goal

pub returns-then-is_between : goal.returns-then-is_between
returns-then-is_between c = λ h.
    let right = c.is_between.ensures.below c.if-is_between.true in
    let left = c.is_between.ensures.above c.if-is_between.true in
    let upper = c.is_between-then-is_between.ensures.below h in
    let lower = c.is_between-then-is_between.ensures.above h in
    record {
      right = omega (arith, ints, right);
      left = omega (arith, ints, left);
      upper = omega (arith, ints, upper);
      lower = omega (arith, ints, lower);
    }
