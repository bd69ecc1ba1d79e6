use Rattle.std.specs.Int.{w64}
use Rattle.std.proofs.Common.{arith, ℤ, ◌≡◌, ◌^◌, pos, neg_ℤ, ◌+ℤ◌, ◌-ℤ◌, FitsSigned, to_z, of_z, ap₂, ◌∙◌}
use Rattle.std.proofs.lemmas.Int.{ints}
use Rattle.cyclo_points.specs.Point.{Within}
use Rattle.cyclo_points.specs.Real.{real_in}
use Rattle.window_descent.proofs.Limits.{limits-are}
use Rattle.window_descent.proofs.bounds.Bounds.limits.Goals as goal

less-fits : (x y : ℤ) → Within (2 ^ 60) x → Within (2 ^ 52) y → FitsSigned w64 (to_z w64 (of_z w64 x) -ℤ to_z w64 (of_z w64 y))
less-fits x y f g = omega (arith, ints)

negative-fits : (x : ℤ) → Within (2 ^ 60) x → FitsSigned w64 (pos 0 -ℤ to_z w64 (of_z w64 x))
negative-fits x f = omega (arith, ints)

both-fit : (x y : ℤ) → Within (2 ^ 60) x → Within (2 ^ 52) y
    → FitsSigned w64 (to_z w64 (of_z w64 (pos 0 -ℤ to_z w64 (of_z w64 x))) -ℤ to_z w64 (of_z w64 y))
both-fit x y f g = omega (arith, ints)

less-is : (x y : ℤ) → Within (2 ^ 60) x → Within (2 ^ 52) y
    → to_z w64 (of_z w64 (to_z w64 (of_z w64 x) -ℤ to_z w64 (of_z w64 y))) ≡ x +ℤ neg_ℤ y
less-is x y f g = omega (arith, ints)

both-is : (x y : ℤ) → Within (2 ^ 60) x → Within (2 ^ 52) y
    → to_z w64 (of_z w64 (to_z w64 (of_z w64 (pos 0 -ℤ to_z w64 (of_z w64 x))) -ℤ to_z w64 (of_z w64 y))) ≡ neg_ℤ x +ℤ neg_ℤ y
both-is x y f g = omega (arith, ints)

pub overflow_sub-result : goal.overflow_sub-result
overflow_sub-result c = less-fits c.extent_witness-wide.result c.in_ok-across.across c.extent_witness-wide.ensures.small c.in_ok-across.ensures.small

pub overflow_sub-result-2 : goal.overflow_sub-result-2
overflow_sub-result-2 c = negative-fits c.extent_witness-wide.result c.extent_witness-wide.ensures.small

pub overflow_sub-result-3 : goal.overflow_sub-result-3
overflow_sub-result-3 c = both-fit c.extent_witness-wide.result c.in_ok-across.across c.extent_witness-wide.ensures.small c.in_ok-across.ensures.small

pub overflow_sub-result-4 : goal.overflow_sub-result-4
overflow_sub-result-4 c = less-fits c.extent_witness-high.result c.in_ok-along.along c.extent_witness-high.ensures.small c.in_ok-along.ensures.small

pub overflow_sub-result-5 : goal.overflow_sub-result-5
overflow_sub-result-5 c = negative-fits c.extent_witness-high.result c.extent_witness-high.ensures.small

pub overflow_sub-result-6 : goal.overflow_sub-result-6
overflow_sub-result-6 c = both-fit c.extent_witness-high.result c.in_ok-along.along c.extent_witness-high.ensures.small c.in_ok-along.ensures.small

pub returns : goal.returns
returns c =
    let wide = c.extent_witness-wide.ensures in
    let high = c.extent_witness-high.ensures in
    let across = c.in_ok-across.ensures in
    let along = c.in_ok-along.ensures in
    let x = c.extent_witness-wide.result in
    let y = c.extent_witness-high.result in
    limits-are c.args.order c.args.window.now wide.fits high.fits c.args.shift.now (real_in c.args.order c.wide_of.result)
    (real_in c.args.order c.high_of.result) c.wide_of.ensures.value c.high_of.ensures.value across.short along.short _
    (less-is x c.in_ok-across.across wide.small across.small ∙ ap₂ (λ a b. a +ℤ neg_ℤ b) wide.value across.value)
    (both-is x c.in_ok-across.across wide.small across.small ∙ ap₂ (λ a b. neg_ℤ a +ℤ neg_ℤ b) wide.value across.value)
    (less-is y c.in_ok-along.along high.small along.small ∙ ap₂ (λ a b. a +ℤ neg_ℤ b) high.value along.value)
    (both-is y c.in_ok-along.along high.small along.small ∙ ap₂ (λ a b. neg_ℤ a +ℤ neg_ℤ b) high.value along.value)
