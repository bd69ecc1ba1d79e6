use Rattle.std.proofs.Common.{◌≡◌, ◌&&◌, length, arith, ap₂, ◌∙◌, sym}
use Rattle.std.specs.Ordering.{int_eq}
use Rattle.std.specs.Cmp.Lexicographic.{pointwise}
use Rattle.std.specs.Cmp.Rules.{signed_items}
use Rattle.std.proofs.lemmas.Int.{ints}
use Rattle.cyclo_points.specs.Point.{coefficient}
use Rattle.cyclo_points.proofs.Readings.{machine}
use Rattle.cyclo_points.proofs.Coefficients.{one_by_one}
use Rattle.tile_place.proofs.SamePoint.{same_coefficients, same_number}
use Rattle.tile_place.proofs.compared.is_same.Goals as goal
use Rattle.tile_place.proofs.compared.is_same.Goals.{After-is_equal-4}

-- what the code returns
tested : (c : After-is_equal-4) → (c.is_equal.result && c.is_equal-2.result && c.is_equal-3.result
    && c.is_equal-4.result) ≡ pointwise int_eq c.args.p.now.c c.args.q.now.c
tested c =
    let p = c.args.p.now in
    let q = c.args.q.now in
    let l : length p.c ≡ 4 = omega arith in
    let m : length q.c ≡ 4 = omega arith in
    let p0 : machine (coefficient p 0) ≡ coefficient p 0 = omega (arith, ints) in
    let p1 : machine (coefficient p 1) ≡ coefficient p 1 = omega (arith, ints) in
    let p2 : machine (coefficient p 2) ≡ coefficient p 2 = omega (arith, ints) in
    let p3 : machine (coefficient p 3) ≡ coefficient p 3 = omega (arith, ints) in
    let q0 : machine (coefficient q 0) ≡ coefficient q 0 = omega (arith, ints) in
    let q1 : machine (coefficient q 1) ≡ coefficient q 1 = omega (arith, ints) in
    let q2 : machine (coefficient q 2) ≡ coefficient q 2 = omega (arith, ints) in
    let q3 : machine (coefficient q 3) ≡ coefficient q 3 = omega (arith, ints) in
    ap₂ (λ a b. a && b) (ap₂ (λ a b. a && b) (ap₂ (λ a b. a && b)
    (c.is_equal.ensures ∙ ap₂ int_eq p0 q0) (c.is_equal-2.ensures ∙ ap₂ int_eq p1 q1))
    (c.is_equal-3.ensures ∙ ap₂ int_eq p2 q2)) (c.is_equal-4.ensures ∙ ap₂ int_eq p3 q3)
    ∙ sym (one_by_one p q l m)

pub returns : goal.returns
returns c = λ o f g.
    let p = c.args.p.now in
    let q = c.args.q.now in
    let l : length p.c ≡ 4 = omega arith in
    let m : length q.c ≡ 4 = omega arith in (
      (λ t. same_number o p q ((signed_items p.c q.c).0 (sym (tested c) ∙ t))),
      (λ e. tested c ∙ (signed_items p.c q.c).1 (same_coefficients o p q l m f g e)),
    )
