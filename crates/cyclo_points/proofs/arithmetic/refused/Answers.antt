use Rattle.std.proofs.Common.{◌≡◌, ◌↔◌, ◌||◌, ◌^◌, arith, ap, ap₂, sym, subst, ◌∙◌}
use Rattle.std.specs.Bool.{IsTrue}
use Rattle.std.proofs.lemmas.Int.{ints}
use Rattle.cyclo_points.specs.Point.{coefficient, IsWithin}
use Rattle.cyclo_points.proofs.Readings.{machine}
use Rattle.cyclo_points.proofs.Refusal.{beyond, some_beyond, within-some_beyond, some_beyond-decides, some_beyond-refused}
use Rattle.cyclo_points.proofs.arithmetic.refused.Goals as goal
use Rattle.cyclo_points.proofs.arithmetic.refused.Goals.{After-is_beyond-4}

-- what the code returns
tested : (c : After-is_beyond-4) → (c.is_beyond.result || c.is_beyond-2.result || c.is_beyond-3.result
    || c.is_beyond-4.result) ≡ some_beyond c.args.p.now
tested c =
    let p = c.args.p.now in
    let r0 : machine (coefficient p 0) ≡ coefficient p 0 = omega (arith, ints) in
    let r1 : machine (coefficient p 1) ≡ coefficient p 1 = omega (arith, ints) in
    let r2 : machine (coefficient p 2) ≡ coefficient p 2 = omega (arith, ints) in
    let r3 : machine (coefficient p 3) ≡ coefficient p 3 = omega (arith, ints) in
    ap₂ (λ a b. a || b) (ap₂ (λ a b. a || b) (ap₂ (λ a b. a || b)
    (c.is_beyond.ensures ∙ ap beyond r0) (c.is_beyond-2.ensures ∙ ap beyond r1))
    (c.is_beyond-3.ensures ∙ ap beyond r2)) (c.is_beyond-4.ensures ∙ ap beyond r3)

pub returns-clause-above : goal.returns-clause-above
returns-clause-above c =
    subst (λ b. IsTrue b ↔ (¬ IsWithin (2 ^ 24) c.args.p.now)) (sym (tested c)) (some_beyond-decides c.args.p.now)

pub returns-clause-within : goal.returns-clause-within
returns-clause-within c = λ e. within-some_beyond c.args.p.now (sym (tested c) ∙ e)

pub returns-clause-in_order : goal.returns-clause-in_order
returns-clause-in_order c = λ o h. tested c ∙ some_beyond-refused o c.args.p.now h
