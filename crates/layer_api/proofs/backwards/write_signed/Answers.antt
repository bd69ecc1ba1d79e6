use Rattle.std.proofs.Common.{◌≡◌, ◌++◌, ◌∙◌, ap, drop, unsigned_abs, to_z, of_z, w64, arith, rules}
use Rattle.std.proofs.lemmas.Int.{to_z-of_z}
use Rattle.std.specs.Fmt.{decimal}
use Rattle.layer_api.proofs.Figures.{sized, behind_sign}
use Rattle.layer_api.proofs.backwards.write_signed.Goals as goal

pub write_digits-start-requires : goal.write_digits-start-requires
write_digits-start-requires c = (omega (arith, sized c.unsigned_abs.result (omega arith)), c.requires.inside)

pub returns-then-number-ge0-clause-at_most : goal.returns-then-number-ge0-clause-at_most
returns-then-number-ge0-clause-at_most c = omega (arith, sized c.unsigned_abs.result (omega arith))

pub overflow_sub-buf : goal.overflow_sub-buf
overflow_sub-buf c = omega (arith, sized c.unsigned_abs.result (omega arith))

pub overflow_sub-result : goal.overflow_sub-result
overflow_sub-result c = omega (arith, sized c.unsigned_abs.result (omega arith))

pub returns-clause-written : goal.returns-clause-written
returns-clause-written c =
    let s = sized c.unsigned_abs.result (omega arith) in
    let w = c.write_digits-start in
    let own : to_z w64 (of_z w64 c.args.number) ≡ c.args.number = grind (arith, to_z-of_z) in
    behind_sign c.args.number w.result w.new.buf _ (search rules) (omega arith) (omega arith)
    (w.ensures.written ∙ ap (λ n. decimal n ++ drop c.args.end c.args.buf.now)
    (c.unsigned_abs.ensures.value ∙ ap unsigned_abs own))

pub returns-clause-at_most : goal.returns-clause-at_most
returns-clause-at_most c = omega (arith, sized c.unsigned_abs.result (omega arith))
