use Rattle.std.proofs.Common.{◌≡◌, ◌+◌, length, ◌∙◌, ap, take, ◌++◌, arith, append_assoc, sym}
use Rattle.std.proofs.lemmas.Slice.{take-put_mid}
use Rattle.layer_api.proofs.Words.{word_is}
use Rattle.layer_api.proofs.backwards.write_word.Goals as goal

pub returns-clause-written : goal.returns-clause-written
returns-clause-written c = λ small other.
    let four : length c.overwrite.new.out ≡ 4 = ap length (c.overwrite.ensures ∙ c.to_le_bytes.ensures) in
    take-put_mid c.args.place _ c.args.out.now c.overwrite.new.out (c.args.place + 4) (omega arith) (omega arith)
    ∙ ap (λ t. take c.args.place c.args.out.now ++ t)
    (c.overwrite.ensures ∙ c.to_le_bytes.ensures
    ∙ word_is c.args.step c.numbers_of-word.result c.numbers_of-word.ensures.numbers small other)
    ∙ sym (append_assoc (take c.args.place c.args.out.now) _ _)
