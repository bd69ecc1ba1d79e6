use Rattle.std.proofs.Common.{arith}
use Rattle.std.proofs.lemmas.Bool.{ltb-true}
use Rattle.layer_api.proofs.Words.{one_more, all_words}
use Rattle.layer_api.proofs.backwards.write_words.Goals as goal

pub loop-i-preserved : goal.loop-i-preserved
loop-i-preserved c = record {
  room = omega arith;
  written = one_more c.args.steps.now c.loop-i.i c.loop-i.joined c.raised_numbers_of-joined.result
      c.loop-i.out c.write_word.new.out (record { child = 0; parent = 0 }) c.loop-i-test.true
      c.raised_numbers_of-joined.ensures.child c.raised_numbers_of-joined.ensures.parent c.loop-i.invariant.written c.write_word.ensures.written;
}

pub returns-then-joined-lt8388608-clause-written : goal.returns-then-joined-lt8388608-clause-written
returns-then-joined-lt8388608-clause-written c = λ low.
    all_words c.args.steps.now c.loop-i.i c.loop-i.out c.requires.some c.loop-i-test.false c.loop-i.invariant.room
    (c.loop-i.invariant.written c.if-joined-lt8388608.true (ltb-true _ _ low))
