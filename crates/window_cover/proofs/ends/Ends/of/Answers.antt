use Rattle.std.proofs.Common.{◌≡◌, rules, arith}
use Rattle.std.proofs.lemmas.Grind.{common_steps}
use Rattle.cyclo_points.specs.Point.{coefficient}
use Rattle.window_cover.specs.Packed.{word_of}
use Rattle.window_cover.proofs.SameEnds.{same_words}
use Rattle.window_cover.proofs.ends.Ends.of.Goals as goal

pub returns : goal.returns
returns c =
    let p = c.args.start.now in
    let q = c.args.end.now in
    let a : c.word.result ≡ word_of (coefficient p 0) (coefficient p 1) = search rules in
    let b : c.word-2.result ≡ word_of (coefficient p 2) (coefficient p 3) = search rules in
    let d : c.word-3.result ≡ word_of (coefficient q 0) (coefficient q 1) = search rules in
    let e : c.word-4.result ≡ word_of (coefficient q 2) (coefficient q 3) = search rules in
    same_words a b d e

pub word-requires-clause-a_within : goal.word-requires-clause-a_within
word-requires-clause-a_within c = grind (arith, common_steps)

pub word-requires-clause-b_within : goal.word-requires-clause-b_within
word-requires-clause-b_within c = grind (arith, common_steps)
