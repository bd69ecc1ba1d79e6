use Rattle.std.proofs.Common.{◌++◌, ap, ◌∙◌, arith}
use Rattle.list_verify.proofs.WrittenSoFar.{behind, one_more}
use Rattle.list_verify.proofs.as_written.is_text_of.Goals as goal

pub loop-place-preserved : goal.loop-place-preserved
loop-place-preserved c =
    let test = c.loop-place-test.true in
    let end = c.len-place-end.ensures in
    one_more c.loop-place.place c.args.tiles.now c.args.text.now c.loop-place.rest.now c.in-Some.behind.now
    c.tile.result c.loop-place.invariant (omega (arith, test, end)) c.tile.ensures c.put_line.ensures.four
    (behind c.loop-place.rest.now c.as_bytes.result.now c.in-Some.behind.now c.in-Some.ensures.cases.0 c.in-Some.ensures.cases.1
    ∙ ap (λ front. front ++ c.in-Some.behind.now) (c.as_bytes.ensures ∙ c.put_line.ensures.line))
