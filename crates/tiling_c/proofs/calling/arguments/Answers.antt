use Rattle.std.proofs.Common.{lit<, ap, ◌∙◌, map}
use Rattle.std.proofs.lemmas.Iterator.Consumers.{map_from_collect}
use Rattle.std.proofs.lemmas.Iterator.Splits.{YieldsList-from_str_split}
use Rattle.std.proofs.lemmas.List.{take_all}
use Rattle.tiling_c.proofs.KnownResults.{at_ok}
use Rattle.tiling_c.proofs.calling.arguments.Goals as goal

pub returns : goal.returns
returns c =
    let parts = map_from_collect _ c.collect.ensures.ran (YieldsList-from_str_split 10 c.args.text.now (lit< tt)
    c.split.ensures.text c.split.ensures.has_more c.split.ensures.pattern) in
    c.loop-piece.invariant
    ∙ ap (map (λ x. x.now)) (take_all c.loop-piece.piece-index c.deref-piece-items.result.now c.loop-piece-test.false
    ∙ c.deref-piece-items.ensures.value) ∙ at_ok _ c.collect.result c.in_ok-pieces.pieces c.in_ok-pieces.was parts
