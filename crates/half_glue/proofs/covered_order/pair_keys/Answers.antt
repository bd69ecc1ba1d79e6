use Rattle.std.proofs.Common.{List, [], ◌∷◌, ◌++◌, take, get_or, sym, ap, ◌∙◌, arith, add-one}
use Rattle.std.proofs.lemmas.Grind.{common_steps}
use Rattle.std.proofs.lemmas.List.{get_or_default}
use Rattle.tile_place.specs.declared.order_key.OrderKey.{OrderKey}
use Rattle.tile_place.specs.declared.placed_tile.PlacedTile.{PlacedTile}
use Rattle.half_glue.specs.declared.pairs.Pair.{Pair}
use Rattle.half_glue.specs.declared.whole_tile.WholeTile.{WholeTile}
use Rattle.half_glue.specs.NumberedTiles.{tiles_in}
use Rattle.half_glue.specs.Keys.{first_keys, no_pair}
use Rattle.half_glue.specs.Lifted.{wholes_of}
use Rattle.half_glue.proofs.Firsts.{first-more}
use Rattle.half_glue.proofs.covered_order.pair_keys.Goals as goal

pub loop-number-preserved : goal.loop-number-preserved
loop-number-preserved c = λ f.
    let all : List PlacedTile = tiles_in c.args.halves.now in
    let pairs : List Pair = c.args.pairs.now in
    let wholes : List WholeTile = wholes_of f all pairs in
    let k = c.loop-number.number in
    let p : Pair = get_or pairs k no_pair in
    c.in_ok-push.ensures.items ∙ ap (λ (ks : List OrderKey). ks ++ c.key.result ∷ []) (c.loop-number.invariant f)
    ∙ ap (λ (key : OrderKey). first_keys (take k wholes) ++ key ∷ []) c.key.ensures
    ∙ sym (first-more f all pairs k p c.loop-number-test.true (get_or_default pairs k no_pair p c.loop-number-test.true))
    ∙ ap (λ n. first_keys (take n wholes)) (sym (add-one k))

pub returns-in_err-push : goal.returns-in_err-push
returns-in_err-push c = grind (arith, common_steps)
