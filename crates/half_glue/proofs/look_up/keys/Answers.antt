use Rattle.std.proofs.Common.{List, [], ◌∷◌, ◌++◌, take, sym, ap, ◌∙◌, arith, add-one}
use Rattle.std.proofs.lemmas.Grind.{common_steps}
use Rattle.tile_place.specs.declared.order_key.OrderKey.{OrderKey}
use Rattle.tile_place.specs.declared.placed_tile.PlacedTile.{PlacedTile}
use Rattle.half_glue.specs.Keys.{own_keys}
use Rattle.half_glue.proofs.Keyed.{keys-more}
use Rattle.half_glue.proofs.look_up.keys.Goals as goal

pub loop-number-preserved : goal.loop-number-preserved
loop-number-preserved c =
    let tiles : List PlacedTile = c.args.tiles.now in
    let k = c.loop-number.number in
    let x = c.index-tiles-number.result in
    c.in_ok-push.ensures.items ∙ ap (λ (ks : List OrderKey). ks ++ c.of.result ∷ []) c.loop-number.invariant
    ∙ ap (λ (key : OrderKey). own_keys (take k tiles) ++ key ∷ []) c.of.ensures
    ∙ sym (keys-more (λ (y : PlacedTile). y) 0 k k tiles x (omega arith) c.loop-number-test.true
    c.index-tiles-number.is) ∙ ap (λ n. own_keys (take n tiles)) (sym (add-one k))

pub returns : goal.returns
returns c = grind (arith, common_steps)
