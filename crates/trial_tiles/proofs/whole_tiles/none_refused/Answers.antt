use Rattle.std.proofs.Common.{◌≡◌, ◌+◌, ◌^◌, List, [], ◌∷◌, ◌++◌, All, take, sym, ap, ◌∙◌, subst, take-suc, take_all, add-one}
use Rattle.std.proofs.lemmas.List.Elements.{All-push}
use Rattle.cyclo_points.specs.Point.{IsWithin}
use Rattle.tile_place.specs.declared.placed_tile.PlacedTile.{PlacedTile}
use Rattle.trial_tiles.proofs.whole_tiles.none_refused.Goals as goal

pub loop-number-preserved : goal.loop-number-preserved
loop-number-preserved c =
    let tiles : List PlacedTile = c.args.tiles.now in
    let i = c.loop-number.number in
    let x = c.index-tiles-number.result in
    let more : take (i + 1) tiles ≡ take i tiles ++ x ∷ [] = ap (λ n. take n tiles) (add-one i)
    ∙ take-suc tiles i x c.loop-number-test.true
    ∙ ap (λ (y : PlacedTile). take i tiles ++ y ∷ []) (sym c.index-tiles-number.is) in
    subst (All (λ x. IsWithin (2 ^ 24) x.motion.shift)) (sym more)
    (All-push (λ x. IsWithin (2 ^ 24) x.motion.shift) (take i tiles) x c.loop-number.invariant
    (c.refused.ensures.within c.if-refused.false))

pub returns : goal.returns
returns c = λ e. subst (All (λ x. IsWithin (2 ^ 24) x.motion.shift))
    (take_all c.loop-number.number c.args.tiles.now c.loop-number-test.false) c.loop-number.invariant
