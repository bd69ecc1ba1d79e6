use Rattle.std.proofs.Common.{◌≡◌, suc, ◌+◌, ◌<◌, ◌≤◌, List, [], ◌∷◌, ◌++◌, length, take, sym, ap, ◌∙◌, subst, arith, take-suc, take_all}
use Rattle.std.proofs.lemmas.Option.{get_or_from_slice_get}
use Rattle.tile_place.specs.declared.placed_tile.PlacedTile.{PlacedTile}
use Rattle.window_cover.proofs.covered_tiles.CoveredTiles.listed.Goals as goal

pub loop-place-preserved : goal.loop-place-preserved
loop-place-preserved c =
    let tiles : List PlacedTile = c.args.self.now in
    let k = c.loop-place.place in
    let here = get_or_from_slice_get tiles k c.tile.result c.tile.result c.tile.ensures in
    let below : k < length tiles = subst (λ n. k < n) c.len-count.ensures c.loop-place-test.true in
    let next : suc k ≡ k + 1 = omega arith in
    let one : c.push.new.self.items ≡ take k tiles ++ c.tile.result ∷ [] = c.in_ok-push.ensures.items
    ∙ ap (λ (xs : List PlacedTile). xs ++ c.tile.result ∷ []) c.loop-place.invariant in
    let two : take k tiles ++ c.tile.result ∷ [] ≡ take (suc k) tiles = ap
    (λ (y : PlacedTile). take k tiles ++ y ∷ []) (sym here)
    ∙ sym (take-suc tiles k c.tile.result below) in
    one ∙ two ∙ ap (λ n. take n tiles) next

pub returns : goal.returns
returns c =
    let tiles : List PlacedTile = c.args.self.now in
    let all : length tiles ≤ c.loop-place.place = subst (λ n. n ≤ c.loop-place.place) c.len-count.ensures c.loop-place-test.false in
    c.loop-place.invariant ∙ take_all c.loop-place.place tiles all
