use Rattle.std.proofs.Common.{◌≡◌, ◌+◌, ◌<◌, ◌≤◌, List, All, [], ◌∷◌, ◌++◌, length, take, sym, ap, ◌∙◌, subst, arith, take_all}
use Rattle.std.proofs.lemmas.List.{take_more}
use Rattle.tile_place.specs.declared.placed_tile.PlacedTile.{PlacedTile}
use Rattle.half_glue.specs.declared.pairs.Pair.{Pair}
use Rattle.half_glue.specs.declared.whole_tile.WholeTile.{WholeTile}
use Rattle.half_glue.specs.Lifted.{IsNoDeeper, whole_of, wholes_of}
use Rattle.half_glue.specs.Pairs.{ArePresent}
use Rattle.half_glue.proofs.ArePaired.{map-joined}
use Rattle.half_glue.proofs.arranged.wholes.Goals as goal

pub loop-number-preserved : goal.loop-number-preserved
loop-number-preserved c =
    let f = c.args.frame.now in
    let tiles : List PlacedTile = c.args.tiles.now in
    let all : List PlacedTile = tiles ++ c.args.made.now.crossed.items in
    let pairs : List Pair = c.args.made.now.pairs.items in
    let k = c.loop-number.number in
    let p : Pair = c.index-pair.result.now in
    let below : k < length pairs = omega (arith, c.loop-number-test.true, c.len-count.ensures, c.args.made.now.pairs.ok) in
    let more : take (k + 1) pairs ≡ take k pairs ++ p ∷ [] = take_more pairs k p below
    ∙ ap (λ (q : Pair). take k pairs ++ q ∷ []) (sym c.index-pair.ensures) in
    let one : c.whole.result ≡ whole_of f all p = c.whole.ensures
    ∙ ap (λ (xs : List PlacedTile). whole_of f (tiles ++ xs) p) c.as_slice.ensures.value in
    c.in_ok-push.ensures.items ∙ ap (λ (ws : List WholeTile). ws ++ c.whole.result ∷ []) c.loop-number.invariant
    ∙ ap (λ (w : WholeTile). wholes_of f all (take k pairs) ++ w ∷ []) one
    ∙ sym (map-joined (whole_of f all) (take k pairs) (p ∷ [])) ∙ ap (wholes_of f all) (sym more)

pub returns : goal.returns
returns c =
    let pairs : List Pair = c.args.made.now.pairs.items in
    let k = c.loop-number.number in
    let end : length pairs ≤ k = omega (arith, c.loop-number-test.false, c.len-count.ensures, c.args.made.now.pairs.ok) in
    c.loop-number.invariant ∙ ap (wholes_of c.args.frame.now (c.args.tiles.now ++ c.args.made.now.crossed.items)) (take_all k pairs end)

pub whole-requires-clause-present : goal.whole-requires-clause-present
whole-requires-clause-present c =
    let tiles : List PlacedTile = c.args.tiles.now in
    let p : Pair = c.index-pair.result.now in
    let below : c.loop-number.number < length c.args.made.now.pairs.items
    = omega (arith, c.loop-number-test.true, c.len-count.ensures, c.args.made.now.pairs.ok) in
    subst (λ (xs : List PlacedTile). ArePresent (length (tiles ++ xs)) p) (sym c.as_slice.ensures.value)
    (subst (ArePresent (length (tiles ++ c.args.made.now.crossed.items))) (sym c.index-pair.ensures)
    (c.requires.present c.loop-number.number p below))

pub whole-requires-clause-no_deeper : goal.whole-requires-clause-no_deeper
whole-requires-clause-no_deeper c =
    subst (λ (xs : List PlacedTile). All (IsNoDeeper c.args.frame.now) (c.args.tiles.now ++ xs)) (sym c.as_slice.ensures.value)
    c.requires.no_deeper
