use Rattle.std.proofs.Common.{◌≡◌, ℕ, ◌<◌, List, Some, map, length, get_or, slice_get, refl, sym, ap, ◌∙◌, subst, arith}
use Rattle.std.proofs.lemmas.List.{get_or_read_under}
use Rattle.tile_place.specs.declared.placed_tile.PlacedTile.{PlacedTile}
use Rattle.tile_shape.specs.declared.step.Step.{Step}
use Rattle.tile_shape.specs.Views.{step_of}
use Rattle.window_cover.specs.Covered.{placed_as, tile_of}
use Rattle.window_cover.specs.Runs.{seen}
use Rattle.window_cover.specs.Words.{tile_number}
use Rattle.window_cover.proofs.TileAt.{tiles-at, number-at, long}
use Rattle.window_cover.proofs.covered_tiles.CoveredTiles.tile.Goals as goal

pub lifted-requires-clause-found : goal.lifted-requires-clause-found
lifted-requires-clause-found c =
    let words : List ℕ = c.self.inside.words.items in
    let many = ap (λ (ts : List PlacedTile). length ts) (sym c.self.view_is)
    ∙ long (map step_of c.self.inside.above.items) (seen c.self.inside.tiles) words in
    let below : c.args.place < length words = omega (arith, many, c.requires.below) in
    let number : c.tile_number-number.result ≡ tile_number (get_or words c.args.place 0) =
    c.tile_number-number.ensures ∙ ap tile_number
    (get_or_read_under words c.args.place (length words) c.index.result.now 0 c.index.ensures below
    refl) in
    subst (λ (n : ℕ). n < length (seen c.self.inside.tiles)) (sym number)
    (number-at (seen c.self.inside.tiles) words c.args.place below c.self.invariant.covered.numbered)

pub returns : goal.returns
returns c =
    let words : List ℕ = c.self.inside.words.items in
    let above = map step_of c.self.inside.above.items in
    let found = seen c.self.inside.tiles in
    let many = ap (λ (ts : List PlacedTile). length ts) (sym c.self.view_is) ∙ long above found words in
    let below : c.args.place < length words = omega (arith, many, c.requires.below) in
    let number : c.tile_number-number.result ≡ tile_number (get_or words c.args.place 0) =
    c.tile_number-number.ensures ∙ ap tile_number
    (get_or_read_under words c.args.place (length words) c.index.result.now 0 c.index.ensures below
    refl) in
    let its : c.lifted.result ≡ placed_as above (tile_of found (tile_number (get_or words c.args.place 0))) =
    c.lifted.ensures ∙ ap (λ (ds : List Step). placed_as (map step_of ds) (tile_of found c.tile_number-number.result)) c.as_slice.ensures.value
    ∙ ap (λ (n : ℕ). placed_as above (tile_of found n)) number in
    ap (λ (ts : List PlacedTile). slice_get ts c.args.place) (sym c.self.view_is) ∙ tiles-at above found words c.args.place below ∙ ap Some (sym its)
