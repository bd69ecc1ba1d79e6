use Rattle.std.proofs.Common.{◌≡◌, ℕ, List, map, sym, ap, ◌∙◌, subst}
use Rattle.tile_shape.specs.Views.{step_of}
use Rattle.window_cover.specs.Covered.{tiles_of, AreCovered}
use Rattle.window_cover.specs.InKeyOrder.{numbers_in_order}
use Rattle.window_cover.specs.Runs.{seen}
use Rattle.window_cover.specs.Words.{tile_number}
use Rattle.window_cover.proofs.InKeyOrder.{only-ordered}
use Rattle.window_cover.proofs.found_tiles.FoundTiles.in_order.Goals as goal

pub invariant_of-result : goal.invariant_of-result
invariant_of-result c =
    let found = seen c.self.inside.tiles in
    let above = map step_of c.self.inside.above.items in
    let numbers : map tile_number c.in_ok-words.words.items ≡ numbers_in_order found =
    only-ordered found (map tile_number c.in_ok-words.words.items) c.in_ok-words.ensures.ordered in
    record {
      runs = c.self.invariant.runs;
      covered = subst (λ (ns : List ℕ). AreCovered above found ns) (sym numbers) c.self.invariant.covered;
    }

pub returns : goal.returns
returns c =
    let found = seen c.self.inside.tiles in
    let above = map step_of c.self.inside.above.items in
    ap (λ (ns : List ℕ). tiles_of above found ns)
    (only-ordered found (map tile_number c.in_ok-words.words.items) c.in_ok-words.ensures.ordered) ∙ c.self.view_is
