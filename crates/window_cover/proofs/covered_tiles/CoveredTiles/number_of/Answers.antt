use Rattle.std.proofs.Common.{[], ◌+◌, ◌-◌, ◌/◌, ◌<◌, ℕ, length, arith, ◌∙◌}
use Rattle.tile_place.specs.declared.placed_tile.PlacedTile.{PlacedTile}
use Rattle.window_cover.specs.Covered.{none, placed_as}
use Rattle.window_cover.proofs.Bisected.{read-at, higher, lower, is-there, none-there}
use Rattle.window_cover.proofs.covered_tiles.CoveredTiles.number_of.Goals as goal

-- a tile that stands for none
no_tile : PlacedTile
no_tile = placed_as [] none

pub loop-first-preserved-in-Less : goal.loop-first-preserved-in-Less
loop-first-preserved-in-Less c =
    let k : ℕ = c.loop-first.first + (c.loop-first.end - c.loop-first.first) / 2 in
    let below : k < c.loop-first.end = omega (arith, c.loop-first-test.true) in
    let w = c.loop-first.invariant.within in
    higher c.args.self.now c.args.motion.now c.args.kind c.requires.in_order c.loop-first.first c.loop-first.end c.loop-first.invariant k below
    (λ d. read-at c.args.self.now c.args.motion.now c.args.kind c.compared.result k (omega (arith, below, w)) c.compared.ensures d ∙ c.in-Less.is)

pub returns-in-Equal-clause-found : goal.returns-in-Equal-clause-found
returns-in-Equal-clause-found c =
    let k : ℕ = c.loop-first.first + (c.loop-first.end - c.loop-first.first) / 2 in
    let below : k < c.loop-first.end = omega (arith, c.loop-first-test.true) in
    let w = c.loop-first.invariant.within in
    let inside : k < length c.args.self.now = omega (arith, below, w) in
    is-there c.args.self.now c.args.motion.now c.args.kind k inside no_tile
    (read-at c.args.self.now c.args.motion.now c.args.kind c.compared.result k inside c.compared.ensures no_tile ∙ c.in-Equal.is)

pub loop-first-preserved : goal.loop-first-preserved
loop-first-preserved c =
    let k : ℕ = c.loop-first.first + (c.loop-first.end - c.loop-first.first) / 2 in
    let below : k < c.loop-first.end = omega (arith, c.loop-first-test.true) in
    let w = c.loop-first.invariant.within in
    lower c.args.self.now c.args.motion.now c.args.kind c.requires.in_order c.loop-first.first c.loop-first.end c.loop-first.invariant k below
    (λ d. read-at c.args.self.now c.args.motion.now c.args.kind c.compared.result k (omega (arith, below, w)) c.compared.ensures d ∙ c.in-Greater.is)

pub returns-clause-none : goal.returns-clause-none
returns-clause-none c = λ e. none-there c.args.self.now c.args.motion.now c.args.kind c.loop-first.first
    c.loop-first.end c.loop-first.invariant (omega (arith, c.loop-first-test.false))
