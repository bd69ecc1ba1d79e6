use Rattle.std.proofs.Common.{◌≡◌, IfSome, List, Option, Some, subst}
use Rattle.plane_geom.specs.declared.window.Window.{Window}
use Rattle.rule_model.specs.Tiling.{Tiling, tiling_of}
use Rattle.tile_place.specs.declared.placed_tile.PlacedTile.{PlacedTile}
use Rattle.theory_walks.specs.Frames.{FrameValue, GrowsTo}
use Rattle.theory_walks.proofs.Walks.{GrowsTo-self}
use Rattle.window_cover.specs.Answered.{IsAnswered}
use Rattle.window_cover.proofs.HandedOn.{out_of_memory, came_to}
use Rattle.window_cover.proofs.find_tiles.find_tiles.Goals as goal

pub returns-in_err-grown-clause-ends : goal.returns-in_err-grown-clause-ends
returns-in_err-grown-clause-ends c =
    out_of_memory (tiling_of c.args.machine.now) c.args.frame.now c.args.frame.now c.args.window.now c.from_residual.result c.from_residual.ensures.1
    (GrowsTo-self (tiling_of c.args.machine.now) c.args.frame.now c.requires.frame) (λ n enough. enough.not_below)

pub returns-in_err-tiles-clause-ends : goal.returns-in_err-tiles-clause-ends
returns-in_err-tiles-clause-ends c =
    out_of_memory (tiling_of c.args.machine.now) c.args.frame.now c.args.frame.now c.args.window.now c.from_residual-in_err-tiles.result
    c.from_residual-in_err-tiles.ensures.1 (GrowsTo-self (tiling_of c.args.machine.now) c.args.frame.now c.requires.frame)
    (λ n enough. enough.not_below)

-- what the descent found, of the frame as it was
found-below : (t : Tiling) (copy old new : FrameValue) (w : Window) (o : Option (List PlacedTile)) (tiles : List PlacedTile)
    → copy ≡ old → o ≡ Some tiles → IfSome o (IsAnswered t copy new w) → IsAnswered t old new w tiles
found-below t copy old new w o tiles same is h = subst (λ f. IsAnswered t f new w tiles) same (subst (λ x. IfSome x (IsAnswered t copy new w)) is h)

pub returns-in-Some-clause-found : goal.returns-in-Some-clause-found
returns-in-Some-clause-found c = found-below _ _ _ _ _ _ _ c.in_ok-grown.ensures c.in-Some.is c.in_ok-tiles.ensures.answered

pub returns-in-Some-clause-ends : goal.returns-in-Some-clause-ends
returns-in-Some-clause-ends c =
    let t = tiling_of c.args.machine.now in
    let own = (found-below _ _ _ _ _ _ _ c.in_ok-grown.ensures c.in-Some.is c.in_ok-tiles.ensures.answered).least in
    came_to t c.args.frame.now c.by_descent.new.frame c.args.window.now c.in-Some.tiles
    (subst (λ (f : FrameValue). GrowsTo t f c.by_descent.new.frame) c.in_ok-grown.ensures c.by_descent.ensures.frame)
    (λ n enough. own.least n enough.not_below enough.within enough.holds)
