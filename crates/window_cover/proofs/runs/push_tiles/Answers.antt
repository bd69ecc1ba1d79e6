use Rattle.std.proofs.Common.{◌≡◌, ℕ, ◌+◌, List, [], ◌∷◌, ◌++◌, sym, ap, ◌∙◌, arith, append_assoc, append-nil}
use Rattle.window_cover.specs.declared.run_tile.RunTile.{RunTile}
use Rattle.window_cover.specs.Runs.{run_tiles}
use Rattle.window_cover.proofs.RunTiles.{run_tiles-more}
use Rattle.window_cover.proofs.runs.push_tiles.Goals as goal

pub loop-number-init : goal.loop-number-init
loop-number-init c = record { few = omega arith; tiles = sym (append-nil c.args.tiles.now.items) }

pub loop-number-preserved : goal.loop-number-preserved
loop-number-preserved c =
    let n = c.loop-number.number in
    let before = c.args.tiles.now.items in
    let own : RunTile = record { run = c.args.run; leaf = c.args.first + n } in
    record {
      few = omega (arith, c.loop-number-test.true);
      tiles = c.in_ok-push.ensures.items ∙ ap (λ (ts : List RunTile). ts ++ own ∷ []) c.loop-number.invariant.tiles
          ∙ append_assoc before (run_tiles c.args.run c.args.first n) (own ∷ [])
          ∙ ap (λ (ts : List RunTile). before ++ ts) (sym (run_tiles-more c.args.run c.args.first n));
    }

pub returns : goal.returns
returns c =
    let all : c.loop-number.number ≡ c.args.count = omega (arith, c.loop-number-test.false, c.loop-number.invariant.few) in
    c.loop-number.invariant.tiles ∙ ap (λ (n : ℕ). c.args.tiles.now.items ++ run_tiles c.args.run c.args.first n) all
