use Rattle.std.proofs.Common.{◌≡◌, ◌≤◌, List, [], ◌∷◌, ◌++◌, length, sym, ap, ◌∙◌, subst, arith}
use Rattle.std.specs.List.{AllByRecursion}
use Rattle.window_cover.specs.declared.run.Run.{Run}
use Rattle.window_cover.specs.declared.run_tile.RunTile.{RunTile}
use Rattle.window_cover.specs.Found.{Found}
use Rattle.window_cover.specs.Keys.{HasKey}
use Rattle.window_cover.specs.Runs.{run_tiles}
use Rattle.window_cover.proofs.RunTiles.{whole_run, whole-seen, whole-all, length-run_tiles}
use Rattle.window_cover.proofs.runs.Runs.of.Goals as goal

pub push_tiles-requires : goal.push_tiles-requires
push_tiles-requires c = let few = c.tiles-count.ensures.at_most in record { fits = omega (arith, few) }

pub returns-clause-runs : goal.returns-clause-runs
returns-clause-runs c =
    let found = c.closed-leaves.result.found in
    let same = c.closed-leaves.ensures in
    let count = c.tiles-count.ensures.count ∙ ap (λ (xs : List Found). length xs) (sym same) in
    let few = c.tiles-count.ensures.at_most in
    let of_tiles : c.push_tiles.new.tiles.items ≡ run_tiles 0 0 c.tiles-count.result =
    c.in_ok-push_tiles.ensures ∙ ap (λ (ts : List RunTile). ts ++ run_tiles 0 0 c.tiles-count.result) c.in_ok-tiles.ensures.items in
    let of_runs : c.push.new.self.items ≡ whole_run ∷ [] =
    c.in_ok-push.ensures.items ∙ ap (λ (rs : List Run). rs ++ whole_run ∷ []) c.new-runs.ensures.items in
    let long = ap (λ (ts : List RunTile). length ts) of_tiles ∙ length-run_tiles 0 0 c.tiles-count.result in
    record {
      tiles = whole-all found c.push.new.self.items c.new.result.items c.push_tiles.new.tiles.items of_runs
          c.new.ensures.items c.tiles-count.result count of_tiles
          (subst (AllByRecursion HasKey) (sym same) c.tiles_law.ensures.keyed)
          (subst (AllByRecursion (λ (x : Found). length x.digits ≤ 64)) (sym same) c.tiles_law.ensures.short);
      few = omega (arith, few, long);
    }

pub returns-clause-same : goal.returns-clause-same
returns-clause-same c =
    let found = c.closed-leaves.result.found in
    let same = c.closed-leaves.ensures in
    let count = c.tiles-count.ensures.count ∙ ap (λ (xs : List Found). length xs) (sym same) in
    let of_tiles : c.push_tiles.new.tiles.items ≡ run_tiles 0 0 c.tiles-count.result =
    c.in_ok-push_tiles.ensures ∙ ap (λ (ts : List RunTile). ts ++ run_tiles 0 0 c.tiles-count.result) c.in_ok-tiles.ensures.items in
    let of_runs : c.push.new.self.items ≡ whole_run ∷ [] =
    c.in_ok-push.ensures.items ∙ ap (λ (rs : List Run). rs ++ whole_run ∷ []) c.new-runs.ensures.items in
    whole-seen found c.push.new.self.items c.new.result.items c.push_tiles.new.tiles.items of_runs
    c.new.ensures.items c.tiles-count.result count of_tiles ∙ same
