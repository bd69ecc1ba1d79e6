use Rattle.std.proofs.Common.{List, length, map, sym, ap, subst, arith}
use Rattle.std.specs.List.{AllByRecursion}
use Rattle.window_cover.specs.declared.run_tile.RunTile.{RunTile}
use Rattle.window_cover.specs.Runs.{IsRunTile, tile_seen}
use Rattle.window_cover.proofs.runs.Runs.new.Goals as goal

pub returns-clause-none : goal.returns-clause-none
returns-clause-none c = ap (map (tile_seen c.args.leaves.found c.new.result.items c.new-2.result.items)) c.new-3.ensures.items

pub returns-clause-runs : goal.returns-clause-runs
returns-clause-runs c =
    let none = ap (λ (ts : List RunTile). length ts) c.new-3.ensures.items in
    record {
      tiles = subst (AllByRecursion (IsRunTile c.args.leaves.found c.new.result.items c.new-2.result.items)) (sym c.new-3.ensures.items) tt;
      few = omega (arith, none);
    }
