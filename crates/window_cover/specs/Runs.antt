-- Tiles as runs of leaves.
use Rattle.std.specs.Prelude.{◌≡◌, ℕ, zero, suc, ◌+◌, ◌<◌, ◌≤◌, ◌^◌, ◌+ℤ◌, List, [], ◌∷◌, ◌++◌, map, length, take, drop, get_or, None, Some}
use Rattle.std.specs.declared.option.Option.{Option}
use Rattle.std.specs.Option.{IfSome}
use Rattle.std.specs.List.{AllByRecursion}
use Rattle.theory_addresses.specs.Address.{Step as TheStep}
use Rattle.cyclo_points.specs.declared.point.Point.{Point}
use Rattle.cyclo_points.specs.Point.{coefficient, IsWithin}
use Rattle.tile_place.specs.Keys.{FitsKey}
use Rattle.tile_shape.specs.declared.step.Step.{Step}
use Rattle.tile_shape.specs.Views.{step_of}
use Rattle.theory_windows.specs.Limits.{most_tiles}
use Rattle.window_cover.specs.declared.block.Block.{Block}
use Rattle.window_cover.specs.declared.run.Run.{Run}
use Rattle.window_cover.specs.declared.run_tile.RunTile.{RunTile}
use Rattle.window_cover.specs.declared.runs.Runs.{Runs}
use Rattle.window_cover.specs.Covered.{tile_of}
use Rattle.window_cover.specs.Found.{Found}

-- ---- a leaf as a tile of a run
-- the sum of two shifts
abbrev pub moved_by : Point → Point → Point
moved_by by p = record {
  c = (coefficient p 0 +ℤ coefficient by 0) ∷ (coefficient p 1 +ℤ coefficient by 1) ∷
      (coefficient p 2 +ℤ coefficient by 2) ∷ (coefficient p 3 +ℤ coefficient by 3) ∷ [];
}

abbrev pub shifted_by : Option Point → Point → Point
shifted_by None p = p
shifted_by (Some by) p = moved_by by p

-- the leaf, shifted, with these digits after its own
abbrev pub run_tile : Option Point → List TheStep → Found → Found
run_tile by digits x = record {
  kind = x.kind;
  motion = record { turn = x.motion.turn; shift = shifted_by by x.motion.shift };
  digits = x.digits ++ digits;
}

-- ---- the tiles of runs
abbrev pub no_run : Run
no_run = record { shift = None; first = 0; depth = 0 }

abbrev pub run_of : List Run → ℕ → Run
run_of runs number = get_or runs number no_run

-- the digits of a run
abbrev pub span_of : List Step → Run → List TheStep
span_of spans run = map step_of (take run.depth (drop run.first spans))

abbrev pub tile_seen : List Found → List Run → List Step → RunTile → Found
tile_seen leaves runs spans t =
    run_tile (run_of runs t.run).shift (span_of spans (run_of runs t.run)) (tile_of leaves t.leaf)

abbrev pub seen : Runs → List Found
seen r = map (tile_seen r.leaves.found r.runs.items r.spans.items) r.tiles.items

-- its run, its leaf and its digits exist, and its numbers are small enough for a key
pub record IsRunTile (leaves : List Found) (runs : List Run) (spans : List Step) (t : RunTile) : Type 0 where
  pub run_there : t.run < length runs
  pub leaf_there : t.leaf < length leaves
  pub span_there : (run_of runs t.run).first + (run_of runs t.run).depth ≤ length spans
  pub run_within : IfSome (run_of runs t.run).shift (IsWithin (2 ^ 24))
  pub leaf_within : IsWithin (2 ^ 24) (tile_of leaves t.leaf).motion.shift
  pub short : length (tile_of leaves t.leaf).digits + (run_of runs t.run).depth ≤ 64
  pub key : FitsKey (tile_seen leaves runs spans t).motion (tile_seen leaves runs spans t).kind

pub record AreRuns (r : Runs) : Type 0 where
  pub tiles : AllByRecursion (IsRunTile r.leaves.found r.runs.items r.spans.items) r.tiles.items
  pub few : length r.tiles.items ≤ most_tiles

-- ---- the tiles of one run
abbrev pub run_tiles : ℕ → ℕ → ℕ → List RunTile
run_tiles run first zero = []
run_tiles run first (suc count) = record { run = run; leaf = first } ∷ run_tiles run (suc first) count

-- the leaves from a number on
abbrev pub leaves_from : ℕ → ℕ → List Found → List Found
leaves_from first zero leaves = []
leaves_from first (suc count) leaves = tile_of leaves first ∷ leaves_from (suc first) count leaves

abbrev pub leaves_in : Block → List Found → List Found
leaves_in b leaves = leaves_from b.first b.count leaves

-- the leaf, shifted and with these digits, is within all limits
pub record CanRunLeaf (by : Option Point) (digits : List Step) (x : Found) : Type 0 where
  pub within : IsWithin (2 ^ 24) x.motion.shift
  pub short : length x.digits + length digits ≤ 64
  pub key : FitsKey (run_tile by (map step_of digits) x).motion x.kind

-- the leaves of a block exist, and each is
pub record CanRun (leaves : List Found) (b : Block) (by : Option Point) (digits : List Step) : Type 0 where
  pub fits : b.first + b.count ≤ length leaves
  pub few : b.first + b.count ≤ most_tiles
  pub by_within : IfSome by (IsWithin (2 ^ 24))
  pub at_most_64 : length digits ≤ 64
  pub each : (i : ℕ) → b.first ≤ i → i < b.first + b.count → CanRunLeaf by digits (tile_of leaves i)

-- the leaves of a block are added, shifted and with these digits after their own
pub record IsPushed (r s : Runs) (b : Block) (by : Option Point) (digits : List Step) : Type 0 where
  pub runs : AreRuns s
  pub tiles : seen s ≡ seen r ++ map (run_tile by (map step_of digits)) (leaves_in b r.leaves.found)
