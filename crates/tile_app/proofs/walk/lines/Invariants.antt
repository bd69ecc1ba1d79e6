use Rattle.std.proofs.Common.{◌≡◌, ℕ, ◌*◌, ◌++◌, List, take, drop, None}
use Rattle.cyclo_points.specs.Point.{IsWithin}
use Rattle.theory_walks.specs.Frames.{whole}
use Rattle.theory_walks.specs.Paths.{CanBeWalked}
use Rattle.lazy_walk.specs.Standing.{Stands}
use Rattle.rule_model.specs.Tiling.{tiling_of}
use Rattle.tile_shape.specs.Views.{address_of}
use Rattle.tile_app.specs.Walk.{IsWalkLine, AreLines}
use Rattle.tile_app.proofs.walk.lines.Given as goal

-- the text has the line of the base and those of the path to the tile, which stands in its place; the rest can be walked from there
abbrev pub invariant-loop-edge : goal.invariant-loop-edge
invariant-loop-edge g l = record {
  first : List ℕ;
  after : List ℕ;
  base : IsWalkLine (tiling_of l.machine) (whole l.frame) (whole l.frame) None first;
  along : AreLines (tiling_of l.machine) (whole l.frame) (whole l.frame) (take l.edge-index l.path) (address_of l.tile.addr) after;
  is_text : l.text.items ≡ first ++ after;
  stands : Stands (tiling_of l.machine) l.frame l.tile;
  within : IsWithin (512 * l.edge-index) l.tile.motion.shift;
  ahead : CanBeWalked (tiling_of l.machine) (address_of l.tile.addr) (drop l.edge-index l.path);
}
