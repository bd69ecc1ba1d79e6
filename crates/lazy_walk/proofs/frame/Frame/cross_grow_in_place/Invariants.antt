use Rattle.std.proofs.Common.{◌≡◌, ℕ, ◌-◌, ◌<◌, ◌≤◌, length}
use Rattle.theory_frames.specs.Frame.{lifted_in}
use Rattle.rule_model.specs.Tiling.{tiling_of}
use Rattle.tile_shape.specs.Views.{address_of}
use Rattle.theory_walks.specs.Boundary.{IsBoundaryEdge}
use Rattle.theory_walks.specs.Frames.{whole, GrowsTo, lifted_at}
use Rattle.lazy_walk.proofs.frame.Frame.cross_grow_in_place.Given as goal

-- the tile is lifted to the frame as it is now, and its edge was on the boundary at each depth so far
abbrev pub invariant-loop-back : goal.invariant-loop-back
invariant-loop-back g l = record {
  grown : GrowsTo (tiling_of l.machine) l.fn.self l.self;
  lifted : address_of l.tile ≡ lifted_in (whole l.self) (address_of l.fn.tile);
  before : (n : ℕ) → length l.fn.self.digits ≤ n → n < length l.self.digits
      → IsBoundaryEdge (tiling_of l.machine) (lifted_at (tiling_of l.machine) l.fn.self (address_of l.fn.tile)
      n) l.edge;
}

abbrev pub decreases-loop-back : goal.decreases-loop-back
decreases-loop-back g l = 64 - length l.self.digits
