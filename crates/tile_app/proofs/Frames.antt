-- The frames of a walk, at each depth.
use Rattle.std.proofs.Common.{◌≡◌, ℕ, List, length, ap, ◌∙◌}
use Rattle.lazy_walk.specs.declared.path_fault.PathFault.{PathFault}
use Rattle.lazy_walk.specs.declared.path_fault.PathFault.TheVariants.{NoEdge, DepthLimit}
use Rattle.theory_walks.specs.Frames.{FrameValue, whole, at_depth, GrowsTo}
use Rattle.lazy_walk.specs.Faults.{IsPathFault}
use Rattle.theory_walks.proofs.Walks.{GrowsTo-is}
use Rattle.theory_walks.proofs.Walked.{at_depth-grown}
use Rattle.rule_model.specs.Tiling.{Tiling}
use Rattle.call_notes.specs.Status.{OrNoMemory}
use Rattle.call_notes.specs.FaultStatus.{status_of_path}
use Rattle.tile_app.specs.Walk.{frame_at, WalkRefuses}

module _ (t : Tiling) (f g : FrameValue) (grown : GrowsTo t f g) where
  -- the frame of a depth, from one that has grown
  pub frame-is : (n : ℕ) → whole (at_depth t n g) ≡ frame_at t f n
  frame-is n = ap whole (at_depth-grown t f g n grown)

  -- and one that has grown further
  pub last-is : (h : FrameValue) → GrowsTo t g h → whole h ≡ frame_at t f (length h.digits)
  last-is h more = ap whole (GrowsTo-is t g h more) ∙ frame-is (length h.digits)

-- a fault of a path is refused for its cause
pub walking_ends : (t : Tiling) (f : FrameValue) (path : List ℕ) (fault : PathFault)
    → IsPathFault t (frame_at t f 64) path fault → OrNoMemory (WalkRefuses t f path) (status_of_path fault)
walking_ends t f path (NoEdge edge edges) h = h
walking_ends t f path (DepthLimit limit) h = h
