-- The statuses of a path that can't be walked.
use Rattle.std.proofs.Common.{◌≡◌, ◌⊎◌, inl, inr, ℕ, List, sym, ◌∙◌}
use Rattle.lazy_walk.specs.declared.path_fault.PathFault.{PathFault}
use Rattle.lazy_walk.specs.declared.path_fault.PathFault.TheVariants.{NoEdge, DepthLimit}
use Rattle.lazy_walk.specs.Faults.{IsPathFault}
use Rattle.theory_walks.specs.Frames.{FrameValue, whole, at_depth}
use Rattle.theory_walks.specs.Paths.{IsStopped}
use Rattle.rule_model.specs.Tiling.{Tiling}
use Rattle.tile_shape.specs.Views.{address_of}
use Rattle.c_values.specs.Statuses.{depth_limit, no_edge}
use Rattle.tiling_c.specs.Walk.{HasNoEdgeAhead, code_of_path}

-- a fault has one of two statuses
pub path_status : (fault : PathFault) (status : ℕ) → status ≡ code_of_path fault → (status ≡ no_edge) ⊎ (status ≡ depth_limit)
path_status (NoEdge edge edges) status is = inl is
path_status (DepthLimit limit) status is = inr is

-- each status for its cause
pub lacks_edge : (t : Tiling) (start : FrameValue) (path : List ℕ) (fault : PathFault) (status : ℕ) → status ≡ code_of_path fault
    → IsPathFault t (whole (at_depth t 64 start)) path fault → status ≡ no_edge → HasNoEdgeAhead t start path
lacks_edge t start path (NoEdge edge edges) status is cause e = (edge, edges, cause)
lacks_edge t start path (DepthLimit limit) status is cause e = absurd (cc (sym is ∙ e))

pub is_stopped : (t : Tiling) (start : FrameValue) (path : List ℕ) (fault : PathFault) (status : ℕ) → status ≡ code_of_path fault
    → IsPathFault t (whole (at_depth t 64 start)) path fault → status ≡ depth_limit → IsStopped t (whole (at_depth t 64 start)) path
is_stopped t start path (NoEdge edge edges) status is cause e = absurd (cc (sym is ∙ e))
is_stopped t start path (DepthLimit limit) status is cause e = (address_of limit.addr, limit.edge, cause)
