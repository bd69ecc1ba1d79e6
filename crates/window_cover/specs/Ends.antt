-- How a search for the tiles of a window ends. The frame was f, and is g.
use Rattle.std.specs.Prelude.{◌≡◌, ◌⊎◌, ℕ, ◌≤◌, length, Result, Err, IsOk, IfErr}
use Rattle.plane_geom.specs.declared.window.Window.{Window}
use Rattle.rule_model.specs.Tiling.{Tiling}
use Rattle.theory_walks.specs.Frames.{FrameValue, GrowsTo}
use Rattle.window_cover.specs.declared.cover_fault.CoverFault.{CoverFault}
use Rattle.window_cover.specs.declared.cover_fault.CoverFault.TheVariants.{NoMemory}
use Rattle.window_cover.specs.Causes.{HasCoverCause}
use Rattle.window_cover.specs.Limits.{IsCoverWithinLimits}
use Rattle.window_cover.specs.Windows.{IsLeastForWindow}

-- The frame grows, and even on an error it is no deeper than is enough for the window. Unless memory runs
-- out, the call succeeds if the window is within the limits. Each error comes only for its cause.
pub record CoversTo {A : Type 0} (t : Tiling) (f g : FrameValue) (w : Window)
    (result : Result A CoverFault) : Type 0 where
  pub frame : GrowsTo t f g
  pub not_beyond : (n : ℕ) → IsLeastForWindow t f w n → length g.digits ≤ n
  pub answered : IsCoverWithinLimits t f w → (result ≡ Err NoMemory) ⊎ IsOk result
  pub cause : IfErr result (HasCoverCause t f g w)
