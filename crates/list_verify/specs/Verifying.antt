-- What decides lists of the tiles of one window, and its frame.
use Rattle.rule_model.specs.Tiling.{tiling_of}
use Rattle.theory_walks.specs.Frames.{FrameValue, IsFrameOf}
use Rattle.window_cover.specs.Windows.{IsWindow}
use Rattle.list_verify.specs.declared.verifier.Verifier.{Verifier}

-- the frame is one of the verifier's tiling, and its window can be covered
pub record IsReady (verifier : Verifier) (f : FrameValue) : Type 0 where
  pub frame : IsFrameOf (tiling_of verifier.machine.now) f
  pub window_fits : IsWindow verifier.window.now
