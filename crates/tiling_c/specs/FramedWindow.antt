-- The frame and the window that a caller's numbers give.
use Rattle.std.specs.Prelude.{◌≡◌, ◌⊎◌, ℕ}
use Rattle.theory_walks.specs.Frames.{FrameValue, IsFrameOf}
use Rattle.plane_geom.specs.declared.window.Window.{Window}
use Rattle.rule_model.specs.Tiling.{Tiling}
use Rattle.window_cover.specs.Windows.{IsWindow}
use Rattle.c_values.specs.declared.plain_frame.PlainFrame.{PlainFrame}
use Rattle.c_values.specs.declared.plain_window.PlainWindow.{PlainWindow}
use Rattle.c_values.specs.Addresses.{NamesTile}
use Rattle.c_values.specs.Frames.{frame_in}
use Rattle.c_values.specs.Statuses.{bad_words, bad_address}
use Rattle.c_values.specs.Windows.{window_in, GivesWindow}

-- the numbers give this frame of the tiling, and this window
pub record GiveFramedWindow (t : Tiling) (frame : PlainFrame) (window : PlainWindow) (f : FrameValue)
    (w : Window) : Type 0 where
  pub window_given : GivesWindow window
  pub named : NamesTile t frame.base
  pub its_frame : f ≡ frame_in frame
  pub its_window : w ≡ window_in t.order window
  pub is_frame : IsFrameOf t f
  pub is_window : IsWindow w

-- they give no window, or else no frame, and this is the status
abbrev pub RefusesFramedWindow : Tiling → PlainFrame → PlainWindow → ℕ → Type 0
RefusesFramedWindow t frame window status = ((status ≡ bad_words) × (¬ GivesWindow window))
    ⊎ ((status ≡ bad_address) × GivesWindow window × (¬ NamesTile t frame.base))
