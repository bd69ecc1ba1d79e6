-- Depths of a frame that are not beyond an enough depth.
use Rattle.std.specs.Prelude.{ℕ}
use Rattle.cyclo_points.specs.Order.{points_of}
use Rattle.plane_geom.specs.declared.window.Window.{Window}
use Rattle.rule_model.specs.Tiling.{Tiling}
use Rattle.theory_walks.specs.Frames.{FrameValue}
use Rattle.theory_windows.specs.EnoughDepth.{IsNotBeyond}
use Rattle.window_cover.specs.Right.{growing}
use Rattle.window_cover.specs.Windows.{TileOf, box_of}

-- n is at least m, and no depth from m on that is enough for the window is below n
abbrev pub IsNotBeyondEnough : Tiling → FrameValue → Window → ℕ → ℕ → Type 0
IsNotBeyondEnough t f w m n = IsNotBeyond (points_of t.order).real (TileOf t) (growing t f) (box_of t w) m n
