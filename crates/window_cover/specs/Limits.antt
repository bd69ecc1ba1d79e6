-- Windows within the limits of a frame.
use Rattle.std.specs.Prelude.{◌≡◌, None, length}
use Rattle.cyclo_points.specs.Order.{points_of, is_refused}
use Rattle.cyclo_points.specs.Point.{point_in}
use Rattle.plane_geom.specs.declared.window.Window.{Window}
use Rattle.rule_model.specs.Tiling.{Tiling}
use Rattle.theory_walks.specs.Ancestors.{full}
use Rattle.theory_walks.specs.Containing.{first_refused_outward}
use Rattle.theory_walks.specs.Frames.{FrameValue}
use Rattle.theory_windows.specs.FrameWindow.{IsWindowWithin}
use Rattle.theory_windows.specs.Limits.{most_tiles}
use Rattle.window_cover.specs.Windows.{box_of}

-- No value on the way to the centre is refused. Some depth is enough. At the least enough depth no tile that
-- meets the window has a refused shift, and there are not too many of them.
pub record IsCoverWithinLimits (t : Tiling) (f : FrameValue) (w : Window) : Type 0 where
  pub centre_found : first_refused_outward t f (point_in t.order w.centre) ≡ None
  pub drawn_within : IsWindowWithin (points_of t.order) (is_refused t.order) t.rule (full t f) (box_of t w)
      (length f.digits) most_tiles
