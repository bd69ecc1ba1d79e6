-- What holds of a search for the tiles of a window when it begins, and when it ends.
use Rattle.std.specs.Prelude.{◌≡◌, [], None}
use Rattle.cyclo_points.specs.Point.{point_in}
use Rattle.plane_geom.specs.declared.window.Window.{Window}
use Rattle.rule_model.specs.Tiling.{Tiling}
use Rattle.theory_walks.specs.Containing.{first_refused_outward}
use Rattle.theory_walks.specs.Frames.{FrameValue}
use Rattle.window_cover.specs.Found.{CoverValue}
use Rattle.window_cover.specs.Right.{IsRight}

-- it is for this window, and no value on the way to the window's centre is refused, outward from the frame f
pub record HasBegun (t : Tiling) (f : FrameValue) (w : Window) (c : CoverValue) : Type 0 where
  pub its_window : c.window ≡ w
  pub centre_found : first_refused_outward t f (point_in t.order w.centre) ≡ None

-- no edge is open, and what is found is right for the frame, which was f and is g
pub record HasClosed (t : Tiling) (f g : FrameValue) (w : Window) (c : CoverValue) : Type 0 where
  pub begun : HasBegun t f w c
  pub right : IsRight t g c
  pub none_open : c.border ≡ []
