-- What the plain corners of C stand for.
use Rattle.std.specs.Prelude.{◌≡◌, List, map, take, drop, length}
use Rattle.cyclo_points.specs.declared.point.Point.{Point}
use Rattle.c_values.specs.declared.plain_outline.PlainOutline.{PlainOutline}
use Rattle.c_values.specs.declared.plain_point.PlainPoint.{PlainPoint}

-- a point, with its numbers as they are
abbrev pub point_of : PlainPoint → Point
point_of p = record { c = p.c }

-- the corners: the first `count` points
abbrev pub corners_in : PlainOutline → List Point
corners_in p = map point_of (take p.count p.corners)

-- The outline has become that of these points. The entries after them are unchanged.
pub record HoldsOutline (points : List Point) (old new : PlainOutline) : Type 0 where
  pub corners : corners_in new ≡ points
  pub count : new.count ≡ length points
  pub behind : drop new.count new.corners ≡ drop new.count old.corners
