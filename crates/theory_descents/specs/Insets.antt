-- How far a point is inside each side of an open box; polygons that lie beyond one side of a box, and
-- polygons that lie within it, by their vertices.
use Rattle.std.specs.Prelude.{◌≡◌, ◌⊎◌, pos, Bool, true, false, IsTrue}
use Rattle.std.specs.List.{AllByRecursion}
use Rattle.std.specs.Ordering.{is_gt}
use Rattle.theory_ring.specs.Ring.{difference}
use Rattle.theory_ring.specs.Sign.{Signed}
use Rattle.theory_plane.specs.Plane.{PlanePoint, TestPoint, IsTestPoint}
use Rattle.theory_plane.specs.Crossing.{member}
use Rattle.theory_plane.specs.Box.{OpenBox, in_box}
use Rattle.theory_windows.specs.Outlines.{Polygon}
use Rattle.theory_windows.specs.Meeting.{PolygonMeetsBox}

-- whether a point is inside the side of the greatest X, that of the least, and the same in Y
abbrev pub inside_right : (S : Signed) → OpenBox S.ops.carrier → PlanePoint S.ops.carrier → Bool
inside_right S box v = is_gt (S.sign (difference S.ops (S.ops.int (pos box.w))
    (difference S.ops v.x box.centre.x)))

abbrev pub inside_left : (S : Signed) → OpenBox S.ops.carrier → PlanePoint S.ops.carrier → Bool
inside_left S box v = is_gt (S.sign (S.ops.add (S.ops.int (pos box.w)) (difference S.ops v.x box.centre.x)))

abbrev pub inside_upper : (S : Signed) → OpenBox S.ops.carrier → PlanePoint S.ops.carrier → Bool
inside_upper S box v = is_gt (S.sign (difference S.ops (S.ops.int (pos box.h))
    (difference S.ops v.y box.centre.y)))

abbrev pub inside_lower : (S : Signed) → OpenBox S.ops.carrier → PlanePoint S.ops.carrier → Bool
inside_lower S box v = is_gt (S.sign (S.ops.add (S.ops.int (pos box.h)) (difference S.ops v.y box.centre.y)))

-- no vertex is inside one of the sides
abbrev pub IsBeyondSide : (S : Signed) → (PlanePoint S.ops.carrier → Bool) → Polygon S → Type 0
IsBeyondSide S inside polygon = AllByRecursion (λ v. inside v ≡ false) polygon

abbrev pub IsBeyondBox : (S : Signed) → OpenBox S.ops.carrier → Polygon S → Type 0
IsBeyondBox S box polygon =
    (IsBeyondSide S (inside_right S box) polygon ⊎ IsBeyondSide S (inside_left S box) polygon)
    ⊎ (IsBeyondSide S (inside_upper S box) polygon ⊎ IsBeyondSide S (inside_lower S box) polygon)

-- a point is inside all four
pub record IsInBox (S : Signed) (box : OpenBox S.ops.carrier) (v : PlanePoint S.ops.carrier) : Type 0 where
  pub right : inside_right S box v ≡ true
  pub left : inside_left S box v ≡ true
  pub upper : inside_upper S box v ≡ true
  pub lower : inside_lower S box v ≡ true

-- each vertex is inside all four
abbrev pub IsWithinBox : (S : Signed) → OpenBox S.ops.carrier → Polygon S → Type 0
IsWithinBox S box polygon = AllByRecursion (IsInBox S box) polygon

-- a polygon beyond one side has no point in the box
abbrev pub BeyondMeetsNot : Signed → Type 0
BeyondMeetsNot S = (box : OpenBox S.ops.carrier) (polygon : Polygon S) → IsBeyondBox S box polygon
    → ¬ PolygonMeetsBox S box polygon

-- and each point of one within the box is in it
abbrev pub WithinIn : Signed → Type 0
WithinIn S =
    (box : OpenBox S.ops.carrier) (polygon : Polygon S) → IsWithinBox S box polygon
    → (p : TestPoint S.ops.carrier) → IsTestPoint S p → IsTrue (member S polygon p) → IsTrue (in_box S box p)
