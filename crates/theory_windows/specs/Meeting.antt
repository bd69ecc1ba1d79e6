-- Polygons that meet an open box. A polygon does if one of its edges does: on the left of each point of an
-- edge there are points of the polygon, arbitrarily close to it.
use Rattle.std.specs.Prelude.{◌≡◌, ◌⊎◌, ◌<◌, pos, true, length, IsTrue}
use Rattle.std.specs.List.{AllByRecursion}
use Rattle.theory_ring.specs.Sign.{Signed}
use Rattle.theory_plane.specs.Plane.{PlanePoint, TestPoint, IsTestPoint}
use Rattle.theory_plane.specs.Crossing.{count, member}
use Rattle.theory_plane.specs.Triangle.{Triangle, corners, fan, turns_left}
use Rattle.theory_plane.specs.Box.{OpenBox, in_box, EdgeMeetsBox}
use Rattle.theory_addresses.specs.Search.{IsAmong}
use Rattle.theory_windows.specs.Outlines.{PlaneEdge, Polygon, edges, MeetsBox}

-- some test point in the box belongs to the polygon
abbrev pub PolygonMeetsBox : (S : Signed) → OpenBox S.ops.carrier → Polygon S → Type 0
PolygonMeetsBox S box polygon = (p : TestPoint S.ops.carrier) × IsTestPoint S p × IsTrue (in_box S box p)
    × IsTrue (member S polygon p)

-- the polygon has three vertices at least, each triangle of its fan turns left, and it counts 0 or 1 at each
-- test point
pub record IsLeftFan (S : Signed) (polygon : Polygon S) : Type 0 where
  pub corners : 2 < length polygon
  pub turns_left : AllByRecursion (λ t. turns_left S t ≡ true) (fan polygon)
  pub zero_or_one : (p : TestPoint S.ops.carrier) → IsTestPoint S p
      → (count S polygon p ≡ pos 0) ⊎ (count S polygon p ≡ pos 1)

-- a triangle that turns left meets an open box if its edge a→b does
abbrev pub TriangleMeets : Signed → Type 0
TriangleMeets S =
    (box : OpenBox S.ops.carrier) (t : Triangle (PlanePoint S.ops.carrier)) → IsTrue (turns_left S t)
    → EdgeMeetsBox S t.a t.b box → PolygonMeetsBox S box (corners t)

-- a left fan meets an open box if one of its edges does
abbrev pub PolygonMeets : Signed → Type 0
PolygonMeets S =
    (box : OpenBox S.ops.carrier) (polygon : Polygon S) → IsLeftFan S polygon → (e : PlaneEdge S)
    → IsAmong e (edges polygon) → MeetsBox S box e
    → PolygonMeetsBox S box polygon
