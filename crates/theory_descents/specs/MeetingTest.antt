-- The test whether a left fan meets an open box: an edge of it does, or it holds the centre of the box.
use Rattle.std.specs.Prelude.{◌≡◌, ◌↔◌, ◌<◌, Bool, true, ◌||◌, IsTrue}
use Rattle.std.specs.List.{list_any}
use Rattle.theory_ring.specs.Sign.{Signed}
use Rattle.theory_plane.specs.Plane.{TestPoint, IsTestPoint, test_point}
use Rattle.theory_plane.specs.Crossing.{member}
use Rattle.theory_plane.specs.Box.{OpenBox}
use Rattle.theory_plane.specs.BoxTest.{box_test}
use Rattle.theory_windows.specs.Outlines.{Polygon, edges}
use Rattle.theory_windows.specs.Meeting.{PolygonMeetsBox, IsLeftFan}

abbrev pub polygon_meets : (S : Signed) → OpenBox S.ops.carrier → Polygon S → Bool
polygon_meets S box polygon = list_any (λ e. box_test S e.from e.to box) (edges polygon)
    || member S polygon (test_point S.ops box.centre)

-- the test is true if and only if a test point in the box belongs to the polygon
abbrev pub MeetsByTest : Signed → Type 0
MeetsByTest S =
    (box : OpenBox S.ops.carrier) → 0 < box.w → 0 < box.h → (polygon : Polygon S) → IsLeftFan S polygon
    → (polygon_meets S box polygon ≡ true) ↔ PolygonMeetsBox S box polygon

-- a left fan has a point
abbrev pub HasPoint : Signed → Type 0
HasPoint S = (polygon : Polygon S) → IsLeftFan S polygon → (p : TestPoint S.ops.carrier) × IsTestPoint S p
    × IsTrue (member S polygon p)
