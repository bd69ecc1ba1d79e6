-- Two polygons that are glued along an edge of both.
use Rattle.std.specs.Prelude.{◌≡◌, ◌+ℤ◌, [], ◌∷◌, ◌++◌}
use Rattle.theory_ring.specs.Sign.{Signed}
use Rattle.theory_plane.specs.Plane.{PlanePoint, TestPoint}
use Rattle.theory_plane.specs.Crossing.{count}
use Rattle.theory_windows.specs.Outlines.{Polygon}

-- a polygon counts the same from whichever vertex its list begins
abbrev pub Rotation : Signed → Type 0
Rotation S = (vs ws : Polygon S) (p : TestPoint S.ops.carrier) → count S (vs ++ ws) p ≡ count S (ws ++ vs) p

-- Of two polygons the first ends with an edge from a to b, and the second with one from b to a. The first
-- one's vertices from b to a, and then the second one's other vertices, count at each test point as both
-- together.
abbrev pub Gluing : Signed → Type 0
Gluing S =
    (a b : PlanePoint S.ops.carrier) (vs ws : Polygon S) (p : TestPoint S.ops.carrier)
    → count S ((b ∷ vs) ++ (a ∷ ws)) p ≡ count S ((b ∷ vs) ++ a ∷ []) p +ℤ count S ((a ∷ ws) ++ b ∷ []) p
