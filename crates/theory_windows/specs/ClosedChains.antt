-- The law of closed chains: the winding number of a closed chain of edges is constant on an open box that the
-- edges avoid.
use Rattle.std.specs.Prelude.{◌≡◌, ℤ, List, IsTrue}
use Rattle.std.specs.List.{flat_map, AllByRecursion}
use Rattle.theory_ring.specs.Sign.{Signed}
use Rattle.theory_plane.specs.Plane.{TestPoint, IsTestPoint}
use Rattle.theory_plane.specs.Crossing.{count}
use Rattle.theory_plane.specs.Box.{OpenBox, in_box}
use Rattle.theory_dissection.specs.Sums.{sum_over, number_of}
use Rattle.theory_windows.specs.Outlines.{Polygon, edges, MeetsBox, is_reverse}

-- the sum of the counts of polygons
abbrev pub total_count : (S : Signed) → List (Polygon S) → TestPoint S.ops.carrier → ℤ
total_count S polygons p = sum_over (λ polygon. count S polygon p) polygons

-- a polygon's count is constant on an open box that its edges avoid
abbrev pub ClosedChain : Signed → Type 0
ClosedChain S =
    (box : OpenBox S.ops.carrier) (polygon : Polygon S)
    → AllByRecursion (λ e. ¬ MeetsBox S box e) (edges polygon)
    → (p q : TestPoint S.ops.carrier) → IsTestPoint S p → IsTestPoint S q → IsTrue (in_box S box p)
    → IsTrue (in_box S box q)
    → count S polygon p ≡ count S polygon q

-- The same holds for the sum over polygons, if those of their edges that meet the box cancel in pairs:
-- exactly one edge is the reverse of each.
abbrev pub ClosedChains : Signed → Type 0
ClosedChains S =
    (box : OpenBox S.ops.carrier) (polygons : List (Polygon S))
    → AllByRecursion (λ e. MeetsBox S box e → number_of (is_reverse S e) (flat_map edges polygons) ≡ 1)
    (flat_map edges polygons)
    → (p q : TestPoint S.ops.carrier) → IsTestPoint S p → IsTestPoint S q → IsTrue (in_box S box p)
    → IsTrue (in_box S box q)
    → total_count S polygons p ≡ total_count S polygons q
