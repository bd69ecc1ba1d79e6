-- The result of the turn in a patch that grows: the tiles around the point at the least enough depth. And
-- what its refusals mean.
use Rattle.std.specs.Prelude.{◌≡◌, ◌↔◌, ℕ, ◌≤◌, max, List, [], ◌∷◌, ◌++◌, length, slice_get, Some}
use Rattle.std.specs.List.{AllByRecursion}
use Rattle.theory_ring.specs.Sign.{Signed}
use Rattle.theory_plane.specs.Plane.{PlanePoint}
use Rattle.theory_addresses.specs.Search.{IsAmong}
use Rattle.theory_windows.specs.Distinct.{AreDistinct}
use Rattle.theory_windows.specs.Outlines.{PlaneEdge, edges}
use Rattle.theory_windows.specs.GrowingPatch.{GrowingPatch, IsInner}
use Rattle.theory_stars.specs.Corners.{Corner, IsCornerAt, edge_into, IsNext, Turns, last_corner, IsTurn, corner_tiles}
use Rattle.theory_stars.specs.Round.{IsSimplyDissected}
use Rattle.theory_stars.specs.EnoughAt.{IsEnoughAt, IsLeastEnoughAt}

-- a corner with vertex v, of a tile of the patch at depth n
abbrev pub IsCornerOfDepth : (S : Signed) (T : Type 0) → GrowingPatch S T → PlanePoint S.ops.carrier → ℕ
    → Corner T → Type 0
IsCornerOfDepth S T F v n c = IsCornerAt S T F.patch v c × (F.level c.tile ≤ n)

-- the greatest of m and the levels of the corners' tiles: the depth to which the turn makes a patch of depth
-- m grow
abbrev pub deepest : (S : Signed) (T : Type 0) → GrowingPatch S T → ℕ → List (Corner T) → ℕ
deepest S T F m [] = m
deepest S T F m (c ∷ cs) = deepest S T F (max m (F.level c.tile)) cs

-- The result for v in a patch of depth m that is left at depth n: exactly the corners with vertex v at depth
-- n, each exactly once, and n is the least depth from m on that is enough.
pub record IsStar (S : Signed) (T : Type 0) (F : GrowingPatch S T) (v : PlanePoint S.ops.carrier) (m n : ℕ)
    (corners : List (Corner T)) : Type 0 where
  pub each_once : AreDistinct (corner_tiles corners)
  pub exactly : (c : Corner T) → IsCornerOfDepth S T F v n c ↔ IsAmong c corners
  pub least : IsLeastEnoughAt S T F v m n

-- a turn that comes back is the star
abbrev pub StarAnswers : Signed → Type 0 → Type 0
StarAnswers S T =
    (F : GrowingPatch S T) → IsSimplyDissected S T F.patch
    → (v : PlanePoint S.ops.carrier) (m : ℕ) (base : Corner T) → IsCornerOfDepth S T F v m base
    → (others : List (Corner T)) → IsTurn S T F.patch base others
    → IsStar S T F v m (deepest S T F m others) (base ∷ others)

-- if depth k is enough, each corner reached is of depth k, and there is one after the last
abbrev pub StarGoesOn : Signed → Type 0 → Type 0
StarGoesOn S T =
    (F : GrowingPatch S T) → IsSimplyDissected S T F.patch → (v : PlanePoint S.ops.carrier) (m k : ℕ) → m ≤ k
    → IsEnoughAt S T F v k
    → (base : Corner T) → IsCornerOfDepth S T F v m base → (others : List (Corner T))
    → Turns S T F.patch base others
    → (deepest S T F m others ≤ k)
    × ((d : Corner T) × IsNext S T F.patch (last_corner base others) d × (F.level d.tile ≤ k))

-- if the edge that ends at v of a tile of depth n is on the boundary there, the depth n is not enough
abbrev pub DepthCause : Signed → Type 0 → Type 0
DepthCause S T =
    (F : GrowingPatch S T) (v : PlanePoint S.ops.carrier) (n : ℕ) (c : Corner T) → IsCornerOfDepth S T F v n c
    → (e : PlaneEdge S) → slice_get (edges (F.patch.outline c.tile))
    (edge_into (length (F.patch.outline c.tile)) c.vertex) ≡ Some e
    → ¬ IsInner S T F n e → ¬ IsEnoughAt S T F v n

-- A turn that has not come back, and one corner more that is not the base. Then that many distinct tiles have
-- v as a vertex.
abbrev pub CountCause : Signed → Type 0 → Type 0
CountCause S T =
    (F : GrowingPatch S T) → IsSimplyDissected S T F.patch → (v : PlanePoint S.ops.carrier) (base : Corner T)
    → IsCornerAt S T F.patch v base
    → (others : List (Corner T)) → Turns S T F.patch base others → ¬ IsAmong base others → (d : Corner T)
    → IsNext S T F.patch (last_corner base others) d → ¬ (d ≡ base)
    → AreDistinct (corner_tiles (base ∷ others ++ d ∷ []))
    × AllByRecursion (IsCornerAt S T F.patch v) (base ∷ others ++ d ∷ [])

-- at most this number of distinct tiles have v as a vertex
abbrev pub HasAtMost : (S : Signed) (T : Type 0) → GrowingPatch S T → PlanePoint S.ops.carrier → ℕ → Type 0
HasAtMost S T F v most = (cs : List (Corner T)) → AreDistinct (corner_tiles cs)
    → AllByRecursion (IsCornerAt S T F.patch v) cs → length cs ≤ most

-- if some depth is enough, and at most this number of tiles have v as a vertex, the turn comes back, and has
-- no more corners
abbrev pub StarEnds : Signed → Type 0 → Type 0
StarEnds S T =
    (F : GrowingPatch S T) → IsSimplyDissected S T F.patch → (v : PlanePoint S.ops.carrier) (m k most : ℕ)
    → m ≤ k → IsEnoughAt S T F v k → HasAtMost S T F v most
    → (base : Corner T) → IsCornerOfDepth S T F v m base
    → (others : List (Corner T)) × IsTurn S T F.patch base others × (length (base ∷ others) ≤ most)

-- If the turn comes back, each depth from the one to which it has led is enough, and no more tiles than it
-- has visited have v as a vertex.
abbrev pub StarIsWhole : Signed → Type 0 → Type 0
StarIsWhole S T =
    (F : GrowingPatch S T) → IsSimplyDissected S T F.patch
    → (v : PlanePoint S.ops.carrier) (m : ℕ) (base : Corner T) → IsCornerOfDepth S T F v m base
    → (others : List (Corner T)) → IsTurn S T F.patch base others
    → ((k : ℕ) → deepest S T F m others ≤ k → IsEnoughAt S T F v k)
    × HasAtMost S T F v (length (base ∷ others))
