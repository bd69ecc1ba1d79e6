-- A patch that grows: at each further depth more of its tiles are there.
use Rattle.std.specs.Prelude.{ℕ, ◌≤◌, Bool, IsTrue}
use Rattle.theory_ring.specs.Sign.{Signed}
use Rattle.theory_addresses.specs.Search.{IsAmong}
use Rattle.theory_windows.specs.Outlines.{PlaneEdge, edges, is_reverse}
use Rattle.theory_windows.specs.Patch.{Patch}

-- the tiles at the greatest depth by their names T, the least depth at which each is there, and whether its
-- shift is refused
pub record GrowingPatch (S : Signed) (T : Type 0) : Type 0 where
  pub patch : Patch S T
  pub level : T → ℕ
  pub refused : T → Bool

-- t is a tile of the patch at depth n
abbrev pub IsOfDepth : (S : Signed) (T : Type 0) → GrowingPatch S T → ℕ → T → Type 0
IsOfDepth S T F n t = IsAmong t F.patch.tiles × (F.level t ≤ n)

-- a tile of the patch at depth n has the reverse of e as an edge, so e is not on the boundary at that depth
abbrev pub IsInner : (S : Signed) (T : Type 0) → GrowingPatch S T → ℕ → PlaneEdge S → Type 0
IsInner S T F n e = (u : T) × (f : PlaneEdge S) × IsOfDepth S T F n u × IsAmong f (edges (F.patch.outline u))
    × IsTrue (is_reverse S e f)
