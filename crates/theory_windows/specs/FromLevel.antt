-- The one tile across an edge; and from which depth of a growing patch on an edge is inner, and a point held.
use Rattle.std.specs.Prelude.{◌≡◌, ◌↔◌, ℕ, ◌≤◌, IsTrue}
use Rattle.theory_ring.specs.Sign.{Signed}
use Rattle.theory_plane.specs.Plane.{TestPoint, IsTestPoint}
use Rattle.theory_plane.specs.Crossing.{member}
use Rattle.theory_addresses.specs.Search.{IsAmong}
use Rattle.theory_windows.specs.Patch.{IsDissected}
use Rattle.theory_windows.specs.GrowingPatch.{GrowingPatch, IsOfDepth, IsInner}
use Rattle.theory_windows.specs.Outlines.{PlaneEdge}
use Rattle.theory_windows.specs.PatchWindow.{LiesAcross}

-- one tile alone lies across an edge
abbrev pub OneAcross : Signed → Type 0 → Type 0
OneAcross S T = (F : GrowingPatch S T) → IsDissected S T F.patch → (e : PlaneEdge S) (u v : T)
    → LiesAcross S T F e u → LiesAcross S T F e v → u ≡ v

-- an edge is inner exactly from the level of the tile across it on
abbrev pub InnerFromLevel : Signed → Type 0 → Type 0
InnerFromLevel S T =
    (F : GrowingPatch S T) → IsDissected S T F.patch → (e : PlaneEdge S) (u : T) → LiesAcross S T F e u
    → (n : ℕ) → IsInner S T F n e ↔ (F.level u ≤ n)

-- a test point is held exactly from the level of the tile that holds it on
abbrev pub HeldFromLevel : Signed → Type 0 → Type 0
HeldFromLevel S T =
    (F : GrowingPatch S T) → IsDissected S T F.patch → (t : T) → IsAmong t F.patch.tiles
    → (p : TestPoint S.ops.carrier) → IsTestPoint S p → IsTrue (member S (F.patch.outline t) p) → (n : ℕ)
    → ((u : T) × IsOfDepth S T F n u × IsTrue (member S (F.patch.outline u) p)) ↔ (F.level t ≤ n)
