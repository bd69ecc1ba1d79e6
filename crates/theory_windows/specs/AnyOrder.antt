-- The tiles drawn are determined up to their order.
use Rattle.std.specs.Prelude.{◌↔◌, ℕ, List}
use Rattle.std.specs.List.{AllByRecursion}
use Rattle.theory_ring.specs.Sign.{Signed}
use Rattle.theory_plane.specs.Box.{OpenBox}
use Rattle.theory_addresses.specs.Search.{IsAmong}
use Rattle.theory_windows.specs.Distinct.{AreDistinct}
use Rattle.theory_windows.specs.Patch.{Patch, IsDissected, Covers}
use Rattle.theory_windows.specs.GrowingPatch.{GrowingPatch}
use Rattle.theory_windows.specs.EnoughDepth.{AreDrawnAtDepth}

-- both lists have the same members
abbrev pub HaveSameMembers : {T : Type 0} → List T → List T → Type 0
HaveSameMembers {T} xs ys = (t : T) → IsAmong t xs ↔ IsAmong t ys

-- what is drawn at one depth has the same members
abbrev pub DrawnSame : Signed → Type 0 → Type 0
DrawnSame S T =
    (F : GrowingPatch S T) (box : OpenBox S.ops.carrier) (n : ℕ) (xs ys : List T)
    → AreDrawnAtDepth S T F box n xs → AreDrawnAtDepth S T F box n ys → HaveSameMembers xs ys

-- and in any order it is drawn, and covers what it covers
abbrev pub DrawnAnyOrder : Signed → Type 0 → Type 0
DrawnAnyOrder S T =
    (F : GrowingPatch S T) (box : OpenBox S.ops.carrier) (n : ℕ) (xs ys : List T)
    → AreDrawnAtDepth S T F box n xs → AreDistinct ys → HaveSameMembers xs ys
    → AreDrawnAtDepth S T F box n ys

abbrev pub CoversAnyOrder : Signed → Type 0 → Type 0
CoversAnyOrder S T =
    (P : Patch S T) → IsDissected S T P → (box : OpenBox S.ops.carrier) (xs ys : List T)
    → AllByRecursion (λ t. IsAmong t P.tiles) xs → AreDistinct ys
    → HaveSameMembers xs ys → Covers S T P box xs → Covers S T P box ys
