-- Whole tiles, each of one or more tiles of a patch, cover a window if those tiles do.
use Rattle.std.specs.Prelude.{◌≡◌, List, IsTrue}
use Rattle.std.specs.List.{flat_map, AllByRecursion}
use Rattle.theory_ring.specs.Sign.{Signed}
use Rattle.theory_plane.specs.Plane.{TestPoint, IsTestPoint}
use Rattle.theory_plane.specs.Crossing.{count, member}
use Rattle.theory_plane.specs.Box.{OpenBox, in_box}
use Rattle.theory_addresses.specs.Search.{IsAmong}
use Rattle.theory_dissection.specs.Sums.{sum_over, number_of}
use Rattle.theory_windows.specs.Distinct.{AreDistinct}
use Rattle.theory_windows.specs.Outlines.{Polygon}
use Rattle.theory_windows.specs.Patch.{Patch, IsDissected, Covers}

-- its parts, and its outline
pub record WholeTile (S : Signed) (T : Type 0) : Type 0 where
  pub parts : List T
  pub outline : Polygon S

-- each outline counts as its parts together, no tile is a part twice, and each tile found is a part
pub record CountAsTheirParts (S : Signed) (T : Type 0) (P : Patch S T) (found : List T)
    (wholes : List (WholeTile S T)) : Type 0 where
  pub of_patch : AllByRecursion (λ t. IsAmong t P.tiles) (flat_map (λ w. w.parts) wholes)
  pub counts : AllByRecursion
      (λ w. (p : TestPoint S.ops.carrier)
      → count S w.outline p ≡ sum_over (λ t. count S (P.outline t) p) w.parts) wholes
  pub once : AreDistinct (flat_map (λ w. w.parts) wholes)
  pub all : AllByRecursion (λ t. IsAmong t (flat_map (λ w. w.parts) wholes)) found

-- each test point in the box belongs to exactly one whole tile
abbrev pub WholesCoverBox : (S : Signed) → Type 0 → Type 0
WholesCoverBox S T =
    (P : Patch S T) → IsDissected S T P → (box : OpenBox S.ops.carrier) (found : List T)
    → Covers S T P box found
    → (wholes : List (WholeTile S T)) → CountAsTheirParts S T P found wholes
    → (p : TestPoint S.ops.carrier) → IsTestPoint S p → IsTrue (in_box S box p)
    → number_of (λ w. member S w.outline p) wholes ≡ 1
