-- The lines of a listing, by the tiles of a patch that they name.
use Rattle.std.specs.Prelude.{◌≡◌, ℕ, ◌<◌, max, List, [], ◌∷◌, map, slice_get, Some}
use Rattle.std.specs.List.{AllByRecursion}
use Rattle.theory_ring.specs.Sign.{Signed}
use Rattle.theory_addresses.specs.Search.{IsAmong}
use Rattle.theory_windows.specs.Distinct.{AreDistinct}
use Rattle.theory_windows.specs.GrowingPatch.{GrowingPatch, IsOfDepth}

-- the tile that a line names, the number of its digits, and the listed motion
pub record ListLine (T M : Type 0) : Type 0 where
  pub tile : T
  pub digits : ℕ
  pub motion : M

abbrev pub named_tiles : {T M : Type 0} → List (ListLine T M) → List T
named_tiles lines = map (λ l. l.tile) lines

-- the greater of a depth and the greatest listed one
abbrev pub deepest_line : {T M : Type 0} → ℕ → List (ListLine T M) → ℕ
deepest_line m [] = m
deepest_line m (l ∷ lines) = max l.digits (deepest_line m lines)

-- line number i, from 0, is l
abbrev pub IsLineAt : {L : Type 0} → List L → ℕ → L → Type 0
IsLineAt lines i l = slice_get lines i ≡ Some l

-- line number i, from 0, is the first that is so
pub record IsFirstLine {L : Type 0} (Q : L → Type 0) (lines : List L) (i : ℕ) : Type 0 where
  pub line : L
  pub is_line : IsLineAt lines i line
  pub so : Q line
  pub first : (j : ℕ) (k : L) → j < i → IsLineAt lines j k → ¬ Q k

-- each line names a tile of the patch at the depth of its digits, and no two name one
pub record AreLinesOf (S : Signed) (T M : Type 0) (F : GrowingPatch S T)
    (lines : List (ListLine T M)) : Type 0 where
  pub of_depth : AllByRecursion (λ l. IsOfDepth S T F l.digits l.tile) lines
  pub distinct : AreDistinct (named_tiles lines)

-- a line names t, with its motion
abbrev pub IsListed : {T M : Type 0} → (T → M) → List (ListLine T M) → T → Type 0
IsListed {T} {M} motion_of lines t = (l : ListLine T M) × IsAmong l lines × (l.tile ≡ t)
    × (l.motion ≡ motion_of t)
