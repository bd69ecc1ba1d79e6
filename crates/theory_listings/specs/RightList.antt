-- Right lists of lines, and what a walk finds of them.
use Rattle.std.specs.Prelude.{◌≡◌, ℕ, false, List}
use Rattle.std.specs.List.{AllByRecursion}
use Rattle.theory_ring.specs.Sign.{Signed}
use Rattle.theory_plane.specs.Box.{OpenBox}
use Rattle.theory_windows.specs.Meeting.{PolygonMeetsBox}
use Rattle.theory_windows.specs.GrowingPatch.{GrowingPatch, IsOfDepth}
use Rattle.theory_windows.specs.EnoughDepth.{AreDrawnAtDepth, IsLeastEnough}
use Rattle.theory_listings.specs.Lines.{ListLine, named_tiles, deepest_line, IsFirstLine, IsListed}

-- the lines' tiles are those drawn at the least depth that is enough and not below m or a listed one; and
-- each line has its tile's motion
pub record IsRightList (S : Signed) (T M : Type 0) (F : GrowingPatch S T) (box : OpenBox S.ops.carrier)
    (motion_of : T → M) (m : ℕ) (lines : List (ListLine T M)) : Type 0 where
  pub depth : ℕ
  pub least : IsLeastEnough S T F box (deepest_line m lines) depth
  pub drawn : AreDrawnAtDepth S T F box depth (named_tiles lines)
  pub placed : AllByRecursion (λ l. l.motion ≡ motion_of l.tile) lines

-- no tile that a line names is refused
abbrev pub AreNoneRefused : (S : Signed) (T M : Type 0) → GrowingPatch S T → List (ListLine T M) → Type 0
AreNoneRefused S T M F lines = AllByRecursion (λ t. F.refused t ≡ false) (named_tiles lines)

-- some depth is enough, and at the least one each tile that meets the window has a line with its motion, and
-- is not refused
pub record IsAllListed (S : Signed) (T M : Type 0) (F : GrowingPatch S T) (box : OpenBox S.ops.carrier)
    (motion_of : T → M) (m : ℕ) (lines : List (ListLine T M)) : Type 0 where
  pub depth : ℕ
  pub least : IsLeastEnough S T F box (deepest_line m lines) depth
  pub each_listed : (t : T) → IsOfDepth S T F depth t → PolygonMeetsBox S box (F.patch.outline t)
      → IsListed motion_of lines t
  pub none_refused : (t : T) → IsOfDepth S T F depth t → PolygonMeetsBox S box (F.patch.outline t)
      → F.refused t ≡ false

-- this holds, and line i is the first whose tile does not meet the window
pub record IsStrayLine (S : Signed) (T M : Type 0) (F : GrowingPatch S T) (box : OpenBox S.ops.carrier)
    (motion_of : T → M) (m : ℕ) (lines : List (ListLine T M)) (i : ℕ) : Type 0 where
  pub all_listed : IsAllListed S T M F box motion_of m lines
  pub first : IsFirstLine (λ l. ¬ PolygonMeetsBox S box (F.patch.outline l.tile)) lines i
