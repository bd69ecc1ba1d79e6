-- The tiles around a vertex of the base, their turning order, and the least depth that is enough for the
-- vertex.
use Rattle.std.specs.Prelude.{◌≡◌, ℕ, ◌^◌, List, ◌∷◌, All, length}
use Rattle.cyclo_points.specs.Order.{NumberOf, points_of}
use Rattle.cyclo_points.specs.Point.{IsWithin}
use Rattle.theory_substitution.specs.Supertile.{Placed}
use Rattle.theory_windows.specs.FramePatch.{frame_patch}
use Rattle.rule_model.specs.Tiling.{Tiling}
use Rattle.theory_walks.specs.Ancestors.{full}
use Rattle.theory_walks.specs.Frames.{FrameValue, whole}
use Rattle.theory_stars.specs.Corners.{IsTurn}
use Rattle.theory_stars.specs.OnPolygon.{IsOffFrame, IsLeastOff}
use Rattle.theory_stars.specs.Round.{IsRound}
use Rattle.lazy_walk.specs.Standing.{Stands}
use Rattle.star_walk.specs.declared.corner.Corner.{Corner}
use Rattle.star_walk.specs.Corners.{CornerOf, vertex_of_base}

-- these are exactly the tiles of the frame, at its own depth, that have vertex i of the base as a vertex,
-- each exactly once and with the vertex's number there
abbrev pub AreRound : (t : Tiling) → FrameValue → ℕ → List (CornerOf t) → Type 0
AreRound t f i corners =
    IsRound (points_of t.order).real (Placed (NumberOf t.order))
    (frame_patch (points_of t.order) t.rule (whole f)) (vertex_of_base t f i) corners

-- The first is the base with its vertex i. Each further one lies across the edge of the previous one that
-- ends at the vertex. The base lies across that edge of the last one, for the first time.
pub record AreInTurn (t : Tiling) (f : FrameValue) (i : ℕ) (corners : List (CornerOf t)) : Type 0 where
  pub base : CornerOf t
  pub others : List (CornerOf t)
  pub are : corners ≡ base ∷ others
  pub base_named : base.tile.address ≡ whole f
  pub base_vertex : base.vertex ≡ i
  pub turn : IsTurn (points_of t.order).real (Placed (NumberOf t.order))
      (frame_patch (points_of t.order) t.rule (whole f)) base others

-- each corner is of a tile in its place in the frame, and no coefficient of its shift is above 2^24
pub record AreInPlace (t : Tiling) (f : FrameValue) (corners : List Corner) : Type 0 where
  pub stand : All (λ (c : Corner). Stands t f c.tile) corners
  pub shifts_within : All (λ (c : Corner). IsWithin (2 ^ 24) c.tile.motion.shift) corners

-- vertex i of the base is on no edge of the frame's polygon at depth n, which is at most 64
abbrev pub IsEnoughForVertex : Tiling → FrameValue → ℕ → ℕ → Type 0
IsEnoughForVertex t f i n = IsOffFrame (points_of t.order) t.rule (full t f) (vertex_of_base t f i) n

-- n is the least such depth, from that of the frame to 64
abbrev pub IsLeastForVertex : Tiling → FrameValue → ℕ → ℕ → Type 0
IsLeastForVertex t f i n =
    IsLeastOff (points_of t.order) t.rule (full t f) (vertex_of_base t f i) (length f.digits) n
