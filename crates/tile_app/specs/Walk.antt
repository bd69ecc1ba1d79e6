-- What `walk` prints for a path in a frame, and what it refuses.
use Rattle.std.specs.Prelude.{◌≡◌, ℕ, ◌<◌, ◌≤◌, max, List, [], ◌∷◌, ◌++◌, None, Some}
use Rattle.std.specs.declared.option.Option.{Option}
use Rattle.theory_addresses.specs.Address.{Address, depth}
use Rattle.cyclo_points.specs.Order.{points_of}
use Rattle.theory_frames.specs.Frame.{StandsInFrame}
use Rattle.theory_walks.specs.Frames.{FrameValue, whole, at_depth}
use Rattle.theory_walks.specs.Paths.{CanBeWalked, IsStopped, IsStoppedAt, LacksEdge}
use Rattle.rule_model.specs.Tiling.{Tiling, MotionOf}
use Rattle.tile_place.specs.Crossed.{IsOnlyAcross}
use Rattle.tile_shape.specs.Views.{address_of}
use Rattle.call_notes.specs.declared.status.Status.{Status}
use Rattle.call_notes.specs.declared.status.Status.TheVariants.{NoEdge, DepthLimit}
use Rattle.tile_app.specs.TileLine.{tile_line}

-- the address of the base in its frame of a depth, which names the frame's supertile
abbrev pub frame_at : Tiling → FrameValue → ℕ → Address
frame_at t f n = whole (at_depth t n f)

-- the line of a tile, with its only motion in the base's frame
pub record IsWalkLine (t : Tiling) (frame a : Address) (back : Option ℕ) (line : List ℕ) : Type 0 where
  pub motion : MotionOf t
  pub stands : StandsInFrame (points_of t.order) t.rule frame a motion
  pub is_line : line ≡ tile_line t.order a motion back

-- the lines of a path from the tile a to the tile b: for each edge, that of the only tile across it
abbrev pub AreLines : Tiling → Address → Address → List ℕ → Address → List ℕ → Type 0
AreLines t frame a [] b text = (b ≡ a) × (text ≡ [])
AreLines t frame a (e ∷ path) b text =
    (x : Address) × (back : ℕ) × (line rest : List ℕ) × IsOnlyAcross t a e x back
    × IsWalkLine t frame x (Some back) line × (text ≡ line ++ rest) × AreLines t frame x path b rest

-- the text of a walk: the line of the base, and those of the path from it
pub record IsWalkText (t : Tiling) (frame : Address) (path text : List ℕ) : Type 0 where
  pub last : Address
  pub first : List ℕ
  pub lines : List ℕ
  pub base : IsWalkLine t frame frame None first
  pub along : AreLines t frame frame path last lines
  pub is_text : text ≡ first ++ lines

-- the path can be walked from the base in its frame of depth 64
abbrev pub CanWalk : Tiling → FrameValue → List ℕ → Type 0
CanWalk t f path = CanBeWalked t (frame_at t f 64) path

-- The path can be walked, and the text is that of the walk in the frame of the least depth at which no edge
-- of the path is on the boundary. That depth is not below the depth of the base, nor the one to which the
-- frame grows first.
pub record PrintsWalk (t : Tiling) (f : FrameValue) (grow : ℕ) (path text : List ℕ) : Type 0 where
  pub walked : CanWalk t f path
  pub level : ℕ
  pub at_most_64 : level ≤ 64
  pub no_shallower : max (depth f.base) grow ≤ level
  pub least : (n : ℕ) → max (depth f.base) grow ≤ n → n < level → IsStopped t (frame_at t f n) path
  pub is_text : IsWalkText t (frame_at t f level) path text

-- The cause of each refusal. In the frame of depth 64 the path comes to a tile that does not have its next
-- edge, or to a tile whose next edge is on the boundary. No value is refused.
abbrev pub WalkRefuses : Tiling → FrameValue → List ℕ → Status → Type 0
WalkRefuses t f path (NoEdge edge edges) = LacksEdge t (frame_at t f 64) path edge edges
WalkRefuses t f path (DepthLimit addr edge) = IsStoppedAt t (frame_at t f 64) path (address_of addr) edge
WalkRefuses t f path _ = ⊥
