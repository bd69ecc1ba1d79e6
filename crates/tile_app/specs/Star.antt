-- What `star` prints for a vertex of a base, and what it refuses.
use Rattle.std.specs.Prelude.{◌≡◌, ℕ, ◌<◌, ◌≤◌, List, length, Some}
use Rattle.std.specs.List.{flat_map}
use Rattle.theory_walks.specs.Frames.{FrameValue, GrowsTo}
use Rattle.rule_model.specs.Tiling.{Tiling}
use Rattle.star_walk.specs.declared.star_fault.StarFault.{StarFault}
use Rattle.star_walk.specs.declared.star_fault.StarFault.TheVariants as turning
use Rattle.star_walk.specs.Causes.{HasStarCause, IsStarWithinLimits}
use Rattle.star_walk.specs.Corners.{CornerOf}
use Rattle.star_walk.specs.Round.{AreRound, AreInTurn, IsLeastForVertex}
use Rattle.tile_place.specs.Crossed.{edges_of}
use Rattle.call_notes.specs.declared.status.Status.{Status}
use Rattle.call_notes.specs.declared.status.Status.TheVariants.{NoVertex, DepthLimit, StarTooBig}
use Rattle.tile_app.specs.TileLine.{tile_line}

-- the line of a tile around the vertex: `kind turn shift address vertex`
abbrev pub corner_line : (t : Tiling) → CornerOf t → List ℕ
corner_line t c = tile_line t.order c.tile.address c.tile.motion (Some c.vertex)

-- the base has the vertex, depth 64 is enough for it, and at most 64 tiles have it there
pub record HasStar (t : Tiling) (f : FrameValue) (vertex : ℕ) : Type 0 where
  pub exists : vertex < edges_of t f.base.kind
  pub within : IsStarWithinLimits t f vertex

-- The vertex has a star. The frame has grown to the least depth, not below that of the base, at which the
-- vertex lies on no edge of the frame's polygon. The corners are exactly its tiles that have the vertex, each
-- exactly once, with their motions in the base's frame and the number of the vertex there. They are in
-- turning order from the base: each is across the edge of the one before that ends at the vertex, and the
-- base is across that of the last. The text has their lines.
pub record PrintsStar (t : Tiling) (f : FrameValue) (vertex : ℕ) (text : List ℕ) : Type 0 where
  pub has : HasStar t f vertex
  pub frame : FrameValue
  pub grown : GrowsTo t f frame
  pub least : IsLeastForVertex t f vertex (length frame.digits)
  pub corners : List (CornerOf t)
  pub round : AreRound t frame vertex corners
  pub in_turn : AreInTurn t frame vertex corners
  pub is_text : text ≡ flat_map (corner_line t) corners

-- the base has so many edges, and as many vertices, and not this one
pub record HasNoVertex (t : Tiling) (f : FrameValue) (vertex edges : ℕ) : Type 0 where
  pub count : edges ≡ edges_of t f.base.kind
  pub beyond : edges ≤ vertex

-- the base has the vertex, and depth 64 is not enough for it, or more than 64 tiles have it there
pub record PassesStarLimits (t : Tiling) (f : FrameValue) (vertex : ℕ) : Type 0 where
  pub exists : vertex < edges_of t f.base.kind
  pub beyond : IsStarWithinLimits t f vertex → ⊥

-- the vertex is beyond these limits, and the turn ends for this cause, in the frame as it had grown by then
pub record EndsTurning (t : Tiling) (f : FrameValue) (vertex : ℕ) (fault : StarFault) : Type 0 where
  pub passes : PassesStarLimits t f vertex
  pub frame : FrameValue
  pub grown : GrowsTo t f frame
  pub cause : HasStarCause t frame vertex fault

-- the cause of each refusal
abbrev pub StarRefuses : Tiling → FrameValue → ℕ → Status → Type 0
StarRefuses t f own (NoVertex vertex edges) = (vertex ≡ own) × HasNoVertex t f own edges
StarRefuses t f own (DepthLimit addr edge) = EndsTurning t f own (turning.DepthLimit addr edge)
StarRefuses t f own StarTooBig = EndsTurning t f own turning.TooBig
StarRefuses t f own _ = ⊥
