-- The tiles around a vertex, as plain numbers.
use Rattle.std.specs.Prelude.{◌≡◌, ◌↔◌, ◌⊎◌, ◌<◌, ◌≤◌, ℕ, List, length, map, take, drop, All}
use Rattle.c_values.specs.declared.plain_address.PlainAddress.{PlainAddress}
use Rattle.theory_addresses.specs.Address as theory
use Rattle.theory_walks.specs.Frames.{FrameValue, GrowsTo}
use Rattle.lazy_walk.specs.Standing.{Stands}
use Rattle.rule_model.specs.Tiling.{Tiling}
use Rattle.star_walk.specs.declared.corner.Corner.{Corner}
use Rattle.star_walk.specs.declared.star_fault.StarFault.{StarFault}
use Rattle.star_walk.specs.declared.star_fault.StarFault.TheVariants.{DepthLimit, TooBig}
use Rattle.star_walk.specs.Causes.{HasStarCause, IsStarWithinLimits}
use Rattle.star_walk.specs.Corners.{corner_in}
use Rattle.star_walk.specs.Round.{AreRound, AreInTurn, IsLeastForVertex}
use Rattle.tile_place.specs.Crossed.{edges_of}
use Rattle.tile_shape.specs.Views.{address_of}
use Rattle.c_values.specs.declared.plain_frame.PlainFrame.{PlainFrame}
use Rattle.c_values.specs.declared.plain_tile.PlainTile.{PlainTile}
use Rattle.c_values.specs.declared.plain_vertex_star.PlainVertexStar.{PlainVertexStar}
use Rattle.c_values.specs.Addresses.{address_in, NamesTile}
use Rattle.c_values.specs.Frames.{frame_in}
use Rattle.c_values.specs.Statuses.{ok, bad_address, no_vertex, depth_limit, star_too_big}
use Rattle.c_values.specs.Tiles.{tile_as}

-- a tile with the number of its vertex, as plain numbers, and its address
abbrev pub corner_shown : Corner → PlainTile
corner_shown c = tile_as c.tile.kind c.tile.motion c.vertex

abbrev pub corner_address : Corner → theory.Address
corner_address c = address_of c.tile.addr

-- The numbers are those of these tiles, in their order. The entries after them are unchanged.
pub record HoldsCorners (corners : List Corner) (old new : PlainVertexStar) : Type 0 where
  pub count : new.count ≡ length corners
  pub tiles : take new.count new.tiles ≡ map corner_shown corners
  pub addresses : map address_in (take new.count new.addrs) ≡ map corner_address corners
  pub no_deeper : All (λ (p : PlainAddress). p.depth ≤ 64) (take new.count new.addrs)
  pub tiles_behind : drop new.count new.tiles ≡ drop new.count old.tiles
  pub addresses_behind : drop new.count new.addrs ≡ drop new.count old.addrs

-- The frame has grown from `start` to the least depth at which the vertex of its base lies on no edge of its
-- polygon. These are exactly its tiles that have the vertex. Each comes once, with its motion in the base's
-- frame and with its own number for the vertex. They are in turning order from the base.
pub record IsVertexStar (t : Tiling) (start : FrameValue) (vertex : ℕ) (corners : List Corner) : Type 0 where
  pub frame : FrameValue
  pub grown : GrowsTo t start frame
  pub least : IsLeastForVertex t start vertex (length frame.digits)
  pub stand : All (λ (c : Corner). Stands t frame c.tile) corners
  pub round : AreRound t frame vertex (map (corner_in t.order) corners)
  pub in_turn : AreInTurn t frame vertex (map (corner_in t.order) corners)

-- their numbers are there
pub record HoldsStar (t : Tiling) (start : FrameValue) (vertex : ℕ) (old new : PlainVertexStar) : Type 0 where
  pub corners : List Corner
  pub star : IsVertexStar t start vertex corners
  pub held : HoldsCorners corners old new

-- the status of each fault
abbrev pub code_of_star : StarFault → ℕ
code_of_star (DepthLimit addr edge) = depth_limit
code_of_star TooBig = star_too_big

-- the search around the vertex ended for a cause, in the frame as it had grown then, and this is its status
pub record EndsTurn (t : Tiling) (start : FrameValue) (vertex : ℕ) (status : ℕ) : Type 0 where
  pub frame : FrameValue
  pub grown : GrowsTo t start frame
  pub fault : StarFault
  pub cause : HasStarCause t frame vertex fault
  pub is_status : status ≡ code_of_star fault

-- this is the star of the vertex, which is within the limits
pub record FindsStar (t : Tiling) (start : FrameValue) (vertex : ℕ) (corners : List Corner) : Type 0 where
  pub star : IsVertexStar t start vertex corners
  pub within : IsStarWithinLimits t start vertex

-- the search ended, which it does only beyond the limits
pub record EndsStar (t : Tiling) (start : FrameValue) (vertex : ℕ) (status : ℕ) : Type 0 where
  pub ended : EndsTurn t start vertex status
  pub beyond : ¬ IsStarWithinLimits t start vertex

-- the numbers give a frame whose base has the vertex, and this is its star
pub record GivesStar (t : Tiling) (frame : PlainFrame) (vertex : ℕ) (corners : List Corner) : Type 0 where
  pub named : NamesTile t frame.base
  pub exists : vertex < edges_of t frame.base.kind
  pub found : FindsStar t (frame_in frame) vertex corners

-- they give one, and the search ended
pub record StopsStar (t : Tiling) (frame : PlainFrame) (vertex : ℕ) (status : ℕ) : Type 0 where
  pub named : NamesTile t frame.base
  pub exists : vertex < edges_of t frame.base.kind
  pub stopped : EndsStar t (frame_in frame) vertex status

-- they give no frame, its base lacks the vertex, or the search ended
abbrev pub RefusesStar : Tiling → PlainFrame → ℕ → ℕ → Type 0
RefusesStar t frame vertex status = ((status ≡ bad_address) × (¬ NamesTile t frame.base))
    ⊎ ((status ≡ no_vertex) × NamesTile t frame.base × (edges_of t frame.base.kind ≤ vertex))
    ⊎ StopsStar t frame vertex status

-- what a call shows of a frame and a vertex of its base: the star, or the status of a refusal
pub record ShowsStar (t : Tiling) (frame : PlainFrame) (vertex : ℕ) (old new : PlainVertexStar)
    (status : ℕ) : Type 0 where
  -- in the plane: exactly the tiles of the frame that have the vertex, each exactly once, in turning order
  pub star : status ≡ ok → HoldsStar t (frame_in frame) vertex old new
  -- the call succeeds exactly within the limits, and each refusal comes only for its cause
  pub within : status ≡ ok → IsStarWithinLimits t (frame_in frame) vertex
  pub answered : NamesTile t frame.base → vertex < edges_of t frame.base.kind
      → IsStarWithinLimits t (frame_in frame) vertex → status ≡ ok
  pub names_none : (status ≡ bad_address) ↔ (¬ NamesTile t frame.base)
  pub lacks_vertex : (status ≡ no_vertex) ↔ (NamesTile t frame.base × (edges_of t frame.base.kind ≤ vertex))
  pub ended : (status ≡ depth_limit) ⊎ (status ≡ star_too_big) → EndsTurn t (frame_in frame) vertex status
  pub statuses : (status ≡ ok) ⊎ (status ≡ bad_address) ⊎ (status ≡ no_vertex) ⊎ (status ≡ depth_limit)
      ⊎ (status ≡ star_too_big)
