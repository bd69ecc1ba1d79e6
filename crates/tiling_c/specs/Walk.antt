-- The tiles of a path across edges, as plain numbers.
use Rattle.std.specs.Prelude.{◌≡◌, ◌↔◌, ◌⊎◌, ◌+◌, ◌<◌, ◌≤◌, ℕ, max, List, length, get_or}
use Rattle.theory_walks.specs.Frames.{FrameValue, GrowsTo, whole, at_depth}
use Rattle.lazy_walk.specs.declared.path_fault.PathFault.{PathFault}
use Rattle.lazy_walk.specs.declared.path_fault.PathFault.TheVariants.{NoEdge, DepthLimit}
use Rattle.theory_walks.specs.Paths.{CanBeWalked, IsStopped, LacksEdge}
use Rattle.lazy_walk.specs.Standing.{Stands}
use Rattle.rule_model.specs.Tiling.{Tiling}
use Rattle.tile_place.specs.declared.placed_tile.PlacedTile.{PlacedTile}
use Rattle.tile_place.specs.Crossed.{IsOnlyAcross}
use Rattle.tile_shape.specs.Views.{address_of}
use Rattle.c_values.specs.declared.plain_address.PlainAddress.{PlainAddress}
use Rattle.c_values.specs.declared.plain_frame.PlainFrame.{PlainFrame}
use Rattle.c_values.specs.declared.plain_tile.PlainTile.{PlainTile}
use Rattle.c_values.specs.Addresses.{address_in, NamesTile, ShowsAddress}
use Rattle.c_values.specs.Frames.{frame_in}
use Rattle.c_values.specs.Statuses.{ok, bad_words, bad_address, no_edge, depth_limit}
use Rattle.c_values.specs.Tiles.{tile_as}
use Rattle.tiling_c.specs.Arrays.{plain_tile_at, plain_address_at}

-- the most edges of a path
abbrev pub most_edges : ℕ
most_edges = 30000

-- the numbers are those of a tile in its place in the frame, with this number, and those of its address
pub record ShowsStanding (t : Tiling) (f : FrameValue) (number : ℕ) (numbers : PlainTile)
    (addr : PlainAddress) : Type 0 where
  pub tile : PlacedTile
  pub stands : Stands t f tile
  pub its_numbers : numbers ≡ tile_as tile.kind tile.motion number
  pub its_address : ShowsAddress addr (address_of tile.addr)

-- tile i + 1 is the only one across edge i of the path from tile i; its edge there is `back`, and it is in
-- its place, with that number
pub record IsReached (t : Tiling) (f : FrameValue) (path : List ℕ) (tiles : List PlainTile)
    (addrs : List PlainAddress) (i : ℕ) : Type 0 where
  pub back : ℕ
  pub across : IsOnlyAcross t (address_in (plain_address_at addrs i)) (get_or path i 0)
      (address_in (plain_address_at addrs (i + 1))) back
  pub stands : ShowsStanding t f back (plain_tile_at tiles (i + 1)) (plain_address_at addrs (i + 1))

-- the tiles of a path in a frame, the base first: each after it is the only one across its edge
pub record AreWalked (t : Tiling) (f : FrameValue) (path : List ℕ) (tiles : List PlainTile)
    (addrs : List PlainAddress) : Type 0 where
  pub base : address_in (plain_address_at addrs 0) ≡ whole f
  pub base_stands : ShowsStanding t f 0 (plain_tile_at tiles 0) (plain_address_at addrs 0)
  pub each : (i : ℕ) → i < length path → IsReached t f path tiles addrs i

-- The frame has grown from `start` to the least depth at which no edge of the path is on the boundary. The
-- depth is at least that of `start`, and at least `grow`. These are the tiles of the path there.
pub record HoldsWalk (t : Tiling) (start : FrameValue) (grow : ℕ) (path : List ℕ) (tiles : List PlainTile)
    (addrs : List PlainAddress) : Type 0 where
  pub frame : FrameValue
  pub grown : GrowsTo t start frame
  pub no_shallower : max (length start.digits) grow ≤ length frame.digits
  pub least : (n : ℕ) → max (length start.digits) grow ≤ n → n < length frame.digits
      → IsStopped t (whole (at_depth t n start)) path
  pub walked : AreWalked t frame path tiles addrs

-- the frame grows first to at most 64 levels, the path has at most 30,000 edges, and there is room for
-- exactly its tiles and their addresses
pub record AsksForWalk (grow : ℕ) (path : List ℕ) (tiles : List PlainTile)
    (addrs : List PlainAddress) : Type 0 where
  pub at_most_64 : grow ≤ 64
  pub no_longer : length path ≤ most_edges
  pub tiles_room : length tiles ≡ length path + 1
  pub addresses_room : length addrs ≡ length path + 1

-- in the frame of depth 64 the path comes to a tile without the next edge
abbrev pub HasNoEdgeAhead : Tiling → FrameValue → List ℕ → Type 0
HasNoEdgeAhead t start path = (edge edges : ℕ) × LacksEdge t (whole (at_depth t 64 start)) path edge edges

-- the status of each fault
abbrev pub code_of_path : PathFault → ℕ
code_of_path (NoEdge edge edges) = no_edge
code_of_path (DepthLimit limit) = depth_limit

-- the frame has grown from `start` to the least depth at which the path can be walked
pub record GrowsAlong (t : Tiling) (start : FrameValue) (path : List ℕ) (frame : FrameValue) : Type 0 where
  pub grown : GrowsTo t start frame
  pub least : (n : ℕ) → length start.digits ≤ n → n < length frame.digits
      → IsStopped t (whole (at_depth t n start)) path
  pub walked : CanBeWalked t (whole frame) path
  pub walked_at_64 : CanBeWalked t (whole (at_depth t 64 start)) path

-- at depth 64 the path can't be walked, for a cause, and this is its status
pub record StopsAlong (t : Tiling) (start : FrameValue) (path : List ℕ) (status : ℕ) : Type 0 where
  pub lacks_edge : status ≡ no_edge → HasNoEdgeAhead t start path
  pub stopped : status ≡ depth_limit → IsStopped t (whole (at_depth t 64 start)) path
  pub statuses : (status ≡ no_edge) ⊎ (status ≡ depth_limit)

-- the frame has grown from `start` to the least depth, at least `grow`, at which the path can be walked
pub record IsGrownFor (t : Tiling) (start : FrameValue) (grow : ℕ) (path : List ℕ)
    (frame : FrameValue) : Type 0 where
  pub grown : GrowsTo t start frame
  pub no_shallower : max (length start.digits) grow ≤ length frame.digits
  pub least : (n : ℕ) → max (length start.digits) grow ≤ n → n < length frame.digits
      → IsStopped t (whole (at_depth t n start)) path
  pub walked : CanBeWalked t (whole frame) path
  pub walked_at_64 : CanBeWalked t (whole (at_depth t 64 start)) path

-- the numbers give a frame, and grown so it is this one
pub record GivesFrame (t : Tiling) (frame : PlainFrame) (grow : ℕ) (path : List ℕ)
    (grown_frame : FrameValue) : Type 0 where
  pub named : NamesTile t frame.base
  pub grown : IsGrownFor t (frame_in frame) grow path grown_frame

-- they give a frame, and the path can't be walked
pub record StopsWalk (t : Tiling) (frame : PlainFrame) (path : List ℕ) (status : ℕ) : Type 0 where
  pub named : NamesTile t frame.base
  pub stopped : StopsAlong t (frame_in frame) path status

-- they give no frame, or the path can't be walked
abbrev pub RefusesFrame : Tiling → PlainFrame → List ℕ → ℕ → Type 0
RefusesFrame t frame path status = ((status ≡ bad_address) × (¬ NamesTile t frame.base))
    ⊎ StopsWalk t frame path status

-- What a call shows of a frame and a path: the tiles of the path in the caller's arrays, or the status of a
-- refusal.
pub record ShowsWalk (t : Tiling) (frame : PlainFrame) (grow : ℕ) (path : List ℕ)
    (tiles new_tiles : List PlainTile) (addrs new_addrs : List PlainAddress) (status : ℕ) : Type 0 where
  -- in the plane: each tile after the base is the only one across its edge, and is in its place in the frame
  -- of the base
  pub walk : status ≡ ok → HoldsWalk t (frame_in frame) grow path new_tiles new_addrs
  -- Each answer comes only for its cause. At depth 64 the path can be walked, or it comes to a tile without
  -- the next edge, or to one whose next edge is on the boundary.
  pub walked : status ≡ ok → CanBeWalked t (whole (at_depth t 64 (frame_in frame))) path
  pub lacks_edge : status ≡ no_edge → HasNoEdgeAhead t (frame_in frame) path
  pub stopped : status ≡ depth_limit → IsStopped t (whole (at_depth t 64 (frame_in frame))) path
  pub not_asked : (status ≡ bad_words) ↔ (¬ AsksForWalk grow path tiles addrs)
  pub names_none : (status ≡ bad_address) ↔ (AsksForWalk grow path tiles addrs × (¬ NamesTile t frame.base))
  pub statuses : (status ≡ ok) ⊎ (status ≡ bad_words) ⊎ (status ≡ bad_address) ⊎ (status ≡ no_edge)
      ⊎ (status ≡ depth_limit)
