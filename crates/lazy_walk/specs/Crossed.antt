-- Going across an edge while the frame grows.
use Rattle.std.specs.Prelude.{◌≡◌, ℕ, ◌+◌, ◌<◌, ◌≤◌, ◌^◌, length}
use Rattle.theory_addresses.specs.Across.{IsAcross}
use Rattle.theory_addresses.specs.Address.{Address, depth}
use Rattle.cyclo_points.specs.declared.motion.Motion.{Motion}
use Rattle.cyclo_points.specs.Motion.{motion_in}
use Rattle.cyclo_points.specs.Order.{points_of}
use Rattle.cyclo_points.specs.Point.{IsOf, IsWithin}
use Rattle.theory_frames.specs.Frame.{IsTileOf, lifted_in}
use Rattle.rule_model.specs.Tiling.{Tiling, MotionOf, contacts, children}
use Rattle.theory_substitution.specs.Motion.{followed}
use Rattle.tile_place.specs.declared.placed_tile.PlacedTile.{PlacedTile}
use Rattle.tile_place.specs.Crossed.{IsOnlyAcross}
use Rattle.tile_place.specs.Glued.{Glues}
use Rattle.tile_place.specs.Motions.{IsMotionOf}
use Rattle.tile_shape.specs.Views.{address_of}
use Rattle.theory_walks.specs.Boundary.{IsBoundaryEdge}
use Rattle.theory_walks.specs.Frames.{FrameValue, whole, lifted_at}
use Rattle.lazy_walk.specs.declared.depth_limit.DepthLimit.{DepthLimit}

-- The tile b is the only one across edge e of a, lifted to the frame g, by the contact tables and in the
-- plane. It is of the frame, at its depth, and its edge `back` leads back. So edge e is not on the boundary.
pub record IsCrossingIn (t : Tiling) (g : FrameValue) (a : Address) (e : ℕ) (b : Address)
    (back : ℕ) : Type 0 where
  pub across : IsAcross (contacts t) (lifted_in (whole g) a) e b back
  pub only_tile_across : IsOnlyAcross t (lifted_in (whole g) a) e b back
  pub leads_back : IsOnlyAcross t b back (lifted_in (whole g) a) e
  pub of_frame : IsTileOf (children t) (whole g) b
  pub at_depth : depth b ≡ length g.digits
  pub inside : ¬ IsBoundaryEdge t (lifted_in (whole g) a) e

-- at depth 64, to which the frame f has grown as g, this is edge e of a
pub record IsLimitAt (t : Tiling) (f g : FrameValue) (a : Address) (e : ℕ) (limit : DepthLimit) : Type 0 where
  pub tile : address_of limit.addr ≡ lifted_at t f a 64
  pub edge : limit.edge ≡ e
  pub deepest : length g.digits ≡ 64

-- a tile is lifted to depth 64, and stays in its place
pub record IsLiftedTo64 (t : Tiling) (f : FrameValue) (before after : PlacedTile) : Type 0 where
  pub lifted : address_of after.addr ≡ lifted_at t f (address_of before.addr) 64
  pub same_place : after.motion ≡ before.motion
  pub same_kind : after.kind ≡ before.kind

-- the tile is of the frame, with the digits of any depth that the frame has had, and its motion is within the
-- limits
pub record IsToCross (t : Tiling) (f : FrameValue) (x : PlacedTile) : Type 0 where
  pub its_kind : x.kind ≡ x.addr.kind
  pub of_frame : IsTileOf (children t) (whole f) (address_of x.addr)
  pub motion : IsMotionOf t.order (2 ^ 24) x.motion

-- From edge e of the tile a, with this motion, in the frame f one comes to the tile x in the frame g. It is
-- the only one across, at the least depth at which the edge is not on the boundary, with the edge `back` that
-- leads back. Its motion is the one that glues the two edges, followed by that of a.
pub record IsCrossedTo (t : Tiling) (f g : FrameValue) (a : Address) (motion : Motion) (e : ℕ)
    (x : PlacedTile) (back : ℕ) : Type 0 where
  pub its_kind : x.kind ≡ x.addr.kind
  pub of_frame : IsTileOf (children t) (whole g) (address_of x.addr)
  pub at_depth : depth (address_of x.addr) ≡ length g.digits
  pub only_tile_across : IsOnlyAcross t (lifted_in (whole g) a) e (address_of x.addr) back
  pub inside : ¬ IsBoundaryEdge t (lifted_in (whole g) a) e
  pub least : (n : ℕ) → length f.digits ≤ n → n < length g.digits → IsBoundaryEdge t (lifted_at t f a n) e
  pub glue : MotionOf t
  pub glues : Glues t a.kind e x.addr.kind back glue
  pub motion_is : motion_in t.order x.motion ≡ followed (points_of t.order) glue (motion_in t.order motion)
  pub turn_below : x.motion.turn < (points_of t.order).order
  pub shift_within : (n : ℕ) → IsWithin n motion.shift → IsWithin (n + 2 ^ 8) x.motion.shift
  pub in_order : IsOf t.order x.motion.shift
