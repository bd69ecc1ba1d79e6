-- The lines that a walk has found.
use Rattle.std.specs.Prelude.{◌≡◌, ◌↔◌, ℕ, suc, ◌+◌, ◌*◌, ◌<◌, ◌^◌, Bool, true, cond, nat_lt, List, [], ◌++◌, map, length, get_or, slice_get, Some}
use Rattle.std.specs.List.{AllByRecursion}
use Rattle.theory_addresses.specs.Address.{depth}
use Rattle.theory_addresses.specs.Search.{IsAmong}
use Rattle.cyclo_points.specs.Order.{points_of, is_refused}
use Rattle.cyclo_points.specs.declared.order.Order.{Order}
use Rattle.cyclo_points.specs.declared.point.Point.{Point}
use Rattle.cyclo_points.specs.Point.{point_in, IsOf, IsWithin}
use Rattle.cyclo_points.specs.Motion.{motion_in}
use Rattle.theory_frames.specs.Frame.{IsTileOf}
use Rattle.plane_geom.specs.declared.window.Window.{Window}
use Rattle.rule_model.specs.Tiling.{Tiling, children}
use Rattle.rule_model.specs.Usable.{origin}
use Rattle.theory_substitution.specs.Plane.{plane_point}
use Rattle.theory_substitution.specs.RuleParts.{edge_count}
use Rattle.tile_shape.specs.Views.{address_of}
use Rattle.theory_walks.specs.Ancestors.{full}
use Rattle.theory_walks.specs.Frames.{FrameValue, whole, IsFrameOf}
use Rattle.listing_text.specs.declared.entry.Entry as program
use Rattle.listing_text.specs.Listing.{Entry}
use Rattle.listing_text.specs.Views.{entry_of}
use Rattle.theory_windows.specs.FramePatch.{frame_patch, in_frame, line_of}
use Rattle.theory_windows.specs.Outlines.{PlaneEdge, MeetsBox}
use Rattle.theory_windows.specs.Patch.{HasAcross}
use Rattle.theory_listings.specs.FrameWalk.{IsWalkOn}
use Rattle.window_cover.specs.Windows.{TileOf, box_of}
use Rattle.list_verify.specs.LineIndex.{NoneAgain}
use Rattle.list_verify.specs.Listing.{tiles_listed}

-- the entries of lines of the program
abbrev pub entries_of : List program.Entry → List Entry
entries_of lines = map entry_of lines

-- the lines are of the frame, each lifted to its depth, and no two have the same address
pub record AreLinesIn (t : Tiling) (f : FrameValue) (lines : List program.Entry) : Type 0 where
  pub frame : IsFrameOf t f
  pub of_frame : AllByRecursion
      (λ (e : program.Entry). IsTileOf (children t) (whole f) (address_of e.address)) lines
  pub lifted : AllByRecursion (λ (e : program.Entry). depth (address_of e.address) ≡ length f.digits) lines
  pub apart : NoneAgain lines (length lines)

-- a value for a number that no line has
abbrev pub no_line : program.Entry
no_line = record {
  motion = record { turn = 0; shift = record { c = [] } };
  address = record { kind = 0; digits = record { items = [] } };
}

-- the tile of the whole frame that line number i names
abbrev pub tile_of_line : (t : Tiling) → FrameValue → List program.Entry → ℕ → TileOf t
tile_of_line t f lines i =
    in_frame (points_of t.order) t.rule (full t f) (address_of (get_or lines i no_line).address)

abbrev pub tiles_listed_so_far : (t : Tiling) → FrameValue → List program.Entry → List ℕ → List (TileOf t)
tiles_listed_so_far t f lines numbers = map (tile_of_line t f lines) numbers

-- line number i has the motion of its tile, and by it the tile can be crossed
pub record IsInPlace (t : Tiling) (f : FrameValue) (lines : List program.Entry) (i : ℕ) : Type 0 where
  pub below : i < length lines
  pub its_motion : motion_in t.order (get_or lines i no_line).motion ≡ (tile_of_line t f lines i).motion
  pub turn_below : (get_or lines i no_line).motion.turn < (points_of t.order).order
  pub shift_within : IsWithin (2 ^ 24) (get_or lines i no_line).motion.shift
  pub in_order : IsOf t.order (get_or lines i no_line).motion.shift

-- the lines with these numbers have the motions of their tiles, and they are the marked ones
pub record AreMarked (t : Tiling) (f : FrameValue) (lines : List program.Entry) (numbers : List ℕ)
    (marks : List Bool) : Type 0 where
  pub in_place : AllByRecursion (IsInPlace t f lines) numbers
  pub count : length marks ≡ length lines
  pub marked : (i : ℕ) → (slice_get marks i ≡ Some true) ↔ IsAmong i numbers

-- the tiles of these lines are found on a walk
abbrev pub IsWalkedTo : (t : Tiling) → FrameValue → Window → List program.Entry → List ℕ → Type 0
IsWalkedTo t f w lines numbers =
    IsWalkOn (points_of t.order) (is_refused t.order) t.rule (full t f) (box_of t w)
    (tiles_listed t (entries_of lines)) (tiles_listed_so_far t f lines numbers)

-- the lines with these numbers are found, and are the marked ones
pub record AreFound (t : Tiling) (f : FrameValue) (w : Window) (lines : List program.Entry) (numbers : List ℕ)
    (marks : List Bool) : Type 0 where
  pub are_marked : AreMarked t f lines numbers marks
  pub walk : IsWalkedTo t f w lines numbers

-- the list goes on after the old one
abbrev pub HasMoreLines : List ℕ → List ℕ → Type 0
HasMoreLines old new = (more : List ℕ) × (new ≡ old ++ more)

-- edge number e of the tile of line i
abbrev pub edge_of_line : (t : Tiling) → FrameValue → List program.Entry → ℕ → ℕ
    → PlaneEdge (points_of t.order).real
edge_of_line t f lines i e = line_of (points_of t.order) t.rule (tile_of_line t f lines i) e

-- the edge between two of these corners: edge number e
abbrev pub line_between : (o : Order) → List Point → ℕ → PlaneEdge (points_of o).real
line_between o corners e = record {
  from = plane_point (points_of o) (point_in o (get_or corners e origin));
  to = plane_point (points_of o)
      (point_in o (get_or corners (cond (nat_lt (suc e) (length corners)) (suc e) 0) origin));
}

-- if it meets the window, a tile found lies across it
abbrev pub IsCrossedOver : (t : Tiling) → FrameValue → Window → List program.Entry → List ℕ → ℕ → ℕ → Type 0
IsCrossedOver t f w lines numbers i e =
    MeetsBox (points_of t.order).real (box_of t w) (edge_of_line t f lines i e)
    → HasAcross (points_of t.order).real (TileOf t) (frame_patch (points_of t.order) t.rule (full t f))
    (tiles_listed_so_far t f lines numbers) (edge_of_line t f lines i e)

-- this holds for the first n edges of the tile of line i
abbrev pub AreCrossedOver : (t : Tiling) → FrameValue → Window → List program.Entry → List ℕ → ℕ → ℕ → Type 0
AreCrossedOver t f w lines numbers i n = (e : ℕ) → e < n → IsCrossedOver t f w lines numbers i e

-- A line has twelve marks, one for each possible edge. If a marked edge meets the window, a tile found lies
-- across it.
pub record AreMarkedSides (t : Tiling) (f : FrameValue) (w : Window) (lines : List program.Entry)
    (numbers : List ℕ) (marks : List Bool) : Type 0 where
  pub count : length marks ≡ length lines * 12
  pub over : (i e : ℕ) → e < 12 → slice_get marks (i * 12 + e) ≡ Some true
      → IsCrossedOver t f w lines numbers i e

-- the number of edges of the tile of line i
abbrev pub edges_of_line : Tiling → List program.Entry → ℕ → ℕ
edges_of_line t lines i = edge_count t.rule (get_or lines i no_line).address.kind

-- it holds for all edges of the tiles of the first n lines found
abbrev pub AreCrossedBefore : (t : Tiling) → FrameValue → Window → List program.Entry → List ℕ → ℕ → Type 0
AreCrossedBefore t f w lines numbers n =
    (j i : ℕ) → j < n → slice_get numbers j ≡ Some i
    → AreCrossedOver t f w lines numbers i (edges_of_line t lines i)
