-- Looking for a tile among the lines.
use Rattle.std.specs.Prelude.{◌≡◌, ◌⊎◌, ℕ, ◌+◌, ◌<◌, ◌^◌, true, false, List, [], ◌∷◌, ◌++◌, length, slice_get, slice_set, Some}
use Rattle.cyclo_points.specs.declared.motion.Motion.{Motion}
use Rattle.cyclo_points.specs.declared.order.Order.{Order}
use Rattle.cyclo_points.specs.Motion.{motion_in}
use Rattle.cyclo_points.specs.Order.{is_refused}
use Rattle.cyclo_points.specs.Point.{point_in, IsOf, IsWithin}
use Rattle.rule_model.specs.Tiling.{Tiling}
use Rattle.tile_place.specs.declared.placed_tile.PlacedTile.{PlacedTile}
use Rattle.tile_shape.specs.Views.{address_of}
use Rattle.listing_text.specs.declared.entry.Entry.{Entry}
use Rattle.list_verify.specs.declared.found_lines.FoundLines.{FoundLines}
use Rattle.list_verify.specs.declared.list_fault.ListFault.{ListFault}
use Rattle.list_verify.specs.declared.list_fault.ListFault.TheVariants.{Missing, WrongPlace, CoordLimit}
use Rattle.list_verify.specs.LineIndex.{HasAddress}

-- each line has its mark, and the lines are not too many
pub record HasMarks (lines : List Entry) (found : FoundLines) : Type 0 where
  pub few : length lines < 2 ^ 32
  pub count : length found.marks.items ≡ length lines

-- each line still has its mark, and the edges that are crossed are the same
pub record KeepsRoom (lines : List Entry) (old new : FoundLines) : Type 0 where
  pub count : length new.marks.items ≡ length lines
  pub crossed : new.crossed ≡ old.crossed

-- line number i was found before, and nothing changes
pub record IsKnown (old new : FoundLines) (i : ℕ) : Type 0 where
  pub known : slice_get old.marks.items i ≡ Some true
  pub same_lines : new.lines.items ≡ old.lines.items
  pub same_marks : new.marks.items ≡ old.marks.items

-- line number i is found now, with this tile
pub record IsNew (old new : FoundLines) (line : Entry) (tile : PlacedTile) (i : ℕ) : Type 0 where
  pub not_known : ¬ (slice_get old.marks.items i ≡ Some true)
  pub shift_within : IsWithin (2 ^ 24) tile.motion.shift
  pub unrefused : (o : Order) → IsOf o tile.motion.shift → is_refused o (point_in o tile.motion.shift) ≡ false
  pub its_motion : line.motion ≡ tile.motion
  pub one_more : new.lines.items ≡ old.lines.items ++ i ∷ []
  pub marked : new.marks.items ≡ slice_set old.marks.items i true

-- The tile is looked for, and has the line with this number, which was found before or is found now. If it is
-- found now, the tile is not refused, and the line has its motion.
pub record IsLookedUp (old new : FoundLines) (lines : List Entry) (tile : PlacedTile)
    (number : ℕ) : Type 0 where
  pub line : Entry
  pub is_line : slice_get lines number ≡ Some line
  pub its_address : address_of line.address ≡ address_of tile.addr
  pub known_or_new : IsKnown old new number ⊎ IsNew old new line tile number

-- in no order to which both shifts belong are these motions the same
abbrev pub IsMovedOtherwise : Motion → Motion → Type 0
IsMovedOtherwise a b = (o : Order) → IsOf o a.shift → IsOf o b.shift → ¬ (motion_in o a ≡ motion_in o b)

-- why the tile is not found: no line has its address, its line has another motion, or its shift is refused
abbrev pub IsNotFound : Tiling → List Entry → PlacedTile → ListFault → Type 0
IsNotFound t lines tile (Missing addr) = (address_of addr ≡ address_of tile.addr)
    × ((i : ℕ) → ¬ HasAddress lines i (address_of tile.addr))
IsNotFound t lines tile (WrongPlace number motion) =
    (i : ℕ) × (number ≡ i + 1) × (motion ≡ tile.motion)
    × (line : Entry) × (slice_get lines i ≡ Some line) × (address_of line.address ≡ address_of tile.addr)
    × (¬ (line.motion ≡ tile.motion)) × IsMovedOtherwise line.motion tile.motion
IsNotFound t lines tile (CoordLimit value) = (value ≡ tile.motion.shift)
    × (is_refused t.order (point_in t.order tile.motion.shift) ≡ true)
IsNotFound t lines tile fault = ⊥
