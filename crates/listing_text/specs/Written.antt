-- Listings as they are written: a line for each entry, with its kind, its turn, its shift and its address.
use Rattle.std.specs.Prelude.{◌≡◌, ℕ, ℤ, ◌≤◌, List, [], ◌∷◌, ◌++◌, length, flat_map}
use Rattle.std.specs.List.{AllByRecursion}
use Rattle.std.specs.Fmt.{decimal}
use Rattle.cyclo_points.specs.declared.motion.Motion.{Motion}
use Rattle.cyclo_points.specs.Point.{IsWithin}
use Rattle.cyclo_points.specs.Text.{motion_text, blank, newline}
use Rattle.tile_shape.specs.Accepted.{IsAcceptedAddress}
use Rattle.tile_shape.specs.Text.{address_text}
use Rattle.listing_text.specs.Limits.{most_lines, most_shift}
use Rattle.listing_text.specs.Listing.{Entry}

-- the line of an entry, without its newline
abbrev pub entry_text : Entry → List ℕ
entry_text e = decimal e.address.kind ++ blank ∷ motion_text e.motion ++ blank ∷ address_text e.address

-- the lines of entries, each followed by a newline
abbrev pub entries_text : List Entry → List ℕ
entries_text entries = flat_map (λ e. entry_text e ++ newline ∷ []) entries

-- the address of an entry is accepted, its turn has a byte, and its shift is of four coefficients within the
-- limit
pub record CanBeListed (children : List (List ℕ)) (e : Entry) : Type 0 where
  pub address : IsAcceptedAddress children e.address
  pub turn : e.motion.turn ≤ 255
  pub four : length e.motion.shift.c ≡ 4
  pub within : IsWithin most_shift e.motion.shift

-- this holds for all entries, and there are not too many
pub record CanAllBeListed (children : List (List ℕ)) (entries : List Entry) : Type 0 where
  pub each : AllByRecursion (CanBeListed children) entries
  pub few : length entries ≤ most_lines
