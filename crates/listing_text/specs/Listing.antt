-- What a listing is: its entries, or its first fault.
use Rattle.std.specs.Prelude.{ℕ, ◌+◌, List, [], ◌∷◌, ◌++◌, length, ◌==◌, nat_le, Result, Ok, Err, if◌then◌else◌}
use Rattle.theory_addresses.specs.Address.{Address as TheAddress}
use Rattle.cyclo_points.specs.declared.motion.Motion.{Motion}
use Rattle.tile_shape.specs.AddressIn.{address_of_text}
use Rattle.tile_shape.specs.declared.address_fault.AddressFault.{AddressFault}
use Rattle.listing_text.specs.declared.listing_fault.ListingFault.{ListingFault}
use Rattle.listing_text.specs.declared.listing_fault.ListingFault.TheVariants.{TooLong, BadLine, Address, BadKind}
use Rattle.listing_text.specs.Limits.{most_lines}
use Rattle.listing_text.specs.Lines.{lines_in}
use Rattle.listing_text.specs.Words.{Listed, listed_in}

-- a tile of a listing, by its address, and the motion that is listed for it
pub record Entry : Type 0 where
  pub motion : Motion
  pub address : TheAddress

-- the entry of a line of this number, by what its address is; it has the kind that is listed
abbrev pub entry_at : ℕ → Listed → Result TheAddress AddressFault → Result Entry ListingFault
entry_at number listed (Err fault) = Err (Address number fault)
entry_at number listed (Ok a) =
    if a.kind == listed.kind then Ok (record { motion = listed.motion; address = a }) else Err
    (BadKind number)

-- the same by its words
abbrev pub entry_of_words : List (List ℕ) → ℕ → Result Listed ℕ → Result Entry ListingFault
entry_of_words children number (Err place) = Err (BadLine number place)
entry_of_words children number (Ok listed) = entry_at number listed (address_of_text children listed.address)

-- the entry of a line, or its first fault
abbrev pub entry_in : List (List ℕ) → ℕ → List ℕ → Result Entry ListingFault
entry_in children number line = entry_of_words children number (listed_in line)

-- entries before the others; a fault after them is the fault of all
abbrev pub entries_before : List Entry → Result (List Entry) ListingFault → Result (List Entry) ListingFault
entries_before entries (Ok others) = Ok (entries ++ others)
entries_before entries (Err fault) = Err fault

-- by the first line, and those after it
abbrev pub first_then : Result Entry ListingFault → Result (List Entry) ListingFault
    → Result (List Entry) ListingFault
first_then (Ok entry) others = entries_before (entry ∷ []) others
first_then (Err fault) others = Err fault

-- the entries of lines, of which the first has this number, or the fault of the first that has one
abbrev pub entries_from : List (List ℕ) → ℕ → List (List ℕ) → Result (List Entry) ListingFault
entries_from children number [] = Ok []
entries_from children number (line ∷ lines) =
    first_then (entry_in children number line) (entries_from children (number + 1) lines)

-- the entries of lines, if there are not too many; line numbers start at 1
abbrev pub entries_of_lines : List (List ℕ) → List (List ℕ) → Result (List Entry) ListingFault
entries_of_lines children lines =
    if nat_le (length lines) most_lines then entries_from children 1 lines else Err TooLong

-- the entries of a listing, line by line, or its first fault
abbrev pub listing_in : List (List ℕ) → List ℕ → Result (List Entry) ListingFault
listing_in children text = entries_of_lines children (lines_in text)
