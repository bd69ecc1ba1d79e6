-- The entries of the program, and what its readers answer.
use Rattle.std.specs.Prelude.{◌≡◌, ℕ, ◌+◌, List, [], ◌∷◌, ◌++◌, length, Option, Some, None, Result, Ok, Err}
use Rattle.std.specs.Borrow.{Bor}
use Rattle.cyclo_points.specs.Text.{blank}
use Rattle.cyclo_points.specs.declared.motion.Motion.{Motion}
use Rattle.tile_shape.specs.Accepted.{IsAcceptedAddress}
use Rattle.tile_shape.specs.Views.{address_of}
use Rattle.listing_text.specs.declared.entry.Entry as program
use Rattle.listing_text.specs.declared.line.Placed.{Placed}
use Rattle.listing_text.specs.declared.listing_fault.ListingFault.{ListingFault}
use Rattle.listing_text.specs.declared.listing_fault.ListingFault.TheVariants.{NoMemory}
use Rattle.tile_shape.specs.Words.{texts_between}
use Rattle.listing_text.specs.Listing.{Entry, entry_in}

abbrev pub entry_of : program.Entry → Entry
entry_of e = record { motion = e.motion; address = address_of e.address }

-- memory was wanted, or the fault has this cause
abbrev pub OrWantsMemory : (ListingFault → Type 0) → ListingFault → Type 0
OrWantsMemory P NoMemory = Unit {0}
OrWantsMemory P fault = P fault

-- the entry of a line, whose number is one more than the number of earlier entries, was appended to them
pub record IsPut (children : List (List ℕ)) (line : List ℕ) (before after : List program.Entry) : Type 0 where
  pub entry : program.Entry
  pub read : entry_in children (length before + 1) line ≡ Ok (entry_of entry)
  pub accepted : IsAcceptedAddress children (address_of entry.address)
  pub behind : after ≡ before ++ entry ∷ []

-- the texts between marks of the text after a mark, if there is one
abbrev pub texts_behind : ℕ → Option (Bor (List ℕ)) → List (List ℕ)
texts_behind mark None = []
texts_behind mark (Some rest) = texts_between mark rest.now

-- what the reader of three words answers, as seen, is what they are
abbrev pub AnswersPlaced : Result Placed ℕ → Result (ℕ × Motion × List (List ℕ)) ℕ → Type 0
AnswersPlaced (Ok placed) read = read ≡ Ok (placed.kind, placed.motion, texts_behind blank placed.left)
AnswersPlaced (Err place) read = read ≡ Err place
