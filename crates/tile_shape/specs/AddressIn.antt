-- What a text is as an address: the address, or the first fault.
use Rattle.std.specs.Prelude.{◌≡◌, ℕ, ◌-◌, List, length, nat_le, Option, Some, None, Result, Ok, Err, if◌then◌else◌}
use Rattle.theory_addresses.specs.Address.{Address, depth}
use Rattle.tile_shape.specs.declared.address_fault.AddressFault.{AddressFault}
use Rattle.tile_shape.specs.declared.address_fault.AddressFault.TheVariants.{BadText, TooDeep}
use Rattle.tile_shape.specs.declared.address.Address as program
use Rattle.tile_shape.specs.Misfit.{first_misfit}
use Rattle.tile_shape.specs.Parse.{address_at}
use Rattle.tile_shape.specs.Views.{address_of}

-- the address, unless it has a misfit
abbrev pub unless_misfit : Address → Option AddressFault → Result Address AddressFault
unless_misfit a None = Ok a
unless_misfit a (Some fault) = Err fault

-- of a text of this size, by what reading it gives
abbrev pub address_read : List (List ℕ) → ℕ → Result Address ℕ → Result Address AddressFault
address_read children size (Err left) = Err (BadText (size - left))
address_read children size (Ok a) =
    if nat_le (depth a) 64 then unless_misfit a (first_misfit children a) else Err TooDeep

-- the address of a text, or its first fault
abbrev pub address_of_text : List (List ℕ) → List ℕ → Result Address AddressFault
address_of_text children text = address_read children (length text) (address_at text)

-- an answer of the program is this one
abbrev pub AnswersAddress : Result program.Address AddressFault → Result Address AddressFault → Type 0
AnswersAddress (Ok a) answer = answer ≡ Ok (address_of a)
AnswersAddress (Err fault) answer = answer ≡ Err fault
