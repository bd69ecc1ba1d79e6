-- What was read of a file, and that it is too long.
use Rattle.std.proofs.Common.{◌≡◌, ℕ, ◌+◌, ◌<◌, ◌≤◌, List, [], length, IfSome, refl, arith}
use Rattle.std.specs.declared.option.Option.{Option}
use Rattle.tile_io.specs.Left.{Gives}
use Rattle.tile_io.specs.ReadingAll.{GivesPart}
use Rattle.tile_io.specs.declared.read_all_fault.ReadAllFault.{ReadAllFault}
use Rattle.tile_io.specs.declared.read_all_fault.ReadAllFault.TheVariants.{TooLong}
use Rattle.tile_app.specs.declared.file_kind.FileKind.{FileKind}
use Rattle.tile_app.specs.declared.file_kind.FileKind.TheVariants.{Rule, Script, Listing}
use Rattle.tile_app.specs.Asked.{WasRead}
use Rattle.tile_app.specs.FileKinds.{longest_of, too_long_of}
use Rattle.tile_app.specs.Reading.{IsFileUnread}

pub whole_read : (longest : ℕ) (left rest : Option (List ℕ)) (file : List ℕ) → Gives left rest file
    → IfSome rest (λ bytes. bytes ≡ []) → length file ≤ longest → WasRead longest left rest file
whole_read longest left rest file given end short = record { given = given; to_the_end = λ l. end; at_most = omega (arith, short) }

-- one byte too many was read
unread : (kind : FileKind) (left rest : Option (List ℕ)) (file : List ℕ)
    → WasRead (longest_of kind) left rest file → longest_of kind < length file
    → IsFileUnread kind left rest (too_long_of kind)
unread Rule left rest file read long = record { told = refl; file = file; read = read; too_long = long }
unread Script left rest file read long = record { told = refl; file = file; read = read; too_long = long }
unread Listing left rest file read long = record { told = refl; file = file; read = read; too_long = long }

pub too_long_read : (kind : FileKind) (left rest : Option (List ℕ)) (why : ReadAllFault)
    → GivesPart left rest (longest_of kind) why → why ≡ TooLong
    → IsFileUnread kind left rest (too_long_of kind)
too_long_read kind left rest why h e =
    let piece = h.0 in
    let long : length piece ≡ longest_of kind + 1 = h.3.0 e in
    unread kind left rest piece (record { given = h.1; to_the_end = λ l. absurd (omega (arith, l, long)); at_most = h.2 }) (omega (arith, long))
