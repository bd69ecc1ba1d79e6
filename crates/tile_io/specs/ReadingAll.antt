-- What a reading of all the bytes of a source answers.
use Rattle.std.specs.Prelude.{◌≡◌, ◌↔◌, ℕ, ◌+◌, ◌<◌, ◌≤◌, List, length, MatchResult}
use Rattle.std.specs.Global.{Vec}
use Rattle.std.specs.declared.option.Option.{Option}
use Rattle.std.specs.declared.result.Result.{Result}
use Rattle.tile_io.specs.Left.{Gives}
use Rattle.tile_io.specs.declared.read_all_fault.ReadAllFault.{ReadAllFault}
use Rattle.tile_io.specs.declared.read_all_fault.ReadAllFault.TheVariants.{TooLong}

-- at a refusal at most one byte over `most` was read, and that one exactly if the refusal says so
abbrev pub GivesPart : Option (List ℕ) → Option (List ℕ) → ℕ → ReadAllFault → Type 0
GivesPart old new most fault =
    (piece : List ℕ) × Gives old new piece × (length piece ≤ most + 1)
    × ((fault ≡ TooLong) ↔ (length piece ≡ most + 1))

-- all of these bytes, if they are at most `most`; TooLong only if they are more
abbrev pub AnswersFor : List ℕ → ℕ → Result (Vec ℕ) ReadAllFault → Type 0
AnswersFor bytes most result =
    MatchResult result (λ read. (read.items ≡ bytes) × (length bytes ≤ most))
    (λ fault. fault ≡ TooLong → most < length bytes)
