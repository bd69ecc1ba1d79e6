-- The machine of a rule file, or the line of the file's first fault.
use Rattle.std.specs.Prelude.{◌≡◌, ◌⊎◌, ◌<◌, ◌≤◌, ◌++◌, ℕ, List, length, take, drop, min, Some, Ok, Err}
use Rattle.rule_model.specs.Tiling.{Tiling}
use Rattle.rule_text.specs.Limits.{longest_file}
use Rattle.call_notes.specs.declared.status.Status.{Status}
use Rattle.call_notes.specs.declared.status.Status.TheVariants.{RuleTooLong, RuleRefused}
use Rattle.call_notes.specs.Notes.{note_of}
use Rattle.tile_app.specs.RuleFiles.{tiling_in_file}
use Rattle.c_values.specs.declared.machine_slot.MachineSlot.{MachineSlot}
use Rattle.c_values.specs.Statuses.{ok, rule_refused, no_memory}
use Rattle.tiling_c.specs.Machines.{HasMachine}

-- a text is at the front of an array of bytes, as far as there is room, and the bytes after it are as they
-- were
abbrev pub HoldsText : List ℕ → List ℕ → List ℕ → Type 0
HoldsText text old new = new
    ≡ take (min (length text) (length old)) text ++ drop (min (length text) (length old)) old

-- the file is not too long, it stands for an accepted rule, and the slot has a machine of that rule
pub record OpensFile (file : List ℕ) (slot : MachineSlot) : Type 0 where
  pub tiling : Tiling
  pub not_too_long : length file ≤ longest_file
  pub accepted : tiling_in_file file ≡ Ok tiling
  pub machine : HasMachine slot (Some tiling)

-- the command refuses a rule file: it is too long, or this is the first fault of its text or of its rule
abbrev pub IsFileFault : List ℕ → Status → Type 0
IsFileFault file RuleTooLong = longest_file < length file
IsFileFault file (RuleRefused fault) = (length file ≤ longest_file) × (tiling_in_file file ≡ Err fault)
IsFileFault file _ = ⊥

-- the most bytes of a line
abbrev pub most_bytes : ℕ
most_bytes = 128

-- the file is refused, and the command's line of its first fault, with a number of bytes, is in the array
pub record RefusesFile (file old new : List ℕ) (bytes : ℕ) : Type 0 where
  pub status : Status
  pub cause : IsFileFault file status
  pub line : HoldsText (note_of status) old new
  pub whole : bytes ≡ length (note_of status)
  pub short : bytes ≤ most_bytes

-- what a call shows of a file: the machine of the accepted rule that it stands for, or the command's line of
-- its first fault
pub record ShowsOpenFile (file : List ℕ) (slot : MachineSlot) (line new_line : List ℕ)
    (bytes status : ℕ) : Type 0 where
  pub opened : status ≡ ok → OpensFile file slot
  pub refused : status ≡ rule_refused → RefusesFile file line new_line bytes
  pub statuses : (status ≡ ok) ⊎ (status ≡ rule_refused) ⊎ (status ≡ no_memory)
