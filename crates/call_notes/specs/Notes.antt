-- The line that a refusal writes to the notes.
use Rattle.std.specs.Prelude.{ℕ, ◌≤◌, List, [], ◌∷◌, ◌++◌, codes, length, take}
use Rattle.std.specs.declared.option.Option.{Option}
use Rattle.std.specs.Fmt.{decimal}
use Rattle.cyclo_points.specs.Text.{point_text, blank, newline}
use Rattle.tile_io.specs.Causes.{Rose}
use Rattle.tile_io.specs.Taken.{Takes}
use Rattle.tile_shape.specs.FaultText.{address_fault_text}
use Rattle.tile_shape.specs.Text.{address_text}
use Rattle.tile_shape.specs.Views.{address_of}
use Rattle.call_notes.specs.ListFaultText.{list_fault_text}
use Rattle.call_notes.specs.declared.status.Status.{Status}
use Rattle.call_notes.specs.declared.status.Status.TheVariants.{Done, BadWords, NoLayer, ReadFault, RuleTooLong, RuleRefused, BadAddress, NoEdge, NoVertex, Outside, DepthLimit, CoordLimit, TooManyTiles, StarTooBig, BadScript, BadListing, WriteFault, NoMemory}
use Rattle.call_words.specs.FormatWords.{format_text}
use Rattle.call_notes.specs.RuleFaultText.{rule_fault_text}
use Rattle.call_notes.specs.ScriptFaultText.{script_fault_text}
use Rattle.call_notes.specs.Status.{code_of}

-- a status: its name, and each field after a space
abbrev pub status_text : Status → List ℕ
status_text Done = codes "Done"
status_text (BadWords place) = codes "BadWords " ++ decimal place
status_text (NoLayer format) = codes "NoLayer " ++ format_text format
status_text ReadFault = codes "ReadFault"
status_text RuleTooLong = codes "RuleTooLong"
status_text (RuleRefused fault) = codes "RuleRefused " ++ rule_fault_text fault
status_text (BadAddress fault) = codes "BadAddress " ++ address_fault_text fault
status_text (NoEdge edge edges) = codes "NoEdge " ++ decimal edge ++ blank ∷ decimal edges
status_text (NoVertex vertex edges) = codes "NoVertex " ++ decimal vertex ++ blank ∷ decimal edges
status_text (Outside edge part) = codes "Outside " ++ decimal edge ++ blank ∷ decimal part
status_text (DepthLimit addr edge) = codes "DepthLimit " ++ address_text (address_of addr)
    ++ blank ∷ decimal edge
status_text (CoordLimit value) = codes "CoordLimit " ++ point_text value
status_text TooManyTiles = codes "TooManyTiles"
status_text StarTooBig = codes "StarTooBig"
status_text (BadScript fault) = codes "BadScript " ++ script_fault_text fault
status_text (BadListing fault) = codes "BadListing " ++ list_fault_text fault
status_text WriteFault = codes "WriteFault"
status_text NoMemory = codes "NoMemory"

-- the note of a call: nothing on `Done`, and otherwise a line with the exit code and the status
abbrev pub note_of : Status → List ℕ
note_of Done = []
note_of status = decimal (code_of status) ++ blank ∷ status_text status ++ newline ∷ []

-- the most bytes of a note
abbrev pub longest_note : ℕ
longest_note = 640

-- The notes took the start of a line, and the whole line unless their count of faults rose. `before` and
-- `after` are that count, `old` and `new` the bytes taken, before and after the call.
pub record IsNoted (before after : ℕ) (old new : Option (List ℕ)) (line : List ℕ) : Type 0 where
  pub front : (count : ℕ) × (count ≤ length line) × Takes old new (take count line)
  pub whole : (Rose before after → ⊥) → Takes old new line
  pub short : length line ≤ longest_note
