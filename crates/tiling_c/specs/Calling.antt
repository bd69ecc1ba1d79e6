-- The command as a call over bytes in memory: what it is asked, what it prints, and what it refuses.
use Rattle.std.specs.Prelude.{◌≡◌, ◌↔◌, ◌⊎◌, ◌≤◌, ℕ, Bool, true, false, List, [], ◌∷◌, length}
use Rattle.std.specs.Str.{IsUtf8}
use Rattle.cyclo_points.specs.Text.{newline}
use Rattle.layer_api.specs.declared.format.Format.{Format}
use Rattle.layer_api.specs.declared.format.Format.TheVariants.{Svg, List as Listing, Census}
use Rattle.tile_shape.specs.Words.{texts_between}
use Rattle.call_notes.specs.declared.status.Status.{Status}
use Rattle.call_notes.specs.Notes.{note_of, longest_note}
use Rattle.call_notes.specs.declared.status.Status.TheVariants.{Done}
use Rattle.call_notes.specs.Status.{code_of, IsCutShort, IsLimit}
use Rattle.tile_app.specs.Answer.{Prints, CanBeAnswered, IsBeyondLimits}
use Rattle.tile_app.specs.Call.{Call, reads_file}
use Rattle.tile_app.specs.Causes.{Causes, IsNoLimit}
use Rattle.c_values.specs.Statuses.{ok, not_text, no_memory}
use Rattle.tiling_c.specs.Opening.{HoldsText}

-- the arguments that a text has: those between its newlines
abbrev pub arguments_in : List ℕ → List (List ℕ)
arguments_in text = texts_between newline text

-- each format has a layer
abbrev pub all_formats : List Format
all_formats = Svg ∷ Listing ∷ Census ∷ []

-- the file that is read: the input, if the arguments ask for a file
abbrev pub file_in : Bool → List ℕ → List ℕ
file_in true input = input
file_in false input = []

-- the call of the command that a text and an input make
abbrev pub call_of : List (List ℕ) → List ℕ → Call
call_of arguments input = record {
  words = arguments;
  handed = all_formats;
  file = file_in (reads_file arguments all_formats) input;
}

abbrev pub call_in : List ℕ → List ℕ → Call
call_in text input = call_of (arguments_in text) input

-- the command prints a text for the call, and the text is in an array, as far as there is room; this is its
-- length
pub record PrintsText (c : Call) (old new : List ℕ) (bytes : ℕ) : Type 0 where
  pub text : List ℕ
  pub printed : Prints c text
  pub held : HoldsText text old new
  pub whole : bytes ≡ length text

-- the code is that of a status, and the status's line is in an array, as far as there is room; this is its
-- length
pub record TellsStatus (status : Status) (code : ℕ) (old new : List ℕ) (bytes : ℕ) : Type 0 where
  pub is_code : code ≡ code_of status
  pub line : HoldsText (note_of status) old new
  pub whole : bytes ≡ length (note_of status)
  pub short : bytes ≤ longest_note

-- the status that is told is one for which the call has a cause
pub record RefusesCall (c : Call) (code : ℕ) (old new : List ℕ) (bytes : ℕ) : Type 0 where
  pub status : Status
  pub cause : Causes c status
  pub told : TellsStatus status code old new bytes

-- it is a limit of a window, a vertex or a list
pub record TellsLimit (code : ℕ) (old new : List ℕ) (bytes : ℕ) : Type 0 where
  pub status : Status
  pub limit : IsLimit status
  pub told : TellsStatus status code old new bytes

-- how the call ends if memory doesn't run out, with the text that is printed and the line that is noted
pub record IsEnding (c : Call) (text line : List ℕ) (status : Status) : Type 0 where
  pub whole : ¬ IsCutShort status
  pub printed : status ≡ Done → Prints c text
  pub noted : line ≡ note_of status
  pub short : length line ≤ longest_note
  pub refused : (status ≡ Done) ⊎ Causes c status
  pub complete : CanBeAnswered c → status ≡ Done
  pub refused_when : (other : Status) → Causes c other → IsNoLimit c other → status ≡ other
  pub beyond_limits : IsBeyondLimits c → IsLimit status
  pub done_has_no_cause : ¬ Causes c Done

-- the call ends with a status of this exit code
pub record EndsWith (c : Call) (text line : List ℕ) (code : ℕ) : Type 0 where
  pub status : Status
  pub is_code : code ≡ code_of status
  pub answer : IsEnding c text line status

-- What a call shows of its words and its input: what the command prints, in one array, or the line of a
-- refusal, in the other.
pub record ShowsCall (words input : List ℕ) (out new_out : List ℕ) (out_bytes : ℕ) (note new_note : List ℕ)
    (note_bytes status : ℕ) : Type 0 where
  -- what the command prints, or the line of a refusal for its cause
  pub printed : status ≡ ok → PrintsText (call_in words input) out new_out out_bytes
  pub refused : ¬ status ≡ ok → ¬ status ≡ not_text → ¬ status ≡ no_memory
      → RefusesCall (call_in words input) status note new_note note_bytes
  pub no_text : (status ≡ not_text) ↔ (¬ IsUtf8 words)
  -- If the call has an answer, it is printed; if a refusal has a cause, it comes; of several limits one
  -- comes. Only running out of memory may replace them.
  pub complete : IsUtf8 words → CanBeAnswered (call_in words input) → (status ≡ ok) ⊎ (status ≡ no_memory)
  pub refused_when : (other : Status) → IsUtf8 words → Causes (call_in words input) other
      → IsNoLimit (call_in words input) other
      → TellsStatus other status note new_note note_bytes ⊎ (status ≡ no_memory)
  pub beyond_limits : IsUtf8 words → IsBeyondLimits (call_in words input)
      → TellsLimit status note new_note note_bytes ⊎ (status ≡ no_memory)
