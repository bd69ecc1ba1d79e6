-- What is read from a source: a rule file, a script, or a list of tiles. Why it is refused.
use Rattle.std.specs.Prelude.{◌≡◌, ◌⊎◌, ℕ, ◌<◌, ◌≤◌, true, List, length, Ok, Err}
use Rattle.std.specs.declared.option.Option.{Option}
use Rattle.call_words.specs.declared.rule_choice.RuleChoice.{RuleChoice}
use Rattle.call_words.specs.Request.{Request}
use Rattle.call_words.specs.Request.Request.{Calc, Verify}
use Rattle.theory_walks.specs.Frames.{FrameValue}
use Rattle.plane_geom.specs.declared.window.Window.{Window}
use Rattle.rule_model.specs.Tiling.{Tiling}
use Rattle.rule_text.specs.Limits.{longest_file}
use Rattle.tile_app.specs.declared.file_kind.FileKind.{FileKind}
use Rattle.tile_app.specs.declared.file_kind.FileKind.TheVariants.{Script, Listing}
use Rattle.call_notes.specs.declared.status.Status.{Status}
use Rattle.call_notes.specs.declared.status.Status.TheVariants.{ReadFault, RuleTooLong, RuleRefused, NoMemory}
use Rattle.tile_app.specs.Answer.{Refuses}
use Rattle.tile_app.specs.Asked.{WasRead, WasFileIn}
use Rattle.tile_app.specs.Calc.{PrintsCalc, CalcRefuses}
use Rattle.tile_app.specs.Choices.{is_file, tiling_chosen}
use Rattle.tile_app.specs.FileKinds.{longest_of, too_long_of}
use Rattle.tile_app.specs.Files.{has_own_file, longest_for, too_long_for}
use Rattle.tile_app.specs.RuleFiles.{tiling_in_file}
use Rattle.call_notes.specs.Status.{IsTrueFault}
use Rattle.tile_app.specs.Tilings.{builtin_tiling}
use Rattle.tile_app.specs.Verify.{PrintsVerify, VerifyRefuses}

-- a file of this kind was read to its end, from a source that had some bytes left and now has the rest, and
-- this holds of it
pub record OfFile (kind : FileKind) (left rest : Option (List ℕ)) (P : List ℕ → Type 0) : Type 0 where
  pub file : List ℕ
  pub read : WasRead (longest_of kind) left rest file
  pub not_too_long : length file ≤ longest_of kind
  pub holds : P file

-- a file of this kind is too long, which this status reports
pub record IsTooLong (kind : FileKind) (left rest : Option (List ℕ)) (status : Status) : Type 0 where
  pub told : status ≡ too_long_of kind
  pub file : List ℕ
  pub read : WasRead (longest_of kind) left rest file
  pub too_long : longest_of kind < length file

-- why a file of this kind cannot be read
abbrev pub IsFileUnread : FileKind → Option (List ℕ) → Option (List ℕ) → Status → Type 0
IsFileUnread kind left rest NoMemory = Unit {0}
IsFileUnread kind left rest ReadFault = Unit {0}
IsFileUnread kind left rest status = IsTooLong kind left rest status

-- why the bytes of a rule file are refused
abbrev pub IsFileRefused : List ℕ → Status → Type 0
IsFileRefused file NoMemory = Unit {0}
IsFileRefused file (RuleRefused fault) = (tiling_in_file file ≡ Err fault) × IsTrueFault fault
IsFileRefused file _ = ⊥

-- the rule file of a choice, if there is one, was read to its end, and with it the choice is this tiling
pub record IsRuleRead (choice : RuleChoice) (left rest : Option (List ℕ)) (t : Tiling) : Type 0 where
  pub file : List ℕ
  pub read : WasFileIn longest_file (is_file choice) left rest file
  pub not_too_long : length file ≤ longest_file
  pub chosen : tiling_chosen file choice ≡ Ok t

-- why a choice is refused: its rule file cannot be read, or does not stand for an accepted rule
abbrev pub IsRuleRefused : RuleChoice → Option (List ℕ) → Option (List ℕ) → Status → Type 0
IsRuleRefused choice left rest NoMemory = Unit {0}
IsRuleRefused choice left rest ReadFault = is_file choice ≡ true
IsRuleRefused choice left rest RuleTooLong =
    (is_file choice ≡ true) × (file : List ℕ) × WasRead longest_file left rest file
    × (longest_file < length file)
IsRuleRefused choice left rest (RuleRefused fault) =
    IsTrueFault fault × (file : List ℕ) × WasFileIn longest_file (is_file choice) left rest file
    × (length file ≤ longest_file) × (tiling_chosen file choice ≡ Err fault)
IsRuleRefused choice left rest _ = ⊥

-- ---- `calc`
abbrev pub IsScriptPrinted : Tiling → Option (List ℕ) → Option (List ℕ) → List ℕ → Type 0
IsScriptPrinted t left rest text = OfFile Script left rest (λ file. PrintsCalc file t text)

abbrev pub IsScriptRefused : Tiling → Option (List ℕ) → Option (List ℕ) → Status → Type 0
IsScriptRefused t left rest NoMemory = Unit {0}
IsScriptRefused t left rest ReadFault = Unit {0}
IsScriptRefused t left rest status = IsTooLong Script left rest status
    ⊎ OfFile Script left rest (λ file. CalcRefuses file t status)

-- ---- `verify`, of a window in a frame
abbrev pub IsListingPrinted : Tiling → FrameValue → Window → Option (List ℕ) → Option (List ℕ) → List ℕ
    → Type 0
IsListingPrinted t f w left rest text = OfFile Listing left rest (λ file. PrintsVerify t f w file text)

abbrev pub IsListingRefused : Tiling → FrameValue → Window → Option (List ℕ) → Option (List ℕ) → Status
    → Type 0
IsListingRefused t f w left rest NoMemory = Unit {0}
IsListingRefused t f w left rest ReadFault = Unit {0}
IsListingRefused t f w left rest status = IsTooLong Listing left rest status
    ⊎ OfFile Listing left rest (λ file. VerifyRefuses t f w file status)

-- ---- a request, of the tiling of its rule
abbrev pub IsItsTiling : Request → Tiling → Type 0
IsItsTiling (Calc name) t = t ≡ builtin_tiling name
IsItsTiling (Verify name addr seed window) t = t ≡ builtin_tiling name
IsItsTiling _ t = Unit {0}

-- its own file, if it has one, was read to its end, and this holds of it
pub record OfOwnFile (q : Request) (left rest : Option (List ℕ)) (P : List ℕ → Type 0) : Type 0 where
  pub file : List ℕ
  pub read : WasFileIn (longest_for q) (has_own_file q) left rest file
  pub not_too_long : length file ≤ longest_for q
  pub holds : P file

-- its own file is too long, which this status reports
pub record IsOwnTooLong (q : Request) (left rest : Option (List ℕ)) (status : Status) : Type 0 where
  pub reads : has_own_file q ≡ true
  pub file : List ℕ
  pub read : WasRead (longest_for q) left rest file
  pub too_long : longest_for q < length file
  pub told : status ≡ too_long_for q

-- why it is refused for a tiling: its own file cannot be read, or the status has its cause
abbrev pub IsRequestRefused : Request → Tiling → Option (List ℕ) → Option (List ℕ) → Status → Type 0
IsRequestRefused q t left rest NoMemory = Unit {0}
IsRequestRefused q t left rest ReadFault = has_own_file q ≡ true
IsRequestRefused q t left rest status = IsOwnTooLong q left rest status
    ⊎ OfOwnFile q left rest (λ file. Refuses q file t status)
