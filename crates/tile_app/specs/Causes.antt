-- Why a call is refused: for each status its cause.
use Rattle.std.specs.Prelude.{◌≡◌, ◌⊎◌, ℕ, IsTrue, List, Some, Ok}
use Rattle.std.specs.declared.option.Option.{Option}
use Rattle.call_words.specs.Request.{Request, request_in}
use Rattle.call_words.specs.WrongWord.{wrong_place}
use Rattle.layer_api.specs.declared.format.Format.{Format}
use Rattle.list_verify.specs.declared.list_fault.ListFault.TheVariants as listing
use Rattle.call_notes.specs.declared.script_fault.ScriptFault.TheVariants as script
use Rattle.call_notes.specs.declared.status.Status.{Status}
use Rattle.call_notes.specs.declared.status.Status.TheVariants.{BadWords, NoLayer, ReadFault, RuleTooLong, RuleRefused, BadScript, BadListing, NoMemory}
use Rattle.tile_app.specs.Answer.{OfRequest, Refuses, IsLimitOf}
use Rattle.tile_app.specs.Asked.{OfCall}
use Rattle.tile_app.specs.Call.{Call, TellsTooLong, HasRuleFault, reads_file}
use Rattle.tile_app.specs.Layers.{lacking, HaveLayers}
use Rattle.call_notes.specs.Status.{IsTrueFault}

-- The cause of each status, in the order of the tests: the arguments, the layers, the rule and its file, the
-- address, a script or a list of tiles, and last what the request itself refuses (`Refuses`).
abbrev pub Causes : Call → Status → Type 0
Causes c (BadWords place) = wrong_place c.words ≡ Some place
Causes c (NoLayer format) = (q : Request) × (request_in c.words ≡ Ok q) × (lacking q c.handed ≡ Some format)
Causes c RuleTooLong = TellsTooLong c RuleTooLong
Causes c (RuleRefused fault) = HasRuleFault c fault
Causes c (BadScript script.TooLong) = TellsTooLong c (BadScript script.TooLong)
Causes c (BadListing listing.TooLong) =
    TellsTooLong c (BadListing listing.TooLong)
    ⊎ OfRequest (λ q file t. Refuses q file t (BadListing listing.TooLong)) c
Causes c status = OfRequest (λ q file t. Refuses q file t status) c

-- The status is not a limit of the window, vertex or list that the call asks for, so it comes if its cause
-- holds. If several of those limits are passed, one of them comes; which one is not specified.
abbrev pub IsNoLimit : Call → Status → Type 0
IsNoLimit c status = (q : Request) → request_in c.words ≡ Ok q → IsLimitOf q status → ⊥

-- Why a call is refused, with these arguments, layers of these formats, and a source that had some bytes left
-- and now has the rest. A source fails only if it is to be read. Memory runs out only if the arguments are
-- right and each format has a layer, and it is never reported as a fault of a rule file.
abbrev pub IsRefused : List (List ℕ) → List Format → Option (List ℕ) → Option (List ℕ) → Status → Type 0
IsRefused words handed left rest ReadFault = IsTrue (reads_file words handed)
IsRefused words handed left rest NoMemory = (q : Request) × (request_in words ≡ Ok q) × HaveLayers q handed
IsRefused words handed left rest (RuleRefused fault) = IsTrueFault fault
    × OfCall words handed left rest (λ c. Causes c (RuleRefused fault))
IsRefused words handed left rest status = OfCall words handed left rest (λ c. Causes c status)
