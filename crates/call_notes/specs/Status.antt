-- How a call ended: the exit code of each status, and what kind of answer it is.
use Rattle.std.specs.Prelude.{ℕ}
use Rattle.dissect_check.specs.declared.check_fault.CheckFault.TheVariants as check
use Rattle.list_verify.specs.declared.list_fault.ListFault.TheVariants as listing
use Rattle.rule_text.specs.declared.text_fault.TextFault.TheVariants as text
use Rattle.call_notes.specs.declared.rule_fault.RuleFault.{RuleFault}
use Rattle.call_notes.specs.declared.rule_fault.RuleFault.TheVariants.{Text, Check}
use Rattle.call_notes.specs.declared.status.Status.{Status}
use Rattle.call_notes.specs.declared.status.Status.TheVariants.{Done, BadWords, NoLayer, ReadFault, RuleTooLong, RuleRefused, BadAddress, NoEdge, NoVertex, Outside, DepthLimit, CoordLimit, TooManyTiles, StarTooBig, BadScript, BadListing, WriteFault, NoMemory}

-- the exit code of the program
abbrev pub code_of : Status → ℕ
code_of Done = 0
code_of (BadWords place) = 2
code_of RuleTooLong = 3
code_of (RuleRefused fault) = 3
code_of (BadAddress fault) = 4
code_of (DepthLimit addr edge) = 5
code_of (CoordLimit value) = 6
code_of TooManyTiles = 7
code_of (Outside edge part) = 8
code_of ReadFault = 9
code_of WriteFault = 10
code_of NoMemory = 11
code_of (NoEdge edge edges) = 12
code_of (BadScript fault) = 13
code_of (NoLayer format) = 14
code_of (NoVertex vertex edges) = 15
code_of StarTooBig = 16
code_of (BadListing fault) = 17

-- every refusal except a fault of the sink
abbrev pub IsRefusal : Status → Type 0
IsRefusal Done = ⊥
IsRefusal WriteFault = ⊥
IsRefusal _ = Unit {0}

-- memory ran out, or the source failed
abbrev pub IsCutShort : Status → Type 0
IsCutShort ReadFault = Unit {0}
IsCutShort NoMemory = Unit {0}
IsCutShort _ = ⊥

-- The depth, a coefficient or the number of tiles is too large, in a window or around a vertex. Or a list of
-- tiles omits a tile of the window, or has one with another motion.
abbrev pub IsLimit : Status → Type 0
IsLimit (DepthLimit addr edge) = Unit {0}
IsLimit (CoordLimit value) = Unit {0}
IsLimit TooManyTiles = Unit {0}
IsLimit StarTooBig = Unit {0}
IsLimit (BadListing (listing.Missing addr)) = Unit {0}
IsLimit (BadListing (listing.WrongPlace line motion)) = Unit {0}
IsLimit _ = ⊥

-- memory ran out, or the status has this cause
abbrev pub OrNoMemory : (Status → Type 0) → Status → Type 0
OrNoMemory P NoMemory = Unit {0}
OrNoMemory P status = P status

-- the fault of a rule file is not that memory ran out
abbrev pub IsTrueFault : RuleFault → Type 0
IsTrueFault (Text text.NoMemory) = ⊥
IsTrueFault (Text _) = Unit {0}
IsTrueFault (Check check.NoMemory) = ⊥
IsTrueFault (Check _) = Unit {0}
