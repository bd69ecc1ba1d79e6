-- What `calc` prints and refuses: the output of the script, or the fault of its first line that has one.
use Rattle.std.specs.Prelude.{ℕ, List, Ok, Err}
use Rattle.addr_calc.specs.Script.{IsOutcome}
use Rattle.rule_model.specs.Tiling.{Tiling}
use Rattle.call_notes.specs.declared.script_fault.ScriptFault.TheVariants as script
use Rattle.call_notes.specs.declared.status.Status.{Status}
use Rattle.call_notes.specs.declared.status.Status.TheVariants.{BadScript}

-- the text is the output of the script
abbrev pub PrintsCalc : List ℕ → Tiling → List ℕ → Type 0
PrintsCalc bytes t text = IsOutcome t bytes (Ok text)

-- no line of the script has a fault
abbrev pub CanCalculate : List ℕ → Tiling → Type 0
CanCalculate bytes t = (text : List ℕ) × PrintsCalc bytes t text

-- why `calc` refuses a script for a tiling: its first fault. A script that is too long is refused before.
abbrev pub CalcRefuses : List ℕ → Tiling → Status → Type 0
CalcRefuses bytes t (BadScript (script.Calc fault)) = IsOutcome t bytes (Err fault)
CalcRefuses bytes t _ = ⊥
