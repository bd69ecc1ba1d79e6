-- How a refused script is spelt.
use Rattle.std.specs.Prelude.{ℕ, List, codes}
use Rattle.call_notes.specs.CalcFaultText.{calc_fault_text}
use Rattle.call_notes.specs.declared.script_fault.ScriptFault.{ScriptFault}
use Rattle.call_notes.specs.declared.script_fault.ScriptFault.TheVariants.{TooLong, Calc}

-- that it is too long, or the fault of one of its lines
abbrev pub script_fault_text : ScriptFault → List ℕ
script_fault_text TooLong = codes "TooLong"
script_fault_text (Calc fault) = calc_fault_text fault
