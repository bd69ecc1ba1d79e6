-- Faults, or out of memory.
use Rattle.std.specs.Prelude.{◌≡◌, ◌⊎◌}
use Rattle.list_verify.specs.declared.list_fault.ListFault.{ListFault}
use Rattle.list_verify.specs.declared.list_fault.ListFault.TheVariants.{NoMemory}

-- memory ran out, or the fault has this cause
abbrev pub OrNoRoom : (ListFault → Type 0) → ListFault → Type 0
OrNoRoom Cause fault = (fault ≡ NoMemory) ⊎ Cause fault
