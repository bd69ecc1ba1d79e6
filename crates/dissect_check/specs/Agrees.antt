-- Results of a check, compared with the fault that the definitions give.
use Rattle.std.specs.Prelude.{◌≡◌, Option, Some, None, Result, Ok, Err}
use Rattle.dissect_check.specs.declared.check_fault.CheckFault.{CheckFault}
use Rattle.dissect_check.specs.declared.check_fault.CheckFault.TheVariants.{NoMemory}

-- the fault of a result, if it is one
abbrev pub fault_in : {A : Type 0} → Result A CheckFault → Option CheckFault
fault_in (Ok x) = None
fault_in (Err e) = Some e

-- the result is this fault, or Ok if there is none, unless memory ran out
abbrev pub Agrees : {A : Type 0} → Result A CheckFault → Option CheckFault → Type 0
Agrees (Err NoMemory) f = Unit {0}
Agrees (Ok x) f = f ≡ None
Agrees (Err e) f = f ≡ Some e

-- the result is Ok, or memory ran out
abbrev pub IsOkOrMemory : {A : Type 0} → Result A CheckFault → Type 0
IsOkOrMemory (Ok x) = Unit {0}
IsOkOrMemory (Err NoMemory) = Unit {0}
IsOkOrMemory (Err e) = ⊥
