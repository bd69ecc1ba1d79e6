-- What a reader returns, compared with the definition.
use Rattle.std.specs.Prelude.{◌≡◌, ◌≢◌, Result, Ok, Err}
use Rattle.rule_text.specs.declared.text_fault.TextFault.{TextFault}
use Rattle.rule_text.specs.declared.text_fault.TextFault.TheVariants.{NoMemory}

-- the value is the one that the definition reads, or the fault is its fault, unless memory ran out
abbrev pub ReadsAs : {X Y : Type 0} → (X → Y) → Result X TextFault → Result Y TextFault → Type 0
ReadsAs seen (Ok x) read = read ≡ Ok (seen x)
ReadsAs seen (Err e) read = e ≢ NoMemory → read ≡ Err e
