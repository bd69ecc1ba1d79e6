-- How the fault of a rule file is spelt.
use Rattle.std.specs.Prelude.{ℕ, List}
use Rattle.call_notes.specs.CheckFaultText as check
use Rattle.call_notes.specs.TextFaultText as text
use Rattle.call_notes.specs.declared.rule_fault.RuleFault.{RuleFault}
use Rattle.call_notes.specs.declared.rule_fault.RuleFault.TheVariants.{Text, Check}

-- the fault of its text, or of the rule that it stands for
abbrev pub rule_fault_text : RuleFault → List ℕ
rule_fault_text (Text e) = text.text_fault_text e
rule_fault_text (Check e) = check.check_fault_text e
