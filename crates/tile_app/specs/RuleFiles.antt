-- The tiling of a rule file.
use Rattle.std.specs.Prelude.{ℕ, List, Some, None, Result, Ok, Err}
use Rattle.std.specs.declared.option.Option.{Option}
use Rattle.rule_model.specs.Tiling.{Tiling, ListedRule, tiling_listed}
use Rattle.dissect_check.specs.declared.check_fault.CheckFault.{CheckFault}
use Rattle.dissect_check.specs.FirstFault.{fault_of_lists}
use Rattle.rule_text.specs.declared.text_fault.TextFault.{TextFault}
use Rattle.rule_text.specs.File.{rule_in_file}
use Rattle.call_notes.specs.declared.rule_fault.RuleFault.{RuleFault}
use Rattle.call_notes.specs.declared.rule_fault.RuleFault.TheVariants.{Text, Check}

-- a tiling, unless a clause of the check refuses its rule
abbrev pub tiling_unless : Option CheckFault → ListedRule → Result Tiling RuleFault
tiling_unless None x = Ok (tiling_listed x)
tiling_unless (Some e) x = Err (Check e)

-- the tiling of the rule that was read, or the first fault of the text or of the rule
abbrev pub tiling_of_text : Result ListedRule TextFault → Result Tiling RuleFault
tiling_of_text (Ok x) = tiling_unless (fault_of_lists x.edition x.order x.rule) x
tiling_of_text (Err e) = Err (Text e)

-- the tiling of a rule file
abbrev pub tiling_in_file : List ℕ → Result Tiling RuleFault
tiling_in_file file = tiling_of_text (rule_in_file file)
