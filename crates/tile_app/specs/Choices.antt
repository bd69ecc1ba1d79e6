-- The tiling of the rule that is chosen: a built-in rule, or that of a file.
use Rattle.std.specs.Prelude.{ℕ, Bool, true, false, List, Result, Ok}
use Rattle.call_words.specs.declared.rule_choice.RuleChoice.{RuleChoice}
use Rattle.call_words.specs.declared.rule_choice.RuleChoice.TheVariants.{Builtin, File}
use Rattle.rule_model.specs.Tiling.{Tiling}
use Rattle.call_notes.specs.declared.rule_fault.RuleFault.{RuleFault}
use Rattle.tile_app.specs.RuleFiles.{tiling_in_file}
use Rattle.tile_app.specs.Tilings.{builtin_tiling}

-- true if a file is read for it
abbrev pub is_file : RuleChoice → Bool
is_file File = true
is_file (Builtin name) = false

-- its tiling, or the first fault of the file
abbrev pub tiling_chosen : List ℕ → RuleChoice → Result Tiling RuleFault
tiling_chosen file File = tiling_in_file file
tiling_chosen file (Builtin name) = Ok (builtin_tiling name)
