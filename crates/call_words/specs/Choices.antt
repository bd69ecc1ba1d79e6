-- What the value of the key `rule` chooses: a built-in rule by name, or the rule of a file for `-`.
use Rattle.std.specs.Prelude.{ℕ, List, codes, Some, None, if◌then◌else◌}
use Rattle.std.specs.declared.option.Option.{Option}
use Rattle.std.specs.Option.{option_map}
use Rattle.std.specs.Str.{bytes_eq}
use Rattle.builtin_rules.specs.declared.name.Name.{Name}
use Rattle.builtin_rules.specs.declared.name.Name.TheVariants.{Chair, P2, P3, AmmannBeenker, HalfHex}
use Rattle.call_words.specs.declared.rule_choice.RuleChoice.{RuleChoice}
use Rattle.call_words.specs.declared.rule_choice.RuleChoice.TheVariants.{Builtin, File}

-- the built-in rule that a text names
abbrev pub name_in : List ℕ → Option Name
name_in text =
    if bytes_eq text (codes "chair") then Some Chair else
    if bytes_eq text (codes "p2") then Some P2 else
    if bytes_eq text (codes "p3") then Some P3 else
    if bytes_eq text (codes "ab") then Some AmmannBeenker else
    if bytes_eq text (codes "halfhex") then Some HalfHex else None

-- what a text chooses
abbrev pub choice_in : List ℕ → Option RuleChoice
choice_in text = if bytes_eq text (codes "-") then Some File else option_map Builtin (name_in text)

-- the name of a rule, if it is a built-in one
abbrev pub builtin_name : RuleChoice → Option Name
builtin_name (Builtin name) = Some name
builtin_name File = None
