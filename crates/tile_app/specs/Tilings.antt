-- The tilings that have a name: those of the built-in rules.
use Rattle.rule_model.specs.Tiling.{Tiling, tiling_listed}
use Rattle.builtin_rules.specs.declared.name.Name.{Name}
use Rattle.builtin_rules.specs.Named.{named}

-- the tiling of a built-in rule
abbrev pub builtin_tiling : Name → Tiling
builtin_tiling name = tiling_listed (named name)
