-- Which machine a slot has.
use Rattle.std.specs.Prelude.{◌≡◌, ◌↔◌, ◌⊎◌, ℕ, List, None, option_map}
use Rattle.std.specs.declared.option.Option.{Option}
use Rattle.rule_model.specs.Tiling.{Tiling, tiling_of}
use Rattle.call_words.specs.Choices.{name_in}
use Rattle.tile_app.specs.Tilings.{builtin_tiling}
use Rattle.c_values.specs.declared.machine_slot.MachineSlot.{MachineSlot}
use Rattle.c_values.specs.Statuses.{ok, bad_words, no_memory}

-- the slot has the handle of a machine, whose rule is that of this tiling
abbrev pub HasMachine : MachineSlot → Option Tiling → Type 0
HasMachine slot t = option_map tiling_of slot.rule ≡ t

-- what a call shows of a name: the machine of the built-in rule, or that no rule has it
pub record ShowsOpen (name : List ℕ) (slot : MachineSlot) (status : ℕ) : Type 0 where
  pub named : status ≡ ok → HasMachine slot (option_map builtin_tiling (name_in name))
  pub not_asked : (status ≡ bad_words) ↔ (name_in name ≡ None)
  pub statuses : (status ≡ ok) ⊎ (status ≡ bad_words) ⊎ (status ≡ no_memory)
