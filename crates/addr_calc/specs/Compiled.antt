-- The pair machine of a tiling, once it is compiled.
use Rattle.std.specs.Prelude.{◌≡◌, IfSome}
use Rattle.rule_model.specs.Tiling.{Tiling, contacts}
use Rattle.addr_calc.specs.declared.pairs.Pairs.{Pairs}

-- the machine, if it is compiled, is that of the contact tables of the tiling
abbrev pub AreOf : Tiling → Pairs → Type 0
AreOf t pairs = IfSome pairs.compiled (λ machine. machine.value ≡ contacts t)
