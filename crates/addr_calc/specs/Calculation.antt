-- The state of a script, before and after one more line.
use Rattle.std.specs.Prelude.{◌≡◌, ℕ, ◌+◌, List, ◌++◌, Result, OnOk}
use Rattle.theory_addresses.specs.Address.{Address, Fits}
use Rattle.rule_model.specs.Tiling.{Tiling, children}
use Rattle.addr_calc.specs.Bindings.{Bindings, IsBound}
use Rattle.addr_calc.specs.declared.calculation.Calculation.{Calculation}
use Rattle.addr_calc.specs.declared.pairs.Pairs.{Pairs}
use Rattle.addr_calc.specs.Compiled.{AreOf}
use Rattle.addr_calc.specs.Does.{Does, Runs}
use Rattle.addr_calc.specs.Statement.{Statement}

-- each name is bound to the address of a tile of the tiling, if it is bound
abbrev pub AllFit : Tiling → Bindings → Type 0
AllFit t names = (name : ℕ) (a : Address) → IsBound names name a → Fits (children t) a

-- both are addresses of tiles of the tiling
pub record BothFit (t : Tiling) (a b : Address) : Type 0 where
  pub one : Fits (children t) a
  pub other : Fits (children t) b

-- the names are bound to tiles of the tiling, and the pair machine is that of its contact tables
pub record CanRunLine (t : Tiling) (names : Bindings) (pairs : Pairs) : Type 0 where
  pub all_fit : AllFit t names
  pub compiled : AreOf t pairs

-- a line was printed, unless memory ran out; the names and the number stay
pub record HasPrinted {E : Type 0} (line : List ℕ) (before after : Calculation)
    (result : Result (Unit {0}) E) : Type 0 where
  pub printed : OnOk result (after.text.items ≡ before.text.items ++ line)
  pub names : after.names ≡ before.names
  pub number : after.number ≡ before.number

-- A statement was done. The names are bound as it says, and what it prints was appended.
pub record WasDone (t : Tiling) (statement : Statement) (before after : Calculation) : Type 0 where
  pub printed : List ℕ
  pub does : Does t before.names statement after.names printed
  pub text : after.text.items ≡ before.text.items ++ printed
  pub number : after.number ≡ before.number
  pub all_fit : AllFit t before.names → AllFit t after.names

-- a line was run and counted
pub record WasRun (t : Tiling) (line : List ℕ) (before after : Calculation) : Type 0 where
  pub printed : List ℕ
  pub runs : Runs t before.names line after.names printed
  pub text : after.text.items ≡ before.text.items ++ printed
  pub number : after.number ≡ before.number + 1
  pub all_fit : AllFit t before.names → AllFit t after.names
