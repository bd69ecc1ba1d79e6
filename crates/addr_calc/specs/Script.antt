-- The text that a script prints, or the fault of its first line that has one.
use Rattle.std.specs.Prelude.{◌≡◌, ◌⊎◌, ℕ, ◌+◌, List, [], ◌∷◌, ◌++◌, Result, Ok, Err, IfOk, IfErr, Vec}
use Rattle.cyclo_points.specs.Text.{newline}
use Rattle.rule_model.specs.Tiling.{Tiling}
use Rattle.addr_calc.specs.Bindings.{Bindings, none_bound}
use Rattle.addr_calc.specs.declared.calc_fault.CalcFault.{CalcFault}
use Rattle.addr_calc.specs.declared.calc_fault.CalcFault.TheVariants.{NoMemory}
use Rattle.addr_calc.specs.Does.{Runs}
use Rattle.tile_shape.specs.Words.{texts_between}
use Rattle.addr_calc.specs.Refuses.{HasFault}

-- a text, or a fault
abbrev pub Outcome : Type 0
Outcome = Result (List ℕ) CalcFault

-- an outcome with text before it; a fault drops the text
abbrev pub put_before : List ℕ → Outcome → Outcome
put_before text (Ok rest) = Ok (text ++ rest)
put_before text (Err fault) = Err fault

-- The outcome of lines, of which the first has this number. If there are none, nothing is printed. If the
-- first line has a fault, this is the outcome. Otherwise the line can be run. What it prints comes before the
-- outcome of the lines after it, which see the names as it leaves them bound.
abbrev pub ComesOf : Tiling → Bindings → ℕ → List (List ℕ) → Outcome → Type 0
ComesOf t names number [] outcome = outcome ≡ Ok []
ComesOf t names number (line ∷ lines) outcome =
    ((fault : CalcFault) × HasFault t names number line fault × (outcome ≡ Err fault))
    ⊎ ((after : Bindings) × (printed : List ℕ) × (rest : Outcome) × Runs t names line after printed
    × ComesOf t after (number + 1) lines rest × (outcome ≡ put_before printed rest))

-- The outcome of a script. Newlines separate its lines, which are counted from 1. At first no name is bound.
abbrev pub IsOutcome : Tiling → List ℕ → Outcome → Type 0
IsOutcome t script outcome = ComesOf t none_bound 1 (texts_between newline script) outcome

-- memory ran out, or the fault has this cause
abbrev pub LineOrNoMemory : (CalcFault → Type 0) → CalcFault → Type 0
LineOrNoMemory P NoMemory = Unit {0}
LineOrNoMemory P fault = P fault

-- memory ran out, or the result is this outcome
abbrev pub IsOrNoMemory : Outcome → Outcome → Type 0
IsOrNoMemory (Err NoMemory) outcome = Unit {0}
IsOrNoMemory answer outcome = answer ≡ outcome

-- the text is what the script prints, and a fault is that of the first line that has one
pub record AnswersScript {A : Type 0} (t : Tiling) (script : List ℕ)
    (result : Result (Vec ℕ A) CalcFault) : Type 0 where
  pub ran : IfOk result (λ text. IsOutcome t script (Ok text.items))
  pub fault : IfErr result (LineOrNoMemory (λ fault. IsOutcome t script (Err fault)))

-- the outcome that a result of the program stands for
abbrev pub outcome_of : {A : Type 0} → Result (Vec ℕ A) CalcFault → Outcome
outcome_of (Ok text) = Ok text.items
outcome_of (Err fault) = Err fault

-- the greatest length of a script, in bytes
abbrev pub longest_script : ℕ
longest_script = 1048576
