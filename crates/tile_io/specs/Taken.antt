-- What a write does to the bytes that a sink has taken, if they are reported.
use Rattle.std.specs.Prelude.{◌≡◌, ℕ, ◌<◌, List, ◌++◌, length, take, None, Some, MatchResult, ⊤, IfOk}
use Rattle.std.specs.declared.option.Option.{Option}
use Rattle.std.specs.declared.result.Result.{Result}

-- if the bytes taken are reported after, they were reported before, and bs was appended
abbrev pub Takes : Option (List ℕ) → Option (List ℕ) → List ℕ → Type 0
Takes old None bs = ⊤
Takes None (Some new) bs = ⊥
Takes (Some old) (Some new) bs = new ≡ old ++ bs

-- a write took the first bytes of the piece at Ok, and nothing at Err
abbrev pub WriteTakes : {E : Type 0} → Option (List ℕ) → Option (List ℕ) → Result ℕ E → List ℕ → Type 0
WriteTakes old new result piece =
    MatchResult result (λ count. Takes old new (take count piece)) (λ _. new ≡ old)

-- a write took at least one byte of a piece that is not empty
abbrev pub Advances : {E : Type 0} → Result ℕ E → List ℕ → Type 0
Advances result piece = IfOk result (λ count. 0 < length piece → 0 < count)

-- a proper prefix of the piece was taken
abbrev pub TakesProperPrefix : Option (List ℕ) → Option (List ℕ) → List ℕ → Type 0
TakesProperPrefix old new piece =
    (count : ℕ) × (count < length piece) × Takes old new (take count piece)

-- two pieces taken one after the other are one piece taken
abbrev pub TakenInTurn : Type 0
TakenInTurn =
    (first second third : Option (List ℕ)) (xs ys : List ℕ) →
    Takes first second xs → Takes second third ys → Takes first third (xs ++ ys)
