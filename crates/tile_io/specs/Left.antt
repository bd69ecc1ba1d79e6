-- What a read does to the bytes that a source has left, if they are reported.
use Rattle.std.specs.Prelude.{◌≡◌, ◌↔◌, ℕ, ◌<◌, List, [], ◌++◌, length, take, None, Some, MatchResult, ⊤, IfOk, IfSome}
use Rattle.std.specs.declared.option.Option.{Option}
use Rattle.std.specs.declared.result.Result.{Result}

-- the bytes left began with bs and lost it; they are reported after if and only if they were reported before
abbrev pub Gives : Option (List ℕ) → Option (List ℕ) → List ℕ → Type 0
Gives None None bs = ⊤
Gives None (Some new) bs = ⊥
Gives (Some old) None bs = ⊥
Gives (Some old) (Some new) bs = old ≡ bs ++ new

-- a read put the first bytes left in front of buf at Ok, and left all of them at Err
abbrev pub ReadGives : {E : Type 0} → Option (List ℕ) → Option (List ℕ) → Result ℕ E → List ℕ → Type 0
ReadGives old new result buf =
    MatchResult result (λ count. Gives old new (take count buf)) (λ _. new ≡ old)

-- a read with room gave nothing exactly at the end, if the bytes left are reported
abbrev pub EndsExactly : {E : Type 0} → Option (List ℕ) → Result ℕ E → List ℕ → Type 0
EndsExactly old result buf =
    IfOk result (λ count. IfSome old (λ bytes. 0 < length buf → ((count ≡ 0) ↔ (bytes ≡ []))))

-- two pieces given one after the other are one piece given
abbrev pub GivenInTurn : Type 0
GivenInTurn =
    (first second third : Option (List ℕ)) (xs ys : List ℕ) →
    Gives first second xs → Gives second third ys → Gives first third (xs ++ ys)
