-- Decimal numbers: `0`, or figures of which the first is not `0`.
use Rattle.std.specs.Prelude.{ℕ, ◌+◌, ◌-◌, ◌*◌, Bool, true, false, not, ◌&&◌, ◌==◌, List, [], ◌∷◌, Option, Some, None, option_and_then, nat_le, if◌then◌else◌}

-- one of `0` to `9`, which are 48 to 57
abbrev pub is_figure : ℕ → Bool
is_figure byte = nat_le 48 byte && nat_le byte 57

-- the number that decimal figures after a number make of it
abbrev pub continued : ℕ → List ℕ → Option ℕ
continued n [] = Some n
continued n (byte ∷ bytes) = if is_figure byte then continued (10 * n + (byte - 48)) bytes else None

-- there is a first figure, and it is not `0` unless it is the only one
abbrev pub begins_right : List ℕ → Bool
begins_right [] = false
begins_right (byte ∷ []) = true
begins_right (byte ∷ next ∷ bytes) = not (byte == 48)

-- the number that a text is
abbrev pub number_in : List ℕ → Option ℕ
number_in text = if begins_right text then continued 0 text else None

-- the number that a text is, if it is not above a limit
abbrev pub number_up_to : ℕ → List ℕ → Option ℕ
number_up_to most text = option_and_then (λ n. if nat_le n most then Some n else None) (number_in text)
