-- Signed numbers in texts.
use Rattle.std.specs.Prelude.{ℕ, zero, suc, ℤ, pos, neg_ℤ, List, [], ◌∷◌, ◌==◌, Option, Some, None, option_map, option_and_then, if◌then◌else◌}
use Rattle.tile_shape.specs.Decimal.{number_up_to}

-- `-`
abbrev pub minus_sign : ℕ
minus_sign = 45

-- a number other than 0, made negative
abbrev pub negated : ℕ → Option ℤ
negated zero = None
negated (suc n) = Some (neg_ℤ (pos (suc n)))

-- the signed number of a text, up to a limit in absolute value: a number, or `-` and a number other than 0
abbrev pub signed_up_to : ℕ → List ℕ → Option ℤ
signed_up_to most [] = None
signed_up_to most (byte ∷ bytes) =
    if byte == minus_sign then option_and_then negated (number_up_to most bytes) else option_map pos
    (number_up_to most (byte ∷ bytes))
