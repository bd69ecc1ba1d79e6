-- The order of tiles by their places, as six numbers and as keys of two words.
use Rattle.std.specs.Prelude.{ℕ, ◌<◌, ◌+◌, ◌*◌, ◌^◌, ℤ, pos, ◌+ℤ◌, nat_abs, nat_eq, Bool, ◌&&◌, List, [], ◌∷◌}
use Rattle.cyclo_points.specs.declared.motion.Motion.{Motion}
use Rattle.cyclo_points.specs.Point.{coefficient, IsWithin}
use Rattle.tile_place.specs.declared.order_key.OrderKey.{OrderKey}

-- the four coefficients of the shift, the turn, the kind
abbrev pub order_numbers : Motion → ℕ → List ℤ
order_numbers m kind =
    coefficient m.shift 0 ∷ coefficient m.shift 1 ∷ coefficient m.shift 2 ∷ coefficient m.shift 3 ∷ pos m.turn
    ∷ pos kind ∷ []

-- a coefficient of a shift, raised above 0
abbrev pub raised_shift : ℤ → ℕ
raised_shift x = nat_abs (x +ℤ pos (2 ^ 24))

-- two coefficients in one number
abbrev pub packed_pair : ℤ → ℤ → ℕ
packed_pair a b = raised_shift a * 2 ^ 26 + raised_shift b

-- the key of a tile: its first two coefficients, and the others followed by the turn and the kind
abbrev pub key_of : Motion → ℕ → ℕ → OrderKey
key_of m kind number = record {
  high = packed_pair (coefficient m.shift 0) (coefficient m.shift 1);
  low = (packed_pair (coefficient m.shift 2) (coefficient m.shift 3) * 2 ^ 4 + m.turn) * 2 ^ 8 + kind;
  number = number;
}

-- the numbers of a tile are small enough for a key
pub record FitsKey (m : Motion) (kind : ℕ) : Type 0 where
  pub within : IsWithin (2 ^ 24) m.shift
  pub turn_fits : m.turn < 16
  pub kind_fits : kind < 2 ^ 8

-- whether two keys are of one place and kind
abbrev pub are_level : OrderKey → OrderKey → Bool
are_level k l = nat_eq k.high l.high && nat_eq k.low l.low
