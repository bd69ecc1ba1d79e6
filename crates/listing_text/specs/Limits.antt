-- The limits of listings.
use Rattle.std.specs.Prelude.{ℕ}

-- the most lines
abbrev pub most_lines : ℕ
most_lines = 200000

-- the greatest coefficient of a shift in absolute value, which is 2^24
abbrev pub most_shift : ℕ
most_shift = 16777216
