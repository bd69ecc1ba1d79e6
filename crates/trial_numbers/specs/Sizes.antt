-- Whether numbers are within a bound, as tests that compute.
use Rattle.std.specs.Prelude.{ℕ, ℤ, Bool, ◌&&◌, nat_le, nat_abs}
use Rattle.cyclo_points.specs.declared.point.Point.{Point}
use Rattle.cyclo_points.specs.Point.{coefficient}

-- the number is at most n in absolute value
abbrev pub is_at_most : ℕ → ℤ → Bool
is_at_most n x = nat_le (nat_abs x) n

-- each coefficient of the point is
abbrev pub is_within : ℕ → Point → Bool
is_within n p = is_at_most n (coefficient p 0)
    && (is_at_most n (coefficient p 1) && (is_at_most n (coefficient p 2) && is_at_most n (coefficient p 3)))
