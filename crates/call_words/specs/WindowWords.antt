-- Windows as arguments: a centre by its four coefficients, a half-width and a half-height.
use Rattle.std.specs.Prelude.{ℕ, ◌≤◌, ℤ, List, [], ◌∷◌, nat_le, Some, None, if◌then◌else◌}
use Rattle.std.specs.declared.option.Option.{Option}
use Rattle.std.specs.Option.{option_map, option_and_then}
use Rattle.cyclo_points.specs.declared.point.Point.{Point}
use Rattle.cyclo_points.specs.Text.{point_of_texts}
use Rattle.tile_shape.specs.Decimal.{number_up_to}
use Rattle.tile_shape.specs.Signed.{signed_up_to}
use Rattle.tile_shape.specs.Text.{comma}
use Rattle.tile_shape.specs.Words.{texts_between}
use Rattle.call_words.specs.declared.window_words.HalfExtents.{HalfExtents}

-- the greatest coefficient of a centre, in absolute value, and the greatest half-width or half-height
abbrev pub most_coefficient : ℕ
most_coefficient = 1048576

abbrev pub most_extent : ℕ
most_extent = 4096

-- a coefficient
abbrev pub coefficient_in : List ℕ → Option ℤ
coefficient_in text = signed_up_to most_coefficient text

-- a half-width or half-height: a number from 1
abbrev pub extent_in : List ℕ → Option ℕ
extent_in text = option_and_then (λ n. if nat_le 1 n then Some n else None) (number_up_to most_extent text)

-- a point, before it is reduced to the order: four coefficients, with commas between them
abbrev pub at_in : List ℕ → Option Point
at_in text = point_of_texts coefficient_in (texts_between comma text)

-- the half-width and half-height that two texts are
abbrev pub extents_of_pieces : List (List ℕ) → Option HalfExtents
extents_of_pieces (a ∷ b ∷ []) =
    option_and_then (λ w. option_map (λ h. record { w = w; h = h }) (extent_in b)) (extent_in a)
extents_of_pieces _ = None

-- a half-width and a half-height, with a comma between them
abbrev pub half_in : List ℕ → Option HalfExtents
half_in text = extents_of_pieces (texts_between comma text)

-- both are from 1 to 4,096
pub record FitWindow (half : HalfExtents) : Type 0 where
  pub some_width : 1 ≤ half.w
  pub some_height : 1 ≤ half.h
  pub width_fits : half.w ≤ 4096
  pub height_fits : half.h ≤ 4096
