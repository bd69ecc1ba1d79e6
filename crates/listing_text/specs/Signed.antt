-- Shifts in texts: four signed numbers joined by commas.
use Rattle.std.specs.Prelude.{ℕ, ℤ, List, Option}
use Rattle.cyclo_points.specs.declared.point.Point.{Point}
use Rattle.cyclo_points.specs.Text.{point_of_texts}
use Rattle.tile_shape.specs.Signed.{signed_up_to}
use Rattle.tile_shape.specs.Text.{comma}
use Rattle.tile_shape.specs.Words.{texts_between}
use Rattle.listing_text.specs.Limits.{most_shift}

-- the signed number that a text is
abbrev pub signed_in : List ℕ → Option ℤ
signed_in text = signed_up_to most_shift text

-- the shift that a text is
abbrev pub shift_in : List ℕ → Option Point
shift_in text = point_of_texts signed_in (texts_between comma text)
