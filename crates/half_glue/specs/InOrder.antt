-- The order of whole tiles.
use Rattle.std.specs.Prelude.{◌≡◌, ℤ, List, [], ◌∷◌}
use Rattle.std.specs.Ordering.{int_cmp}
use Rattle.std.specs.Cmp.Lexicographic.{slice_cmp}
use Rattle.std.specs.declared.cmp.Ordering.TheVariants.{Less}
pub use Rattle.tile_place.specs.Keys.{order_numbers}
use Rattle.half_glue.specs.declared.whole_tile.WholeTile.{WholeTile}

-- the numbers that order a whole tile: those of its first half
abbrev pub first_numbers : WholeTile → List ℤ
first_numbers w = order_numbers w.first.motion w.first.kind

-- one whole tile comes before the other
abbrev pub ComesBeforeWhole : WholeTile → WholeTile → Type 0
ComesBeforeWhole v w = slice_cmp int_cmp (first_numbers v) (first_numbers w) ≡ Less

-- each of these comes before the next, so none is repeated
abbrev pub AreWholesInOrder : List WholeTile → Type 0
AreWholesInOrder [] = Unit {0}
AreWholesInOrder (v ∷ []) = Unit {0}
AreWholesInOrder (v ∷ w ∷ wholes) = ComesBeforeWhole v w × AreWholesInOrder (w ∷ wholes)
