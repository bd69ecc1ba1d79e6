-- The order of the tiles of a window.
use Rattle.std.specs.Prelude.{◌≡◌, ℤ, List, [], ◌∷◌}
use Rattle.std.specs.Ordering.{int_cmp}
use Rattle.std.specs.Cmp.Lexicographic.{slice_cmp}
use Rattle.std.specs.declared.cmp.Ordering.TheVariants.{Less}
use Rattle.tile_place.specs.Keys.{order_numbers}
use Rattle.tile_place.specs.declared.placed_tile.PlacedTile.{PlacedTile}

-- the numbers by which a tile is ordered
abbrev pub numbers_placed : PlacedTile → List ℤ
numbers_placed a = order_numbers a.motion a.kind

-- one tile comes before the other
abbrev pub ComesBefore : PlacedTile → PlacedTile → Type 0
ComesBefore a b = slice_cmp int_cmp (order_numbers a.motion a.kind) (order_numbers b.motion b.kind) ≡ Less

-- each of these tiles comes before the next
abbrev pub AreInOrder : List PlacedTile → Type 0
AreInOrder [] = Unit {0}
AreInOrder (a ∷ []) = Unit {0}
AreInOrder (a ∷ b ∷ tiles) = ComesBefore a b × AreInOrder (b ∷ tiles)

-- no tile comes before the one that it follows
abbrev pub AreSorted : List PlacedTile → Type 0
AreSorted [] = Unit {0}
AreSorted (a ∷ []) = Unit {0}
AreSorted (a ∷ b ∷ tiles) = (¬ ComesBefore b a) × AreSorted (b ∷ tiles)
