-- What an edge of a tile can be: crossed to one other tile, or on the boundary of the supertile.
use Rattle.std.specs.Prelude.{◌≡◌, ℕ}
use Rattle.theory_addresses.specs.Address.{Address}
use Rattle.theory_substitution.specs.Points.{Points}
use Rattle.theory_substitution.specs.Rule.{Rule}
use Rattle.theory_dissection.specs.Accepted.{NamesTile}
use Rattle.theory_dissection.specs.Across.{IsOnlyTileAcross, HasNoneAcross}
use Rattle.theory_dissection.specs.OnBoundary.{IsOnBoundary}
use Rattle.theory_dissection.specs.TileEdges.{tile_at}

-- exactly one tile is across edge e of tile a, the way back leads back, and the edge is not on the boundary
pub record IsCrossed (P : Points) (r : Rule P.ring.carrier) (a : Address) (e : ℕ) : Type 0 where
  pub other : Address
  pub edge : ℕ
  pub fits : NamesTile P r other
  pub across : IsOnlyTileAcross P r (tile_at P r a) e (tile_at P r other) edge
  pub back : IsOnlyTileAcross P r (tile_at P r other) edge (tile_at P r a) e
  pub inside : (f part : ℕ) → ¬ IsOnBoundary P r (tile_at P r a) e f part

-- edge e of tile a lies on the boundary, along exactly one edge of the supertile and on exactly one part of
-- it, and no tile is across it
pub record IsOutside (P : Points) (r : Rule P.ring.carrier) (a : Address) (e : ℕ) : Type 0 where
  pub edge : ℕ
  pub part : ℕ
  pub boundary : IsOnBoundary P r (tile_at P r a) e edge part
  pub alone : (f p : ℕ) → IsOnBoundary P r (tile_at P r a) e f p → (f ≡ edge) × (p ≡ part)
  pub none : HasNoneAcross P r (tile_at P r a) e
