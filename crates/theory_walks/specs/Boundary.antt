-- Edges on the boundary of a supertile, whichever of its edges that is.
use Rattle.std.specs.Prelude.{ℕ}
use Rattle.theory_addresses.specs.Address.{Address}
use Rattle.rule_model.specs.Tiling.{Tiling}
use Rattle.tile_place.specs.Crossed.{LiesAlong}

-- edge e of a lies along some edge of its supertile's polygon
pub record IsBoundaryEdge (t : Tiling) (a : Address) (e : ℕ) : Type 0 where
  pub own : ℕ
  pub along : LiesAlong t a e own
