-- Edges of prototiles, turned.
use Rattle.std.specs.Prelude.{ℕ, ◌<◌}
use Rattle.cyclo_points.specs.Order.{points_of}
use Rattle.rule_model.specs.Tiling.{Tiling}
use Rattle.tile_place.specs.Glued.{HasKindEdge}

-- a kind has this edge, and this number of steps is a turn
pub record HasTurnedEdge (t : Tiling) (kind edge steps : ℕ) : Type 0 where
  pub exists : HasKindEdge t kind edge
  pub turn_below : steps < (points_of t.order).order
