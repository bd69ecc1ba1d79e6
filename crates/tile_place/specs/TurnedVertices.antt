-- The vertices of all kinds, turned by all numbers of steps below the order, in one list.
use Rattle.std.specs.Prelude.{◌≡◌, ℕ, ◌+◌, ◌*◌, ◌<◌, ◌≤◌, ◌^◌, List, length, map, get_or}
use Rattle.theory_ring.specs.Ring.{power}
use Rattle.theory_substitution.specs.RuleParts.{edge_count, vertex}
use Rattle.cyclo_points.specs.declared.order.Order.{Order}
use Rattle.cyclo_points.specs.declared.point.Point.{Point}
use Rattle.cyclo_points.specs.Order.{NumberOf, points_of}
use Rattle.cyclo_points.specs.Point.{point_in, IsOf, IsWithin}
use Rattle.rule_model.specs.Tiling.{Tiling}
use Rattle.rule_model.specs.Usable.{origin}
use Rattle.tile_place.specs.declared.small_point.SmallPoint.{SmallPoint}

-- a number, turned by ζ^k
abbrev pub turned_by : (o : Order) → ℕ → NumberOf o → NumberOf o
turned_by o k z = (points_of o).ring.mul (power (points_of o).ring (points_of o).zeta k) z

-- vertex number e of a kind, turned by this number of steps
pub record IsTurned (t : Tiling) (kind steps e : ℕ) (p : Point) : Type 0 where
  pub place : point_in t.order p ≡ turned_by t.order steps (vertex (points_of t.order) t.rule kind e)
  pub within : IsWithin (2 ^ 7) p
  pub in_order : IsOf t.order p

-- a point with short coefficients
abbrev pub widened : SmallPoint → Point
widened s = record { c = s.c }

-- places for this number of vertices of each kind, this number of turns of each, and the points
pub record TurnedTable : Type 0 where
  pub sides : ℕ
  pub turns : ℕ
  pub points : List Point

-- such a table in the turns of an order, of these points
abbrev pub turned_table : Order → ℕ → List SmallPoint → TurnedTable
turned_table o sides points =
    record { sides = sides; turns = (points_of o).order; points = map widened points }

-- the place of vertex number e of a kind, turned by this number of steps
abbrev pub place_of : TurnedTable → ℕ → ℕ → ℕ → ℕ
place_of x kind steps e = (kind * x.turns + steps) * x.sides + e

-- each vertex of each kind is at its place, by each turn
pub record AreTurned (t : Tiling) (x : TurnedTable) : Type 0 where
  pub hold : (k : ℕ) → k < length t.rule.kinds → edge_count t.rule k ≤ x.sides
  pub turns : x.turns ≡ (points_of t.order).order
  pub count : length x.points ≡ length t.rule.kinds * x.turns * x.sides
  pub each : (k s e : ℕ) → k < length t.rule.kinds → s < x.turns → e < edge_count t.rule k
      → IsTurned t k s e (get_or x.points (place_of x k s e) origin)
