-- The turns by which the vectors of edges become greatest. Two edges that meet, one of them turned by half a
-- turn, have one greatest vector. So these turns give the turn from one to the other.
use Rattle.std.specs.Prelude.{◌≡◌, ℕ, ◌+◌, ◌*◌, ◌<◌, ◌≤◌, false, List, length, get_or}
use Rattle.std.specs.Cmp.Lexicographic.{slice_cmp}
use Rattle.std.specs.Ordering.{int_cmp, is_gt}
use Rattle.theory_substitution.specs.RuleParts.{edge_count, next}
use Rattle.theory_edge_to_edge.specs.EdgeTypes.{edge_vector}
use Rattle.cyclo_points.specs.declared.order.Order.{Order}
use Rattle.cyclo_points.specs.Order.{NumberOf, points_of, coefficients}
use Rattle.rule_model.specs.declared.rule.Rule.{Rule}
use Rattle.rule_model.specs.Tiling.{Tiling}
use Rattle.rule_model.specs.Views.{rule_of}
use Rattle.tile_place.specs.declared.prototile_edge.PrototileEdge.{PrototileEdge}
use Rattle.tile_place.specs.TurnedVertices.{turned_by}

-- a kind of the rule has this edge, which ends at the next vertex
pub record IsEdgeOf (m : Rule) (edge : PrototileEdge) : Type 0 where
  pub kind_exists : edge.kind < length (rule_of m).kinds
  pub edge_exists : edge.start < edge_count (rule_of m) edge.kind
  pub ends : edge.end ≡ next (rule_of m) edge.kind edge.start

-- of all turns below the order, the one by ζ^k makes z greatest: no other has a greater coefficient at the
-- first place at which they differ
pub record IsGreatest (o : Order) (z : NumberOf o) (k : ℕ) : Type 0 where
  pub below : k < (points_of o).order
  pub none_above : (j : ℕ) → j < (points_of o).order
      → is_gt (slice_cmp int_cmp (coefficients o (turned_by o j z)) (coefficients o (turned_by o k z)))
      ≡ false

-- places for this number of edges of each kind, and the turns
pub record EdgeTable : Type 0 where
  pub sides : ℕ
  pub turns : List ℕ

-- for each edge of each kind, the turn by which its vector becomes greatest is written
pub record AreGreatest (t : Tiling) (x : EdgeTable) : Type 0 where
  pub hold : (k : ℕ) → k < length t.rule.kinds → edge_count t.rule k ≤ x.sides
  pub count : length x.turns ≡ length t.rule.kinds * x.sides
  pub each : (k e : ℕ) → k < length t.rule.kinds → e < edge_count t.rule k
      → IsGreatest t.order (edge_vector (points_of t.order) t.rule k e) (get_or x.turns (k * x.sides + e) 0)
