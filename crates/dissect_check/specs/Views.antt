-- What the program keeps of an inflated prototile, in the terms of the theory.
use Rattle.std.specs.Prelude.{◌≡◌, ℕ, ◌^◌, ◌<◌, ◌≤◌, List, map, length, get_or, All}
use Rattle.theory_edge_to_edge.specs.Edges as theory
use Rattle.theory_edge_to_edge.specs.Edges.{child_edges, inflated_edges}
use Rattle.theory_edge_to_edge.specs.Lying as theory_lying
use Rattle.theory_edge_to_edge.specs.Lying.{lie_of}
use Rattle.cyclo_points.specs.declared.order.Order.{Order}
use Rattle.cyclo_points.specs.Order.{NumberOf, points_of}
use Rattle.cyclo_points.specs.Point.{point_in, IsOf, IsWithin}
use Rattle.rule_model.specs.declared.rule.Rule.{Rule}
use Rattle.rule_model.specs.Views.{rule_of}
use Rattle.dissect_check.specs.declared.line.Line.{Line}
use Rattle.dissect_check.specs.declared.placed_edge.PlacedEdge.{PlacedEdge}
use Rattle.dissect_check.specs.declared.lie.Lie.{Lie}
use Rattle.dissect_check.specs.declared.lie.Lie.TheVariants.{Inner, Boundary, Loose}
use Rattle.dissect_check.specs.declared.inflated.Inflated.{Inflated}

abbrev pub line_in : (o : Order) → Line → theory.Edge (NumberOf o)
line_in o l = record { from = point_in o l.from; to = point_in o l.to }

abbrev pub edge_in : (o : Order) → PlacedEdge → theory.PlacedEdge (NumberOf o)
edge_in o s = record { child = s.child; edge = s.edge; type = s.ty; line = line_in o s.line }

abbrev pub as_lie : Lie → theory_lying.Lie
as_lie (Inner c e) = theory_lying.inner c e
as_lie (Boundary e) = theory_lying.boundary e
as_lie Loose = theory_lying.loose

-- both ends are points of the order, with coefficients of at most 2^16
pub record IsSmallLine (o : Order) (l : Line) : Type 0 where
  pub from_within : IsWithin (2 ^ 16) l.from
  pub to_within : IsWithin (2 ^ 16) l.to
  pub from_of : IsOf o l.from
  pub to_of : IsOf o l.to

-- the edge lies on a small line, and its type exists
pub record IsFit (r : Rule) (s : PlacedEdge) : Type 0 where
  pub line : IsSmallLine r.order s.line
  pub type_exists : s.ty < length (rule_of r).types

-- the edges of children are fit, and the edges of the inflated prototile are small and not too many
pub record AreEdges (r : Rule) (edges : List PlacedEdge) (wholes : List Line) : Type 0 where
  pub edges_fit : All (IsFit r) edges
  pub at_most_12 : length wholes ≤ 12
  pub wholes_small : All (IsSmallLine r.order) wholes

-- the program has the inflated prototile of kind k, and where each child edge of it lies
pub record IsInflated (r : Rule) (k : ℕ) (i : Inflated) : Type 0 where
  pub wholes : map (line_in r.order) i.wholes.items ≡ inflated_edges (points_of r.order) (rule_of r) k
  pub wholes_small : All (IsSmallLine r.order) i.wholes.items
  pub edges : map (edge_in r.order) i.edges.items ≡ child_edges (points_of r.order) (rule_of r) k
  pub edges_fit : All (IsFit r) i.edges.items
  pub lies : map as_lie i.lies.items
      ≡ map (lie_of (points_of r.order) (rule_of r) k) (child_edges (points_of r.order) (rule_of r) k)

-- these are the inflated prototiles of the first n kinds
pub record AreInflated (r : Rule) (n : ℕ) (parents : List Inflated) : Type 0 where
  pub count : length parents ≡ n
  pub each : (k : ℕ) (d : Inflated) → k < n → IsInflated r k (get_or parents k d)
