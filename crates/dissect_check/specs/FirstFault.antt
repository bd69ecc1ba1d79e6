-- The fault of the first clause that fails, at its first place. It is a definition on an edition, an order,
-- and the lists of a rule.
use Rattle.std.specs.Prelude.{ℕ, not, [], ◌∷◌, map, length, Option, Some, None, Result, Ok, Err}
use Rattle.theory_substitution.specs.Rule as theory
use Rattle.theory_addresses.specs.Search.{unless, first_some, first_below}
use Rattle.theory_substitution.specs.RuleParts.{map_rule, mate, vertices_of, edge_count}
use Rattle.theory_edge_to_edge.specs.Limits.{is_type, kinds_fit, types_fit, glue_fits, parts_fit, edges_fit, vertices_fit, children_fit}
use Rattle.theory_edge_to_edge.specs.Star.{is_star}
use Rattle.theory_edge_to_edge.specs.Factor.{is_inflation_factor}
use Rattle.theory_edge_to_edge.specs.EdgeTypes.{mates_back, is_mirrored, has_length_of_type}
use Rattle.theory_edge_to_edge.specs.Edges.{PlacedEdge, child_edges}
use Rattle.theory_edge_to_edge.specs.Lying.{lie_of, is_loose}
use Rattle.theory_edge_to_edge.specs.Boundary.{parts_of_edge}
use Rattle.theory_edge_to_edge.specs.Uses.{is_used}
use Rattle.theory_edge_to_edge.specs.Glue.{glue_type, glues_halves}
use Rattle.cyclo_points.specs.declared.order.Order.{Order}
use Rattle.cyclo_points.specs.declared.point.Point.{Point}
use Rattle.cyclo_points.specs.Order.{NumberOf, points_of, is_refused}
use Rattle.cyclo_points.specs.Point.{point_in}
use Rattle.rule_model.specs.declared.edition.Edition.{Edition}
use Rattle.rule_model.specs.declared.rule.Rule.{Rule}
use Rattle.rule_model.specs.Small.{is_small}
use Rattle.rule_model.specs.Views.{as_rule, as_edition}
use Rattle.dissect_check.specs.declared.what.What.TheVariants.{Kinds, Types, Factor, Glue, Mate, Parts, Edges, Vertex, Child}
use Rattle.dissect_check.specs.declared.check_fault.CheckFault.{CheckFault}
use Rattle.dissect_check.specs.declared.check_fault.CheckFault.TheVariants.{TooMany, NotStar, WrongFactor, BadMate, BadLength, BadSubdivision, ChildEdgeLoose, BoundaryWrong, Unused, GlueWrong}

-- the first part of an inflated edge that fails
abbrev pub part_fault : {A : Type 0} → ℕ → ℕ → Result A ℕ → Option CheckFault
part_fault k e (Ok ss) = None
part_fault k e (Err j) = Some (BoundaryWrong k e j)

module _ (o : Order) (l : theory.Rule Point) where
  -- the lists over the numbers of the order
  abbrev pub numbers : theory.Rule (NumberOf o)
  numbers = map_rule (point_in o) l

  -- the limits of a type, then those of all types
  abbrev pub type_limits : ℕ → Option CheckFault
  type_limits ty = first_some
      (unless (is_type l (mate l ty)) (TooMany (Mate ty)) ∷ unless (parts_fit l ty) (TooMany (Parts ty)) ∷ [])

  abbrev pub types_limits : Option CheckFault
  types_limits = first_below type_limits (length l.types)

  -- the limits of a kind, then those of all kinds
  abbrev pub kind_limits : ℕ → Option CheckFault
  kind_limits k = first_some (
      unless (edges_fit l k) (TooMany (Edges k))
      ∷ unless (vertices_fit (is_small o) l k) (TooMany (Vertex k))
      ∷ unless (children_fit (points_of o).order (is_small o) l k) (TooMany (Child k))
      ∷ [])

  abbrev pub kinds_limits : Option CheckFault
  kinds_limits = first_below kind_limits (length l.kinds)

  -- the limits, in this order: the number of kinds, that of types, the factor, the glue types, each type,
  -- each kind
  abbrev pub limits : Option CheckFault
  limits = first_some (
      unless (kinds_fit l) (TooMany Kinds)
      ∷ unless (types_fit l) (TooMany Types)
      ∷ unless (is_small o l.factor) (TooMany Factor)
      ∷ unless (glue_fits l) (TooMany Glue)
      ∷ types_limits
      ∷ kinds_limits
      ∷ [])

  -- each prototile is star-shaped
  abbrev pub stars : Option CheckFault
  stars = first_below (λ k. unless (is_star (points_of o) (vertices_of numbers k)) (NotStar k))
      (length numbers.kinds)

  -- the mate's mate is the type
  abbrev pub mates : Option CheckFault
  mates = first_below (λ ty. unless (mates_back numbers ty) (BadMate ty)) (length numbers.types)

  -- each edge is as long as the first of its type or its mate
  abbrev pub lengths_of_kind : ℕ → Option CheckFault
  lengths_of_kind k = first_below (λ e. unless (has_length_of_type (points_of o) numbers k e) (BadLength k e))
      (edge_count numbers k)

  abbrev pub lengths : Option CheckFault
  lengths = first_below lengths_of_kind (length numbers.kinds)

  -- subdivisions of mates mirror each other
  abbrev pub subdivisions : Option CheckFault
  subdivisions = first_below (λ ty. unless (is_mirrored numbers ty) (BadSubdivision ty))
      (length numbers.types)

  -- a child edge of kind k may not be loose
  abbrev pub loose_fault : ℕ → PlacedEdge (NumberOf o) → Option CheckFault
  loose_fault k s = unless (not (is_loose (lie_of (points_of o) numbers k s)))
      (ChildEdgeLoose k s.child s.edge)

  -- no child edge is loose, in the order of child and edge
  abbrev pub loose_of_kind : ℕ → Option CheckFault
  loose_of_kind k = first_some (map (loose_fault k) (child_edges (points_of o) numbers k))

  abbrev pub loose_edges : Option CheckFault
  loose_edges = first_below loose_of_kind (length numbers.kinds)

  -- the boundary child edges of each inflated edge are its parts
  abbrev pub boundary_of_kind : ℕ → Option CheckFault
  boundary_of_kind k = first_below (λ e. part_fault k e (parts_of_edge (points_of o) numbers k e))
      (edge_count numbers k)

  abbrev pub boundaries : Option CheckFault
  boundaries = first_below boundary_of_kind (length numbers.kinds)

  -- each kind has a use
  abbrev pub uses : Option CheckFault
  uses = first_below (λ k. unless (is_used numbers k) (Unused k)) (length numbers.kinds)

  -- each glue type glues two halves
  abbrev pub glues : Option CheckFault
  glues = first_below (λ i. unless (glues_halves numbers i) (GlueWrong (glue_type numbers i)))
      (length numbers.glue)

module _ (edition : Edition) (o : Order) (l : theory.Rule Point) where
  -- the inflation factor, as the edition allows it
  abbrev pub factor : Option CheckFault
  factor = unless (is_inflation_factor (points_of o) (as_edition edition) (is_refused o) (numbers o l).factor)
      WrongFactor

  -- all ten clauses, in their order
  abbrev pub fault_of_lists : Option CheckFault
  fault_of_lists = first_some (
      limits o l ∷ stars o l ∷ factor ∷ mates o l ∷ lengths o l ∷ subdivisions o l ∷ loose_edges o l ∷
      boundaries o l ∷ uses o l ∷ glues o l ∷ [])

-- the first fault of a rule, by its own edition, order and lists
abbrev pub first_fault : Rule → Option CheckFault
first_fault r = fault_of_lists r.edition r.order (as_rule r)
