-- The parts of an inflated edge, from what a walk along it finds.
use Rattle.std.proofs.Common.{◌≡◌, ℕ, ◌<◌, List, map, length, get_or, Result, Some, None, Ok, Err, sym, ap, ap₂, ◌∙◌, refl, subst}
use Rattle.std.specs.Prelude.{Vec}
use Rattle.std.specs.Global.{Global}
use Rattle.std.proofs.lemmas.List.{get_or-map}
use Rattle.theory_substitution.specs.RuleParts.{parts, edge_count, edge_type}
use Rattle.theory_edge_to_edge.specs.Edges as theory
use Rattle.theory_edge_to_edge.specs.Edges.{child_edges, inflated_edge, inflated_edges}
use Rattle.theory_edge_to_edge.specs.Boundary.{boundary_among, parts_along, parts_of_edge}
use Rattle.theory_edge_to_edge.specs.Contacts.{edge_name, parts_or_none}
use Rattle.cyclo_points.specs.Order.{points_of}
use Rattle.edge_tables.specs.declared.child_edge.ChildEdge.{ChildEdge}
use Rattle.edge_tables.specs.Views.{as_child_edge}
use Rattle.rule_model.specs.declared.rule.Rule.{Rule}
use Rattle.rule_model.specs.Views.{rule_of}
use Rattle.dissect_check.specs.declared.line.Line.{Line}
use Rattle.dissect_check.specs.declared.placed_edge.PlacedEdge.{PlacedEdge}
use Rattle.dissect_check.specs.declared.inflated.Inflated.{Inflated}
use Rattle.dissect_check.specs.declared.check_fault.CheckFault.TheVariants.{BoundaryWrong}
use Rattle.dissect_check.specs.FirstFault.{part_fault}
use Rattle.dissect_check.specs.Views.{line_in, edge_in, IsSmallLine, IsInflated}
use Rattle.dissect_check.specs.Boundary.{names_of, as_parts}
use Rattle.theory_addresses.proofs.Ranges.{get_or-below}
use Rattle.dissect_check.proofs.WholeCount.{whole_count}

-- names are found: no fault, and they are those of the parts
pub no_fault : {A : Type 0} (k e : ℕ) (found : Result (Vec ChildEdge Global) ℕ) (names : Vec ChildEdge Global)
    (r : Result (List (theory.PlacedEdge A)) ℕ)
    → found ≡ Ok names → as_parts found ≡ names_of r → part_fault k e r ≡ None
no_fault k e found names (Ok ss) is h = refl
no_fault k e found names (Err j) is h = let g = ap as_parts is in absurd (cc)

pub found_names : {A : Type 0} (found : Result (Vec ChildEdge Global) ℕ) (names : Vec ChildEdge Global) (r : Result (List (theory.PlacedEdge A)) ℕ)
    → found ≡ Ok names → as_parts found ≡ names_of r → map as_child_edge names.items ≡ map edge_name (parts_or_none r)
found_names found names (Ok ss) is h = let g = ap as_parts is in cc
found_names found names (Err j) is h = let g = ap as_parts is in absurd (cc)

-- a part fails
pub its_fault : {A : Type 0} (k e : ℕ) (found : Result (Vec ChildEdge Global) ℕ) (j : ℕ) (r : Result (List (theory.PlacedEdge A)) ℕ)
    → found ≡ Err j → as_parts found ≡ names_of r → part_fault k e r ≡ Some (BoundaryWrong k e j)
its_fault k e found j (Ok ss) is h = let g = ap as_parts is in absurd (cc)
its_fault k e found j (Err i) is h = let g = ap as_parts is in let same : i ≡ j = cc in ap (λ n. Some (BoundaryWrong k e n)) same

module _ (r : Rule) (k e : ℕ) (i : Inflated) (fact : IsInflated r k i) (there : e < edge_count (rule_of r) k) where
  pub whole_there : e < length i.wholes.items
  whole_there = subst (λ n. e < n) (sym (whole_count r k i.wholes.items fact.wholes)) there

  -- a whole by its number
  pub whole_is : (whole : Line) → whole ≡ get_or i.wholes.items e whole → line_in r.order whole ≡ inflated_edge (points_of r.order) (rule_of r) k e
  whole_is whole h =
      let n = edge_count (rule_of r) k in
      ap (line_in r.order) h ∙ sym (get_or-map (line_in r.order) i.wholes.items e whole (line_in r.order whole) whole_there)
      ∙ ap (λ xs. get_or xs e (line_in r.order whole)) fact.wholes
      ∙ get_or-below (inflated_edge (points_of r.order) (rule_of r) k) n e (line_in r.order whole) there

  pub whole_is_small : (whole : Line) → whole ≡ get_or i.wholes.items e whole → IsSmallLine r.order whole
  whole_is_small whole h = subst (IsSmallLine r.order) (sym h) (fact.wholes_small e whole whole_there)

  -- what a walk along that whole finds is its parts
  pub parts_found : (found : Result (Vec ChildEdge Global) ℕ) (edges along : List PlacedEdge) (whole : Line) (ty : ℕ)
      → as_parts found ≡ names_of (parts_along (points_of r.order) (map (edge_in r.order) edges) (line_in r.order whole) (parts (rule_of r) ty))
      → whole ≡ get_or i.wholes.items e whole → ty ≡ edge_type (rule_of r) k e → edges ≡ along
      → map (edge_in r.order) along ≡ boundary_among (points_of r.order) (rule_of r)
      (child_edges (points_of r.order) (rule_of r) k) (inflated_edges (points_of r.order) (rule_of r) k) e
      → as_parts found ≡ names_of (parts_of_edge (points_of r.order) (rule_of r) k e)
  parts_found found edges along whole ty walked h t same on =
      walked
      ∙ ap₂ (λ ss types. names_of (parts_along (points_of r.order) ss (line_in r.order whole) types))
      (ap (map (edge_in r.order)) same ∙ on) (ap (parts (rule_of r)) t)
      ∙ ap
      (λ w. names_of (parts_along (points_of r.order)
      (boundary_among (points_of r.order) (rule_of r) (child_edges (points_of r.order) (rule_of r) k)
      (inflated_edges (points_of r.order) (rule_of r) k) e) w
      (parts (rule_of r) (edge_type (rule_of r) k e))))
      (whole_is whole h)
