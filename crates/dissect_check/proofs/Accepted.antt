-- All ten clauses hold of an edition, an order and lists exactly where no fault is found, clause by clause:
-- so a rule is accepted exactly where its check finds none.
use Rattle.std.specs.Prelude.{is_ok}
use Rattle.std.specs.List.{AllByRecursion}
use Rattle.std.proofs.Common.{◌≡◌, ℕ, true, false, not, List, [], ◌∷◌, length, Option, None, Result, Ok, Err, refl, ap}
use Rattle.std.proofs.lemmas.Bool.{not-true}
use Rattle.theory_substitution.specs.Points.{Points}
use Rattle.theory_substitution.specs.Rule.{Rule as TheRule}
use Rattle.theory_substitution.specs.RuleParts.{map_rule, vertices_of, edge_count}
use Rattle.theory_edge_to_edge.specs.Star.{is_star}
use Rattle.theory_edge_to_edge.specs.Factor.{is_inflation_factor}
use Rattle.theory_edge_to_edge.specs.EdgeTypes.{mates_back, is_mirrored, has_length_of_type}
use Rattle.theory_edge_to_edge.specs.Edges.{PlacedEdge, child_edges}
use Rattle.theory_edge_to_edge.specs.Lying.{lie_of, is_loose}
use Rattle.theory_edge_to_edge.specs.Boundary.{parts_of_edge}
use Rattle.theory_edge_to_edge.specs.Uses.{is_used}
use Rattle.theory_edge_to_edge.specs.Glue.{glue_type, glues_halves}
use Rattle.theory_edge_to_edge.specs.Limited.{WithinLimits}
use Rattle.theory_edge_to_edge.specs.EdgeToEdge.{IsEdgeToEdge, IsStarShaped, HasInflationFactor, MatesBack, HasEqualLengths, HasMirroredSubdivisions, HasNoneLoose, HasBoundaryCut, HasEachUsed, HasRightGlue}
use Rattle.theory_addresses.proofs.Lists.{AllByRecursion-each}
use Rattle.cyclo_points.specs.declared.order.Order.{Order}
use Rattle.cyclo_points.specs.declared.point.Point.{Point}
use Rattle.cyclo_points.specs.Order.{NumberOf, points_of, is_refused}
use Rattle.cyclo_points.specs.Point.{point_in}
use Rattle.rule_model.specs.declared.edition.Edition.{Edition}
use Rattle.rule_model.specs.declared.rule.Rule.{Rule}
use Rattle.rule_model.specs.Small.{is_small}
use Rattle.rule_model.specs.Views.{as_rule, as_edition}
use Rattle.rule_model.specs.Accepted.{IsAccepted}
use Rattle.dissect_check.specs.declared.check_fault.CheckFault.{CheckFault}
use Rattle.dissect_check.specs.declared.check_fault.CheckFault.TheVariants.{NotStar, WrongFactor, BadMate, BadLength, BadSubdivision, ChildEdgeLoose, Unused, GlueWrong}
use Rattle.dissect_check.specs.FirstFault as fault
use Rattle.dissect_check.specs.FirstFault.{first_fault}
use Rattle.theory_addresses.proofs.Searches.{unless-none, first_below-each, first_below-all}
use Rattle.dissect_check.proofs.LimitsHold.{within-where, none-within}
use Rattle.theory_addresses.proofs.FirstSome.{IsNone, first_some-each, first_some-all, first_some-map-each, first_some-map-all, unless-true, tests-each, tests-all}

-- the parts of an edge are there exactly where none fails
part_fault-each : {A : Type 0} (k e : ℕ) (x : Result A ℕ) → IsNone (fault.part_fault k e x) → is_ok x ≡ true
part_fault-each k e (Ok ss) h = refl
part_fault-each k e (Err j) h = absurd (cc)

part_fault-all : {A : Type 0} (k e : ℕ) (x : Result A ℕ) → is_ok x ≡ true → IsNone (fault.part_fault k e x)
part_fault-all k e (Ok ss) h = refl
part_fault-all k e (Err j) h = absurd (cc)

module _ (edition : Edition) (o : Order) (lists : TheRule Point) where
  -- the points of the order, and the lists over its numbers
  abbrev P : Points
  P = points_of o

  abbrev R : TheRule (NumberOf o)
  R = map_rule (point_in o) lists

  -- each prototile is star-shaped
  pub stars-where : IsNone (fault.stars o lists) → IsStarShaped P R
  stars-where = tests-each (λ k. is_star P (vertices_of R k)) (λ k. NotStar k) (length R.kinds)

  pub none-stars : IsStarShaped P R → IsNone (fault.stars o lists)
  none-stars = tests-all (λ k. is_star P (vertices_of R k)) (λ k. NotStar k) (length R.kinds)

  -- the inflation factor
  pub factor-where : IsNone (fault.factor edition o lists) → HasInflationFactor P (as_edition edition) (is_refused o) R
  factor-where = unless-none (is_inflation_factor P (as_edition edition) (is_refused o) R.factor) WrongFactor

  pub none-factor : HasInflationFactor P (as_edition edition) (is_refused o) R → IsNone (fault.factor edition o lists)
  none-factor = unless-true (is_inflation_factor P (as_edition edition) (is_refused o) R.factor) WrongFactor

  -- mates
  pub mates-where : IsNone (fault.mates o lists) → MatesBack R
  mates-where = tests-each (mates_back R) (λ ty. BadMate ty) (length R.types)

  pub none-mates : MatesBack R → IsNone (fault.mates o lists)
  none-mates = tests-all (mates_back R) (λ ty. BadMate ty) (length R.types)

  -- lengths
  pub lengths-where : IsNone (fault.lengths o lists) → HasEqualLengths P R
  lengths-where h = λ k e l m.
      tests-each (has_length_of_type P R k) (λ e. BadLength k e) (edge_count R k)
      (first_below-each (fault.lengths_of_kind o lists) (length R.kinds) h k l) e m

  pub none-lengths : HasEqualLengths P R → IsNone (fault.lengths o lists)
  none-lengths w =
      first_below-all (fault.lengths_of_kind o lists) (length R.kinds)
      (λ k l. tests-all (has_length_of_type P R k) (λ e. BadLength k e) (edge_count R k) (λ e m. w k e l m))

  -- subdivisions
  pub subdivisions-where : IsNone (fault.subdivisions o lists) → HasMirroredSubdivisions R
  subdivisions-where = tests-each (is_mirrored R) (λ ty. BadSubdivision ty) (length R.types)

  pub none-subdivisions : HasMirroredSubdivisions R → IsNone (fault.subdivisions o lists)
  none-subdivisions = tests-all (is_mirrored R) (λ ty. BadSubdivision ty) (length R.types)

  -- a child edge
  tight-where : (k : ℕ) (s : PlacedEdge (NumberOf o)) → IsNone (fault.loose_fault o lists k s) → is_loose (lie_of P R k s) ≡ false
  tight-where k s h = not-true _ (unless-none (not (is_loose (lie_of P R k s))) (ChildEdgeLoose k s.child s.edge) h)

  none-tight : (k : ℕ) (s : PlacedEdge (NumberOf o)) → is_loose (lie_of P R k s) ≡ false → IsNone (fault.loose_fault o lists k s)
  none-tight k s h = unless-true (not (is_loose (lie_of P R k s))) (ChildEdgeLoose k s.child s.edge) (ap not h)

  -- child edges
  pub loose-where : IsNone (fault.loose_edges o lists) → HasNoneLoose P R
  loose-where h = λ k l.
      AllByRecursion-each _ _ (child_edges P R k) (tight-where k)
      (first_some-map-each (fault.loose_fault o lists k) (child_edges P R k) (first_below-each (fault.loose_of_kind o lists) (length R.kinds) h k l))

  pub none-loose : HasNoneLoose P R → IsNone (fault.loose_edges o lists)
  none-loose w =
      first_below-all (fault.loose_of_kind o lists) (length R.kinds)
      (λ k l. first_some-map-all (fault.loose_fault o lists k) (child_edges P R k)
      (AllByRecursion-each _ _ (child_edges P R k) (none-tight k) (w k l)))

  -- boundaries
  pub boundaries-where : IsNone (fault.boundaries o lists) → HasBoundaryCut P R
  boundaries-where h = λ k e l m.
      part_fault-each k e (parts_of_edge P R k e)
      (first_below-each (λ e. fault.part_fault k e (parts_of_edge P R k e)) (edge_count R k)
      (first_below-each (fault.boundary_of_kind o lists) (length R.kinds) h k l) e m)

  pub none-boundaries : HasBoundaryCut P R → IsNone (fault.boundaries o lists)
  none-boundaries w =
      first_below-all (fault.boundary_of_kind o lists) (length R.kinds)
      (λ k l. first_below-all (λ e. fault.part_fault k e (parts_of_edge P R k e)) (edge_count R k)
      (λ e m. part_fault-all k e (parts_of_edge P R k e) (w k e l m)))

  -- uses
  pub uses-where : IsNone (fault.uses o lists) → HasEachUsed R
  uses-where = tests-each (is_used R) (λ k. Unused k) (length R.kinds)

  pub none-uses : HasEachUsed R → IsNone (fault.uses o lists)
  none-uses = tests-all (is_used R) (λ k. Unused k) (length R.kinds)

  -- glue types
  pub glues-where : IsNone (fault.glues o lists) → HasRightGlue R
  glues-where = tests-each (glues_halves R) (λ i. GlueWrong (glue_type R i)) (length R.glue)

  pub none-glues : HasRightGlue R → IsNone (fault.glues o lists)
  none-glues = tests-all (glues_halves R) (λ i. GlueWrong (glue_type R i)) (length R.glue)

  -- the ten clauses, in order
  abbrev later_faults : List (Option CheckFault)
  later_faults = fault.subdivisions o lists ∷ (fault.loose_edges o lists
      ∷ (fault.boundaries o lists ∷ (fault.uses o lists ∷ (fault.glues o lists ∷ []))))

  abbrev faults : List (Option CheckFault)
  faults = fault.limits o lists ∷ (fault.stars o lists
      ∷ (fault.factor edition o lists ∷ (fault.mates o lists ∷ (fault.lengths o lists ∷ later_faults))))

  -- no fault: then all ten clauses hold, and none is found where they do
  pub limits-where : IsNone (fault.fault_of_lists edition o lists) → WithinLimits P.order (is_small o) lists
  limits-where h = within-where o lists (first_some-each faults h).0

  pub edge_to_edge-where : IsNone (fault.fault_of_lists edition o lists) → IsEdgeToEdge P (as_edition edition) (is_refused o) R
  edge_to_edge-where h =
      let p : AllByRecursion IsNone faults = first_some-each faults h in
      record {
        star_shaped = stars-where p.1.0;
        inflation_factor = factor-where p.1.1.0;
        mates_back = mates-where p.1.1.1.0;
        equal_lengths = lengths-where p.1.1.1.1.0;
        mirrored = subdivisions-where p.1.1.1.1.1.0;
        none_loose = loose-where p.1.1.1.1.1.1.0;
        boundary_cut = boundaries-where p.1.1.1.1.1.1.1.0;
        each_used = uses-where p.1.1.1.1.1.1.1.1.0;
        glue_right = glues-where p.1.1.1.1.1.1.1.1.1.0;
      }

  pub none-clauses : WithinLimits P.order (is_small o) lists
      → IsEdgeToEdge P (as_edition edition) (is_refused o) R → IsNone (fault.fault_of_lists edition o lists)
  none-clauses w d =
      let later : AllByRecursion IsNone later_faults = (
        none-subdivisions d.mirrored,
        (
          none-loose d.none_loose,
          (none-boundaries d.boundary_cut, (none-uses d.each_used, (none-glues d.glue_right, tt))),
        ),
      ) in
      first_some-all faults (
        none-within o lists w,
        (
          none-stars d.star_shaped,
          (
            none-factor d.inflation_factor,
            (none-mates d.mates_back, (none-lengths d.equal_lengths, later)),
          ),
        ),
      )

-- so of a rule
pub accepted-where : (r : Rule) → first_fault r ≡ None → IsAccepted r
accepted-where r h = record {
  limits = limits-where r.edition r.order (as_rule r) h;
  edge_to_edge = edge_to_edge-where r.edition r.order (as_rule r) h;
}

pub none-where : (r : Rule) → IsAccepted r → first_fault r ≡ None
none-where r a = none-clauses r.edition r.order (as_rule r) a.limits a.edge_to_edge
