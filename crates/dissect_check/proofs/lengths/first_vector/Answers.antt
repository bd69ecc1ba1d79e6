use Rattle.std.proofs.Common.{◌≡◌, ◌≢◌, ℕ, length, arith, sym, ap, ◌∙◌, ◌⊎◌, inl, inr, not, ◌||◌, true, Some}
use Rattle.std.specs.Prelude.{nat_eq}
use Rattle.std.proofs.lemmas.Bool.{or_left, or_right, eq-eqb}
use Rattle.theory_substitution.specs.Points.{Points}
use Rattle.theory_substitution.specs.Rule.{Rule}
use Rattle.theory_substitution.specs.RuleParts.{mate, edge_count, edge_type}
use Rattle.theory_addresses.specs.Search.{unless, first_below}
use Rattle.theory_edge_to_edge.specs.EdgeTypes.{edge_vector, vector_if}
use Rattle.cyclo_points.specs.Order.{points_of}
use Rattle.cyclo_points.specs.Point.{point_in}
use Rattle.rule_model.specs.Views.{rule_of}
use Rattle.theory_addresses.proofs.Searches.{first_below-stop}
use Rattle.dissect_check.proofs.lengths.first_vector.Goals as goal

-- an edge whose type is the one looked for, or its mate, is found with its vector
module _ (P : Points) (r : Rule P.ring.carrier) (ty k e found other : ℕ) (found_is : found ≡ edge_type r k e) (other_is : other ≡ mate r ty) where
  passes : (found ≡ ty) ⊎ ((found ≢ ty) × (found ≡ other)) → nat_eq (edge_type r k e) ty || nat_eq (edge_type r k e) (mate r ty) ≡ true
  passes (inl p) = or_left (nat_eq (edge_type r k e) ty) (nat_eq (edge_type r k e) (mate r ty)) (eq-eqb (edge_type r k e) ty (sym found_is ∙ p))
  passes (inr p) = or_right (nat_eq (edge_type r k e) ty) (nat_eq (edge_type r k e) (mate r ty))
      (eq-eqb (edge_type r k e) (mate r ty) (sym found_is ∙ p.1 ∙ other_is))

  here : (v : P.ring.carrier) → (found ≡ ty) ⊎ ((found ≢ ty) × (found ≡ other)) → v ≡ edge_vector P r k e → vector_if P r ty k e ≡ Some v
  here v h d = ap (λ b. unless (not b) (edge_vector P r k e)) (passes h) ∙ ap Some (sym d)

pub returns-then-found-ty-clause-value : goal.returns-then-found-ty-clause-value
returns-then-found-ty-clause-value c =
    let o = c.args.rule.now.order in
    let P = points_of o in
    let r = rule_of c.args.rule.now in
    let ty = c.args.ty in
    let k = c.loop-kind.kind in
    let e = c.loop-edge.edge in
    let v = point_in o c.edge_vector.result in
    let at_edge = here P r ty k e c.edge_type-found.result c.mate-mate.result
    (c.edge_type-found.ensures.numbers o) (c.mate-mate.ensures.numbers o) v c.then-found-ty.either
    c.edge_vector.ensures.value in
    let in_kind = first_below-stop (vector_if P r ty k) e (edge_count r k) v c.loop-edge.invariant at_edge
    (omega (arith, c.edge_count-edge-end.ensures.numbers o)) in
    first_below-stop (λ n. first_below (vector_if P r ty n) (edge_count r n)) k (length r.kinds) v
    c.loop-kind.invariant (sym in_kind) (omega (arith, c.kind_count-kind-end.ensures.numbers o))
