use Rattle.std.proofs.Common.{◌≡◌, subst, ap}
use Rattle.theory_edge_to_edge.proofs.Factors.{not_of_order_six}
use Rattle.cyclo_points.specs.declared.order.Order.TheVariants.{Six}
use Rattle.cyclo_points.specs.Order.{points_of, is_refused}
use Rattle.theory_edge_to_edge.specs.EdgeToEdge.{HasInflationFactor}
use Rattle.rule_model.specs.declared.edition.Edition.{Edition}
use Rattle.rule_model.specs.declared.edition.Edition.TheVariants.{One}
use Rattle.rule_model.specs.declared.rule.Rule.{Rule}
use Rattle.rule_model.specs.Accepted.{IsAccepted}
use Rattle.rule_model.specs.Views.{rule_of, as_edition}
use Rattle.rule_model.specs.Usable.{IsUsable}
use Rattle.rule_model.proofs.Usable.{usable}
use Rattle.rule_model.proofs.checked.Checked.rule.Goals as goal

not_six : (r : Rule) → IsAccepted r → r.edition ≡ One → r.order ≡ Six → ⊥
not_six r h first six =
    let P = points_of r.order in
    let taken = subst (λ (e : Edition). HasInflationFactor P (as_edition e) (is_refused r.order) (rule_of r)) first h.edge_to_edge.inflation_factor in
    not_of_order_six P (is_refused r.order) (rule_of r).factor taken (ap (λ o. (points_of o).order) six)

pub returns-clause-order_of_edition : goal.returns-clause-order_of_edition
returns-clause-order_of_edition c = subst (λ (r : Rule). r.edition ≡ One → r.order ≡ Six → ⊥) c.self.view_is
    (not_six c.self.inside.rule c.self.invariant.accepted)

pub returns-clause-usable : goal.returns-clause-usable
returns-clause-usable c = subst IsUsable c.self.view_is (usable c.self.inside.rule c.self.invariant.accepted.limits)
