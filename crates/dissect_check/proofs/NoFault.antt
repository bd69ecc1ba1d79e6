-- A rule in which no clause finds a fault.
use Rattle.std.proofs.Common.{◌≡◌, List, [], ◌∷◌, Option, None, sym, ◌∙◌}
use Rattle.theory_addresses.specs.Search.{first_some}
use Rattle.theory_edge_to_edge.specs.Contacts.{tables_of}
use Rattle.theory_addresses.specs.Coherent.{IsCoherent}
use Rattle.theory_edge_to_edge.proofs.CoherentContacts.{contacts-coherent}
use Rattle.cyclo_points.specs.Order.{points_of, is_refused, PointsLaw}
use Rattle.rule_model.specs.declared.rule.Rule.{Rule}
use Rattle.rule_model.specs.Accepted.{IsAccepted}
use Rattle.rule_model.specs.Usable.{IsUsable}
use Rattle.rule_model.specs.Views.{as_rule, rule_of, as_edition}
use Rattle.dissect_check.specs.declared.check_fault.CheckFault.{CheckFault}
use Rattle.dissect_check.specs.FirstFault.{limits, stars, factor, mates, lengths, subdivisions, loose_edges, boundaries, uses, glues, first_fault}
use Rattle.theory_addresses.proofs.FirstSome.{first_some-parts}
use Rattle.dissect_check.proofs.LimitsHold.{usable-where}
use Rattle.dissect_check.proofs.Chains.{first_of_rest}
use Rattle.dissect_check.proofs.Accepted.{accepted-where}

module _ (r : Rule) where
  -- the clauses before those on children, and those on children with those behind them
  abbrev pub front : List (Option CheckFault)
  front = let o = r.order in let l = as_rule r in limits o l ∷ stars o l ∷ factor r.edition o l ∷ mates o l ∷ lengths o l ∷ subdivisions o l ∷ []

  abbrev pub rest : List (Option CheckFault)
  rest = let o = r.order in let l = as_rule r in loose_edges o l ∷ boundaries o l ∷ uses o l ∷ glues o l ∷ []

  pub usable-front : None ≡ first_some front → IsUsable r
  usable-front h =
      let o = r.order in
      let l = as_rule r in
      usable-where r (first_some-parts (limits o l) (stars o l ∷ factor r.edition o l ∷ mates o l ∷ lengths o l ∷ subdivisions o l ∷ []) (sym h)).0

  pub no_fault : None ≡ first_some front → first_some rest ≡ None → first_fault r ≡ None
  no_fault h k = first_of_rest front rest (sym h) ∙ k

  pub accepted-both : None ≡ first_some front → first_some rest ≡ None → IsAccepted r
  accepted-both h k = accepted-where r (no_fault h k)

  -- so its contacts are coherent
  pub coherent-both : PointsLaw r.order → None ≡ first_some front → first_some rest ≡ None → IsCoherent (tables_of (points_of r.order) (rule_of r))
  coherent-both w h k = contacts-coherent (points_of r.order) w (as_edition r.edition) (is_refused r.order)
      (rule_of r) (usable-front h).numbered (accepted-both h k).edge_to_edge
