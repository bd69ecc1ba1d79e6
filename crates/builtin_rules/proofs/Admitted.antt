-- A rule of the program with the numbers of a built-in rule is accepted, and has its tables and its uses.
use Rattle.std.proofs.Common.{◌≡◌, ℕ, List, sym, subst, ◌∙◌}
use Rattle.theory_edge_to_edge.specs.EdgeToEdge.{IsEdgeToEdge}
use Rattle.theory_edge_to_edge.specs.Limited.{WithinLimits}
use Rattle.theory_substitution.specs.Rule as theory
use Rattle.theory_substitution.specs.RuleParts.{map_rule}
use Rattle.theory_addresses.specs.Tables as tables
use Rattle.theory_addresses.specs.Tables.{Tables}
use Rattle.cyclo_points.specs.declared.order.Order.{Order}
use Rattle.cyclo_points.specs.declared.point.Point.{Point}
use Rattle.cyclo_points.specs.Order.{points_of, is_refused}
use Rattle.cyclo_points.specs.Point.{point_in}
use Rattle.rule_model.specs.declared.edition.Edition.{Edition}
use Rattle.rule_model.specs.declared.rule.Rule.{Rule}
use Rattle.rule_model.specs.Accepted.{IsAccepted}
use Rattle.rule_model.specs.Small.{is_small}
use Rattle.rule_model.specs.Views.{as_rule, as_edition}
use Rattle.builtin_rules.specs.declared.name.Name.{Name}
use Rattle.rule_model.specs.Tiling.{ListedRule, tiling_listed, tiling_of, contacts, children}
use Rattle.builtin_rules.specs.Named.{named, contacts_named, IsWritten}
use Rattle.builtin_rules.proofs.Acceptance.{within_limits, is_edge_to_edge}
use Rattle.builtin_rules.proofs.Evaluated.{fits, passes}
use Rattle.builtin_rules.proofs.Constants.{its_kinds}

-- what holds of the numbers that are written down holds of the rule
moved : (Q : Edition → Order → theory.Rule Point → Type 0) (w : ListedRule) (r : Rule) → IsWritten w r
    → Q w.edition w.order w.rule → Q r.edition r.order (as_rule r)
moved Q w r is h =
    subst (λ e. Q e r.order (as_rule r)) (sym is.edition)
    (subst (λ o. Q w.edition o (as_rule r)) (sym is.order) (subst (Q w.edition w.order) (sym is.lists) h))

pub accepted : (name : Name) (r : Rule) → IsWritten (named name) r → IsAccepted r
accepted name r is = record {
  limits = moved (λ e o l. WithinLimits (points_of o).order (is_small o) l) (named name) r is (within_limits _ _ _ (fits name));
  edge_to_edge = moved (λ e o l. IsEdgeToEdge (points_of o) (as_edition e) (is_refused o)
      (map_rule (point_in o) l)) (named name) r is (is_edge_to_edge _ _ _ _ (passes name));
}

pub its_tables : (name : Name) (r : Rule) (t : Tables) → IsWritten (named name) r → t ≡ contacts_named name → t ≡ contacts (tiling_of r)
unfolding contacts_named
its_tables name r t is h = moved (λ e o l. t ≡ contacts (tiling_listed (record { edition = e; order = o; rule = l }))) (named name) r is h

pub its_uses : (name : Name) (r : Rule) (u : List (List ℕ)) → IsWritten (named name) r
    → u ≡ tables.child_kinds (contacts_named name) → u ≡ children (tiling_of r)
its_uses name r u is h = moved (λ e o l. u ≡ children
    (tiling_listed (record { edition = e; order = o; rule = l }))) (named name) r is (h ∙ its_kinds name)
