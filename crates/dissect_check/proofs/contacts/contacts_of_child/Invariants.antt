use Rattle.std.proofs.Common.{◌≡◌, ℕ, map, length, take}
use Rattle.std.specs.List.{filter}
use Rattle.theory_edge_to_edge.specs.Lying.{lie_of}
use Rattle.theory_edge_to_edge.specs.Contacts.{edge_name, contact_by}
use Rattle.cyclo_points.specs.Order.{points_of}
use Rattle.edge_tables.specs.Views.{as_contact}
use Rattle.rule_model.specs.declared.rule.Rule.{Rule}
use Rattle.rule_model.specs.Views.{rule_of}
use Rattle.dissect_check.specs.Views.{edge_in, IsInflated}
use Rattle.dissect_check.specs.Parts.{AreParts}
use Rattle.dissect_check.proofs.OwnEdges.{is_of_child}
use Rattle.dissect_check.proofs.contacts.contacts_of_child.Given as goal

abbrev pub invariant-loop-edge : goal.invariant-loop-edge
invariant-loop-edge l = (r : Rule) (k : ℕ) → IsInflated r k l.inflated → AreParts r k l.parts
    → map as_contact l.contacts.items ≡ map (λ s. contact_by (points_of r.order) (rule_of r) k (edge_name s)
    (lie_of (points_of r.order) (rule_of r) k s))
    (filter (is_of_child (points_of r.order) (rule_of r) k l.child) (map (edge_in r.order) (take (length l.yielded) l.inflated.edges.items)))
