use Rattle.std.proofs.Common.{◌≡◌, map}
use Rattle.theory_addresses.specs.Search.{below}
use Rattle.theory_edge_to_edge.specs.Contacts.{contacts_of_child}
use Rattle.cyclo_points.specs.Order.{points_of}
use Rattle.edge_tables.specs.Views.{as_contact}
use Rattle.rule_model.specs.Views.{rule_of}
use Rattle.dissect_check.proofs.contacts.contacts_of_kind.Given as goal

abbrev pub invariant-loop-child : goal.invariant-loop-child
invariant-loop-child l = map (λ list. map as_contact list.items) l.lists.items ≡ below
    (contacts_of_child (points_of l.rule.order) (rule_of l.rule) l.kind) l.child
