use Rattle.std.proofs.Common.{rules, map}
use Rattle.edge_tables.specs.Views.{as_contact, as_child_edge}
use Rattle.builtin_rules.proofs.Lists.{same_through}
use Rattle.builtin_rules.proofs.contacts.kind_contacts.Goals as goal

pub returns : goal.returns
returns c =
    let numbers = c.args.numbers.now in
    let contacts = same_through (map as_contact) c.in_ok-copied_lists.field-0.items numbers.contacts.now c.in_ok-copied_lists.ensures in
    let parts = same_through (map as_child_edge) c.in_ok-copied_lists-2.field-0.items numbers.parts.now c.in_ok-copied_lists-2.ensures in
    search rules
