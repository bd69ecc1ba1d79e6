use Rattle.edge_tables.specs.Views.{as_contact, as_child_edge}
use Rattle.edge_tables.proofs.Copies.{same_view}
use Rattle.edge_tables.proofs.kind_rows.KindRows.copy.Goals as goal

pub returns : goal.returns
returns c = λ i. record {
  types = c.in_ok-copied.ensures i;
  children = c.in_ok-copied-2.ensures i;
  contacts = same_view as_contact c.in_ok-copied_lists.field-0.items c.args.self.now.contacts.items c.in_ok-copied_lists.ensures i;
  parts = same_view as_child_edge c.in_ok-copied_lists-2.field-0.items c.args.self.now.parts.items c.in_ok-copied_lists-2.ensures i;
}
