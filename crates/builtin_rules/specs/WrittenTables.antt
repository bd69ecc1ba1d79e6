-- The contact tables that are written down with the numbers of a rule.
use Rattle.std.specs.Prelude.{map}
use Rattle.theory_addresses.specs.Tables.{Tables, KindTables}
use Rattle.edge_tables.specs.Views.{as_contact, as_child_edge}
use Rattle.builtin_rules.specs.Numbers.{KindBy, RuleBy, Fixed}

abbrev pub written_tables_of_kind : KindBy Fixed → KindTables
written_tables_of_kind k = record {
  types = k.edges.now;
  children = map (λ child. child.kind) k.children.now;
  contacts = map (λ list. map as_contact list.now) k.contacts.now;
  parts = map (λ list. map as_child_edge list.now) k.parts.now;
}

abbrev pub written_tables : RuleBy Fixed → Tables
written_tables r = record {
  mates = map (λ t. t.mate) r.types.now;
  subs = map (λ t. t.parts.now) r.types.now;
  kinds = map written_tables_of_kind r.kinds.now;
}
