use Rattle.std.proofs.Common.{◌≡◌, map, take}
use Rattle.edge_tables.specs.Views.{as_kind_tables}
use Rattle.builtin_rules.specs.Numbers.{fixed_type, fixed_kind}
use Rattle.builtin_rules.specs.WrittenTables.{written_tables_of_kind}
use Rattle.builtin_rules.proofs.contacts.tables_from.Given as goal

abbrev pub invariant-loop-edge_type : goal.invariant-loop-edge_type
invariant-loop-edge_type l =
    (l.mates.items ≡ map (λ t. t.mate) (map fixed_type (take l.edge_type-index l.edge_type-items)))
    × (map (λ v. v.items) l.subs.items ≡ map (λ t. t.parts.now) (map fixed_type (take l.edge_type-index l.edge_type-items)))

abbrev pub invariant-loop-kind : goal.invariant-loop-kind
invariant-loop-kind l = map as_kind_tables l.rows.items ≡ map written_tables_of_kind (map fixed_kind (take l.kind-index l.kind-items))
