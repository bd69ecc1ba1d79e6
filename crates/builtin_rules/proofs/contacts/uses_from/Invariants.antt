use Rattle.std.proofs.Common.{◌≡◌, map, take}
use Rattle.builtin_rules.specs.Numbers.{fixed_kind}
use Rattle.builtin_rules.specs.WrittenTables.{written_tables_of_kind}
use Rattle.builtin_rules.proofs.contacts.uses_from.Given as goal

abbrev pub invariant-loop-kind : goal.invariant-loop-kind
invariant-loop-kind l = map (λ v. v.items) l.rows.items ≡ map (λ k. k.children)
    (map written_tables_of_kind (map fixed_kind (take l.kind-index l.kind-items)))
