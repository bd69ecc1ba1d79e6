use Rattle.std.proofs.Common.{sym, subst, ap, ◌∙◌}
use Rattle.theory_addresses.specs.Coherent.{IsCoherent}
use Rattle.theory_addresses.specs.Tables.{Tables, child_kinds}
use Rattle.tile_shape.specs.Usable.{AreUsable}
use Rattle.rule_model.specs.Tiling.{ListedRule}
use Rattle.builtin_rules.specs.Named.{contacts_named, IsWritten}
use Rattle.builtin_rules.proofs.Admitted.{accepted, its_tables, its_uses}
use Rattle.builtin_rules.proofs.Constants.{coherent, usable}
use Rattle.builtin_rules.proofs.builtin.builtin.Goals as goal

pub tables_from-requires : goal.tables_from-requires
tables_from-requires c = record {
  coherent = subst IsCoherent (sym c.numbers-numbers.ensures.contacts)
      (c.coherence_law.ensures (contacts_named c.args.name) (coherent c.args.name));
}

pub uses_from-requires : goal.uses_from-requires
uses_from-requires c = record {
  usable = subst (λ (t : Tables). AreUsable (child_kinds t))
      (sym c.numbers-numbers.ensures.contacts) (usable c.args.name);
}

pub admit-requires-clause-accepted : goal.admit-requires-clause-accepted
admit-requires-clause-accepted c = accepted c.args.name c.in_ok-rule.rule
    (subst (λ (w : ListedRule). IsWritten w c.in_ok-rule.rule) c.numbers-numbers.ensures.rule c.in_ok-rule.ensures)

pub admit-requires-clause-its_tables : goal.admit-requires-clause-its_tables
admit-requires-clause-its_tables c = its_tables c.args.name c.in_ok-rule.rule c.in_ok-tables.tables
    (subst (λ (w : ListedRule). IsWritten w c.in_ok-rule.rule) c.numbers-numbers.ensures.rule c.in_ok-rule.ensures)
    (c.in_ok-tables.ensures ∙ c.numbers-numbers.ensures.contacts)

pub admit-requires-clause-its_uses : goal.admit-requires-clause-its_uses
admit-requires-clause-its_uses c = its_uses c.args.name c.in_ok-rule.rule c.in_ok-uses.uses
    (subst (λ (w : ListedRule). IsWritten w c.in_ok-rule.rule) c.numbers-numbers.ensures.rule c.in_ok-rule.ensures)
    (c.in_ok-uses.ensures ∙ ap child_kinds c.numbers-numbers.ensures.contacts)
