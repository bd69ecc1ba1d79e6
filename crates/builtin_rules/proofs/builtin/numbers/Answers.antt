use Rattle.std.proofs.Common.{sym, ap, ◌∙◌}
use Rattle.builtin_rules.specs.declared.name.Name.TheVariants.{Chair, P2, P3, AmmannBeenker, HalfHex}
use Rattle.builtin_rules.specs.Named.{named, contacts_named}
use Rattle.builtin_rules.proofs.Constants.{its_numbers, its_contacts}
use Rattle.builtin_rules.proofs.builtin.numbers.Goals as goal

pub returns-in-Chair-clause-rule : goal.returns-in-Chair-clause-rule
returns-in-Chair-clause-rule c = its_numbers Chair ∙ ap named (sym c.in-Chair.is)

pub returns-in-Chair-clause-contacts : goal.returns-in-Chair-clause-contacts
returns-in-Chair-clause-contacts c = its_contacts Chair ∙ ap contacts_named (sym c.in-Chair.is)

pub returns-in-P2-clause-rule : goal.returns-in-P2-clause-rule
returns-in-P2-clause-rule c = its_numbers P2 ∙ ap named (sym c.in-P2.is)

pub returns-in-P2-clause-contacts : goal.returns-in-P2-clause-contacts
returns-in-P2-clause-contacts c = its_contacts P2 ∙ ap contacts_named (sym c.in-P2.is)

pub returns-in-P3-clause-rule : goal.returns-in-P3-clause-rule
returns-in-P3-clause-rule c = its_numbers P3 ∙ ap named (sym c.in-P3.is)

pub returns-in-P3-clause-contacts : goal.returns-in-P3-clause-contacts
returns-in-P3-clause-contacts c = its_contacts P3 ∙ ap contacts_named (sym c.in-P3.is)

pub returns-in-AmmannBeenker-clause-rule : goal.returns-in-AmmannBeenker-clause-rule
returns-in-AmmannBeenker-clause-rule c = its_numbers AmmannBeenker ∙ ap named (sym c.in-AmmannBeenker.is)

pub returns-in-AmmannBeenker-clause-contacts : goal.returns-in-AmmannBeenker-clause-contacts
returns-in-AmmannBeenker-clause-contacts c = its_contacts AmmannBeenker ∙ ap contacts_named (sym c.in-AmmannBeenker.is)

pub returns-in-HalfHex-clause-rule : goal.returns-in-HalfHex-clause-rule
returns-in-HalfHex-clause-rule c = its_numbers HalfHex ∙ ap named (sym c.in-HalfHex.is)

pub returns-in-HalfHex-clause-contacts : goal.returns-in-HalfHex-clause-contacts
returns-in-HalfHex-clause-contacts c = its_contacts HalfHex ∙ ap contacts_named (sym c.in-HalfHex.is)
