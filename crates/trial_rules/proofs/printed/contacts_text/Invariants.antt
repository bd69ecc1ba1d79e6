use Rattle.trial_rules.proofs.printed.contacts_text.Given as goal

abbrev pub ghosts-contacts_from : goal.ghosts-contacts_from
ghosts-contacts_from a = record { name = a.blank.name; parts = a.blank.parts }
