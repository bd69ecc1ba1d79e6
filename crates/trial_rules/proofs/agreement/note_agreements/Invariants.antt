use Rattle.trial_rules.proofs.agreement.note_agreements.Given as goal

abbrev pub ghosts-agrees : goal.ghosts-agrees
ghosts-agrees a = record { name = a.blank.name; parts = a.blank.parts }
