use Rattle.trial_rule_files.proofs.crowded.crowded.Given as goal

abbrev pub ghosts-round : goal.ghosts-round
ghosts-round a = record { name = a.blank.name; parts = a.blank.parts }
