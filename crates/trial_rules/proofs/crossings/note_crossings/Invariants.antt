use Rattle.trial_rules.proofs.crossings.note_crossings.Given as goal

abbrev pub ghosts-note_rows : goal.ghosts-note_rows
ghosts-note_rows a = record { name = a.blank.name; parts = a.blank.parts }
