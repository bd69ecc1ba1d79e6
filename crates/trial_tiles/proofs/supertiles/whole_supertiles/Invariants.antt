use Rattle.trial_tiles.proofs.supertiles.whole_supertiles.Given as goal

abbrev pub ghosts-counted : goal.ghosts-counted
ghosts-counted g a = record { name = a.blank.name; parts = a.blank.parts }
