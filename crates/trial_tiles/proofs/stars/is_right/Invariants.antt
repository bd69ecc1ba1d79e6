use Rattle.trial_tiles.proofs.stars.is_right.Given as goal

abbrev pub ghosts-star_text : goal.ghosts-star_text
ghosts-star_text a = record { name = a.blank.name; parts = a.blank.parts }
