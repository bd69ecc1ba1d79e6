use Rattle.tiling_c.proofs.pairing.tiling_pair.Given as goal

abbrev pub ghosts-pair : goal.ghosts-pair
ghosts-pair a = record { name = a.blank.name; parts = a.blank.parts }
