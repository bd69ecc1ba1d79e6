use Rattle.tiling_c.proofs.walk.tiling_walk.Given as goal

abbrev pub ghosts-put_tiles : goal.ghosts-put_tiles
ghosts-put_tiles a = record { name = a.blank.name; parts = a.blank.parts }
