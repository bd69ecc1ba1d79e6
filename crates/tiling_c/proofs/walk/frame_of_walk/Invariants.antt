use Rattle.tiling_c.proofs.walk.frame_of_walk.Given as goal

abbrev pub ghosts-grow_along : goal.ghosts-grow_along
ghosts-grow_along a = record { name = a.blank.name; parts = a.blank.parts }
