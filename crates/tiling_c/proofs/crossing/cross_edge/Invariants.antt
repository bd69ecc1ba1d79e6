use Rattle.tiling_c.proofs.crossing.cross_edge.Given as goal

abbrev pub ghosts-cross : goal.ghosts-cross
ghosts-cross a = record { name = a.blank.name; parts = a.blank.parts }
