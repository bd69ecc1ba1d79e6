use Rattle.list_verify.proofs.walk.Walk.run.Given as goal

abbrev pub ghosts-go : goal.ghosts-go
ghosts-go a = record { name = a.blank.name; parts = a.blank.parts }
