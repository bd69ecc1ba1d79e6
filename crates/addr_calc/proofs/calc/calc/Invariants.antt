use Rattle.addr_calc.proofs.calc.calc.Given as goal

-- the counter is named after the blank that is handed over
abbrev pub ghosts-calculated : goal.ghosts-calculated
ghosts-calculated a = record { name = a.blank.name; parts = a.blank.parts }
