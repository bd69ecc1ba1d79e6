use Rattle.window_cover.proofs.tiles_of_window.by_search.Given as goal

abbrev pub ghosts-searched : goal.ghosts-searched
ghosts-searched a = record { name = a.blank.name; parts = a.blank.parts }
