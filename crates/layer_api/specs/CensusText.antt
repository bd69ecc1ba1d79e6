-- The census: the number of tiles of each class, and of all tiles.
use Rattle.std.specs.Prelude.{ℕ, zero, suc, List, [], ◌∷◌, ◌++◌, length, codes, count_by, ◌==◌}
use Rattle.std.specs.Fmt.{decimal}
use Rattle.cyclo_points.specs.Text.{blank, newline}
use Rattle.layer_api.specs.declared.drawn.Drawn.{Drawn}

-- the number of these tiles that have this class
abbrev pub count_of : ℕ → List Drawn → ℕ
count_of class tiles = count_by (λ (d : Drawn). d.class == class) tiles

-- the line of a class, as `class count`
abbrev pub class_line : ℕ → List Drawn → List ℕ
class_line class tiles = decimal class ++ blank ∷ decimal (count_of class tiles) ++ newline ∷ []

-- the lines of all classes below a number, from 0 up
abbrev pub class_lines : ℕ → List Drawn → List ℕ
class_lines zero tiles = []
class_lines (suc k) tiles = class_lines k tiles ++ class_line k tiles

-- a line for each kind, and a line for all tiles
abbrev pub census_text : ℕ → List Drawn → List ℕ
census_text kinds tiles = class_lines kinds tiles ++ codes "all " ++ decimal (length tiles) ++ newline ∷ []
