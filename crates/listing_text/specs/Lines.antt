-- A text in lines.
use Rattle.std.specs.Prelude.{ℕ, List, [], ◌∷◌, ◌==◌, if◌then◌else◌}
use Rattle.std.specs.List.{onto_first}
use Rattle.cyclo_points.specs.Text.{newline}

-- the lines of a text: each ends with a newline, which may be missing after the last
abbrev pub lines_in : List ℕ → List (List ℕ)
lines_in [] = []
lines_in (byte ∷ bytes) = if byte == newline then [] ∷ lines_in bytes else onto_first byte (lines_in bytes)
