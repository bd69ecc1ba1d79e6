-- Paths as arguments: numbers from 0 to 255, with commas between them.
use Rattle.std.specs.Prelude.{ℕ, List, [], ◌∷◌, ◌++◌, length, Some, None, nat_le, if◌then◌else◌}
use Rattle.std.specs.declared.option.Option.{Option}
use Rattle.std.specs.Option.{option_map, option_and_then}
use Rattle.tile_shape.specs.Decimal.{number_up_to}
use Rattle.tile_shape.specs.Text.{comma}
use Rattle.tile_shape.specs.Words.{texts_between}

-- the numbers that texts are, if each is a number
abbrev pub numbers : List (List ℕ) → Option (List ℕ)
numbers [] = Some []
numbers (piece ∷ rest) =
    option_and_then (λ n. option_map (λ ns. n ∷ ns) (numbers rest)) (number_up_to 255 piece)

-- numbers before others
abbrev pub put : List ℕ → Option (List ℕ) → Option (List ℕ)
put front found = option_map (λ ns. front ++ ns) found

-- the greatest number of edges of a path
abbrev pub longest_path : ℕ
longest_path = 1000

-- the numbers, unless there are too many
abbrev pub unless_long : Option (List ℕ) → Option (List ℕ)
unless_long found = option_and_then (λ path. if nat_le (length path) longest_path then Some path else None)
    found

-- the path that a text is
abbrev pub path_in : List ℕ → Option (List ℕ)
path_in text = unless_long (numbers (texts_between comma text))
