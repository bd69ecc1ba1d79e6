-- The line of a tile in its place.
use Rattle.std.specs.Prelude.{ℕ, List, [], ◌∷◌, ◌++◌, codes, None, Some}
use Rattle.std.specs.declared.option.Option.{Option}
use Rattle.std.specs.Fmt.{decimal}
use Rattle.theory_addresses.specs.Address.{Address}
use Rattle.cyclo_points.specs.declared.order.Order.{Order}
use Rattle.cyclo_points.specs.Order.{NumberOf}
use Rattle.cyclo_points.specs.Text.{number_text, blank, newline}
use Rattle.theory_substitution.specs.Motion.{Motion}
use Rattle.tile_shape.specs.Text.{address_text}

-- the number of an edge or a vertex, or `-` if there is none
abbrev pub number_or_dash : Option ℕ → List ℕ
number_or_dash None = codes "-"
number_or_dash (Some number) = decimal number

-- the line of a tile: `kind turn shift address number`
abbrev pub tile_line : (o : Order) → Address → Motion (NumberOf o) → Option ℕ → List ℕ
tile_line o a m number =
    decimal a.kind ++ blank ∷ decimal m.turn ++ blank ∷ number_text o m.shift ++ blank ∷ address_text a
    ++ blank ∷ number_or_dash number ++ newline ∷ []
