-- The list of tiles: a line for each tile.
use Rattle.std.specs.Prelude.{ℕ, List, [], ◌∷◌, ◌++◌, codes}
use Rattle.std.specs.declared.option.Option.{Option}
use Rattle.std.specs.Prelude.{Some, None}
use Rattle.std.specs.Fmt.{decimal}
use Rattle.std.specs.List.{flat_map}
use Rattle.cyclo_points.specs.Text.{motion_text, blank, newline}
use Rattle.tile_shape.specs.Text.{address_text}
use Rattle.tile_shape.specs.Views.{address_of}
use Rattle.layer_api.specs.declared.drawn.Drawn.{Drawn}
use Rattle.layer_api.specs.declared.part.Part.{Part}

-- a part, as `kind turn shift address`
abbrev pub part_text : Part → List ℕ
part_text p = decimal p.kind ++ blank ∷ motion_text p.motion ++ blank ∷ address_text (address_of p.addr)

-- the second half of a whole tile, after ` + `
abbrev pub second_text : Option Part → List ℕ
second_text None = []
second_text (Some p) = codes " + " ++ part_text p

-- the line of a tile
abbrev pub list_line : Drawn → List ℕ
list_line d = part_text d.first ++ second_text d.second ++ newline ∷ []

-- the lines of these tiles
abbrev pub list_text : List Drawn → List ℕ
list_text tiles = flat_map list_line tiles
