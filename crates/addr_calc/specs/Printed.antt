-- The lines that a script prints.
use Rattle.std.specs.Prelude.{ℕ, ◌+◌, List, [], ◌∷◌, ◌++◌, Option, Some, None, codes, decimal}
use Rattle.theory_addresses.specs.Address.{Address}
use Rattle.cyclo_points.specs.Order.{NumberOf}
use Rattle.cyclo_points.specs.Text.{number_text, blank, newline}
use Rattle.cyclo_points.specs.declared.order.Order.{Order}
use Rattle.pair_machine.specs.Between.{Pair}
use Rattle.theory_substitution.specs.Motion.{Motion}
use Rattle.tile_shape.specs.Text.{address_text, slash}
use Rattle.addr_calc.specs.Relation.{Relation}
use Rattle.addr_calc.specs.Relation.Relation.{Strangers, Same, Apart, Beside}

-- the letter of a name
abbrev pub letter : ℕ → ℕ
letter name = 97 + name

-- a name, as `name address`
abbrev pub show_line : ℕ → Address → List ℕ
show_line name a = letter name ∷ blank ∷ address_text a ++ newline ∷ []

-- where a tile lies, as `name kind turn shift`
abbrev pub line_of_place : (o : Order) → ℕ → ℕ → Motion (NumberOf o) → List ℕ
line_of_place o name kind m = letter name ∷ blank ∷ decimal kind ++ blank ∷ decimal m.turn
    ++ blank ∷ number_text o m.shift ++ newline ∷ []

-- a tile across an edge, and the edge there that leads back, as `name address edge`
abbrev pub across_line : ℕ → Address → ℕ → List ℕ
across_line name a edge = letter name ∷ blank ∷ address_text a ++ blank ∷ decimal edge ++ newline ∷ []

-- a level, or `none`
abbrev pub level_text : Option ℕ → List ℕ
level_text None = codes "none"
level_text (Some level) = decimal level

-- two names, as `name name level`
abbrev pub common_line : ℕ → ℕ → Option ℕ → List ℕ
common_line one other level = letter one ∷ blank ∷ letter other ∷ blank ∷ level_text level ++ newline ∷ []

-- an edge of the first tile and one of the second, as `edge/edge`
abbrev pub pair_text : Pair → List ℕ
pair_text p = decimal p.mine ++ slash ∷ decimal p.theirs

-- pairs of edges, a blank before each
abbrev pub pairs_text : List Pair → List ℕ
pairs_text [] = []
pairs_text (p ∷ ps) = blank ∷ pair_text p ++ pairs_text ps

-- how two tiles lie to each other: a name, or the pairs of edges
abbrev pub relation_text : Relation → List ℕ
relation_text Strangers = codes " none"
relation_text Same = codes " same"
relation_text Apart = codes " apart"
relation_text (Beside pairs) = pairs_text pairs

-- two names, as `name name relation`
abbrev pub pair_line : ℕ → ℕ → Relation → List ℕ
pair_line one other relation = letter one ∷ blank ∷ letter other ∷ relation_text relation ++ newline ∷ []
