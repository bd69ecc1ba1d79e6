-- What `check` prints; it refuses nothing of an accepted rule.
use Rattle.std.specs.Prelude.{ℕ, List, [], ◌∷◌, ◌++◌, codes, length}
use Rattle.std.specs.Fmt.{decimal}
use Rattle.cyclo_points.specs.Text.{newline}
use Rattle.cyclo_points.specs.Order.{points_of}
use Rattle.rule_model.specs.Tiling.{Tiling}

-- the line of an accepted rule: `accepted order N kinds K types T`
abbrev pub check_line : Tiling → List ℕ
check_line t =
    codes "accepted order " ++ decimal (points_of t.order).order ++ codes " kinds "
    ++ decimal (length t.rule.kinds)
    ++ codes " types " ++ decimal (length t.rule.types) ++ newline ∷ []
