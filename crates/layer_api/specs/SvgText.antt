-- The picture as SVG: a head, a path for each tile, and a tail.
use Rattle.std.specs.Prelude.{ℕ, ◌+◌, ◌*◌, ◌/◌, ◌%◌, ◌==◌, List, [], ◌∷◌, ◌++◌, map, codes, if◌then◌else◌}
use Rattle.std.specs.List.{flat_map, join_with_byte}
use Rattle.std.specs.Fmt.{decimal, signed_decimal}
use Rattle.theory_ring.specs.Ring.{difference}
use Rattle.cyclo_points.specs.declared.order.Order.{Order}
use Rattle.cyclo_points.specs.declared.order.Order.TheVariants.{Four, Six, Eight, Ten}
use Rattle.cyclo_points.specs.declared.point.Point.{Point}
use Rattle.cyclo_points.specs.Order.{NumberOf, points_of}
use Rattle.cyclo_points.specs.Point.{point_in}
use Rattle.cyclo_points.specs.Text.{blank}
use Rattle.cyclo_points.specs.Thousandths.{thousandths}
use Rattle.layer_api.specs.declared.drawn.Drawn.{Drawn}
use Rattle.layer_api.specs.declared.view.View.{View}

-- sin(2π/n) in millionths, rounded: the length of a unit of Y
abbrev pub height : Order → ℕ
height Four = 1000000
height Six = 866025
height Eight = 707107
height Ten = 587785

-- a thousandth of that length, as a decimal
abbrev pub scale_text : Order → List ℕ
scale_text Four = codes "0.001"
scale_text Six = codes "0.000866025"
scale_text Eight = codes "0.000707107"
scale_text Ten = codes "0.000587785"

-- half a number, as its whole part and `.0` or `.5`
abbrev pub half_text : ℕ → List ℕ
half_text n = decimal (n / 2) ++ (if n % 2 == 0 then codes ".0" else codes ".5")

-- the six figures of a number below 1,000,000
abbrev pub six_figures : ℕ → List ℕ
six_figures n = (48 + n / 100000 % 10) ∷ (48 + n / 10000 % 10) ∷ (48 + n / 1000 % 10) ∷ (48 + n / 100 % 10) ∷
    (48 + n / 10 % 10) ∷ (48 + n % 10) ∷ []

-- this number of millionths, as the whole part, a point and six figures
abbrev pub millionths_text : ℕ → List ℕ
millionths_text n = decimal (n / 1000000) ++ codes "." ++ six_figures (n % 1000000)

-- The head: the box of the view around its centre, in lengths, and the scale, which turns Y upwards. Two
-- units of X are a length.
abbrev pub head_text : View → List ℕ
head_text v =
    codes "<svg xmlns=\"http://www.w3.org/2000/svg\" version=\"1.1\" viewBox=\"-" ++ half_text v.w
    ++ codes " -" ++ millionths_text (v.h * height v.order)
    ++ codes " " ++ decimal v.w
    ++ codes " " ++ millionths_text (2 * v.h * height v.order)
    ++ codes "\">\n<g transform=\"scale(0.0005 -" ++ scale_text v.order
    ++ codes ")\" fill=\"none\" stroke=\"black\" stroke-width=\"40\">\n"

-- a vertex: its X and Y from the centre in thousandths, rounded down to integers
abbrev pub vertex_text : View → Point → List ℕ
vertex_text v p =
    let d : NumberOf v.order =
    difference (points_of v.order).ring (point_in v.order p) (point_in v.order v.centre) in
    signed_decimal (thousandths v.order ((points_of v.order).x d))
    ++ blank ∷ signed_decimal (thousandths v.order ((points_of v.order).y d))

-- the path of a tile: its class, and its vertices joined by `L`, whose code is 76
abbrev pub path_line : View → Drawn → List ℕ
path_line v d =
    codes "<path class=\"k" ++ decimal d.class ++ codes "\" d=\"M"
    ++ join_with_byte 76 (map (vertex_text v) d.outline.items) ++ codes "Z\"/>\n"

-- the end
abbrev pub tail_text : List ℕ
tail_text = codes "</g>\n</svg>\n"

abbrev pub svg_text : View → List Drawn → List ℕ
svg_text v tiles = head_text v ++ flat_map (path_line v) tiles ++ tail_text
