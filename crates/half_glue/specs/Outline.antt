-- Outlines of whole tiles.
use Rattle.std.specs.Prelude.{◌≡◌, ℕ, suc, ◌-◌, List, [], ◌∷◌, ◌++◌, length, map, take, drop, find, Option, None, Some, unwrap_or}
use Rattle.theory_plane.specs.Plane.{TestPoint}
use Rattle.theory_plane.specs.Crossing.{count}
use Rattle.theory_addresses.specs.Search.{below}
use Rattle.theory_substitution.specs.Motion.{moved}
use Rattle.theory_substitution.specs.Plane.{plane_point}
use Rattle.theory_substitution.specs.Rule.{Rule}
use Rattle.theory_substitution.specs.RuleParts.{vertices_of, edge_count, edge_type}
use Rattle.cyclo_points.specs.Motion.{motion_in}
use Rattle.cyclo_points.specs.Order.{NumberOf, points_of}
use Rattle.theory_dissection.specs.Polygons.{tile_polygon}
use Rattle.theory_dissection.specs.Sums.{sum_over}
use Rattle.rule_model.specs.Glue.{is_glued, IsOnlyGlueEdge}
use Rattle.rule_model.specs.Tiling.{Tiling}
use Rattle.tile_place.specs.Searched.{placed_in}
use Rattle.tile_place.specs.declared.placed_tile.PlacedTile.{PlacedTile}
use Rattle.theory_windows.specs.Outlines.{Polygon}
use Rattle.theory_walks.specs.Frames.{FrameValue, IsFrameOf}
use Rattle.half_glue.specs.declared.whole_tile.WholeTile.{WholeTile}
use Rattle.half_glue.specs.WholeTiles.{IsWholeTile}

-- the first edge of a kind along which it is glued, and 0 if there is none
abbrev pub glue_edge_of : {A : Type 0} → Rule A → ℕ → ℕ
glue_edge_of r k = unwrap_or (find (λ e. is_glued r (edge_type r k e)) (below (λ e. e) (edge_count r k))) 0

-- a list, begun after entry number e, and ended with it
abbrev pub begun_behind : {A : Type 0} → ℕ → List A → List A
begun_behind e xs = drop (suc e) xs ++ take (suc e) xs

-- a list without its first and its last entry
abbrev pub inner_of : {A : Type 0} → List A → List A
inner_of xs = drop 1 (take (length xs - 1) xs)

-- Edge e of the first polygon is glued to edge f of the second. First come the vertices of the first, from
-- the end of e around to its start. Then come those of the second that are not on f, in their order.
abbrev pub glued : {A : Type 0} → ℕ → List A → ℕ → List A → List A
glued e vs f ws = begun_behind e vs ++ inner_of (begun_behind f ws)

-- the vertices of a tile in its place, in their order
abbrev pub vertices_in_place : (t : Tiling) → PlacedTile → List (NumberOf t.order)
vertices_in_place t x =
    map (moved (points_of t.order) (motion_in t.order x.motion)) (vertices_of t.rule x.kind)

-- the outline of a tile alone, or of two halves
abbrev pub outline_by : (t : Tiling) → PlacedTile → Option PlacedTile → List (NumberOf t.order)
outline_by t a None = vertices_in_place t a
outline_by t a (Some b) =
    glued (glue_edge_of t.rule a.kind) (vertices_in_place t a) (glue_edge_of t.rule b.kind)
    (vertices_in_place t b)

-- the vertices of a whole tile's outline
abbrev pub outline_of : (t : Tiling) → WholeTile → List (NumberOf t.order)
outline_of t w = outline_by t w.first w.second

-- the tiles of a whole tile
abbrev pub parts_by : PlacedTile → Option PlacedTile → List PlacedTile
parts_by a None = a ∷ []
parts_by a (Some b) = a ∷ b ∷ []

abbrev pub whole_parts : WholeTile → List PlacedTile
whole_parts w = parts_by w.first w.second

-- the outline as a polygon of the plane
abbrev pub polygon_of_whole : (t : Tiling) → WholeTile → Polygon (points_of t.order).real
polygon_of_whole t w = map (plane_point (points_of t.order)) (outline_of t w)

-- the polygon of a tile in its place
abbrev pub polygon_of_part : (t : Tiling) → PlacedTile → Polygon (points_of t.order).real
polygon_of_part t x = tile_polygon (points_of t.order) t.rule (λ z. z) (placed_in t.order x)

-- at each test point the outline counts as its parts do together
abbrev pub CountsAsParts : Tiling → WholeTile → Type 0
CountsAsParts t w =
    (p : TestPoint (points_of t.order).real.ops.carrier)
    → count (points_of t.order).real (polygon_of_whole t w) p
    ≡ sum_over (λ x. count (points_of t.order).real (polygon_of_part t x) p) (whole_parts w)

-- this holds for each whole tile of a frame
abbrev pub WholesCountLaw : Tiling → Type 0
WholesCountLaw t = (f : FrameValue) (w : WholeTile) → IsFrameOf t f → IsWholeTile t f w → CountsAsParts t w

-- the only glue edge of a kind is its first one
abbrev pub FirstGlueEdgeLaw : Tiling → Type 0
FirstGlueEdgeLaw t = (kind e : ℕ) → IsOnlyGlueEdge t.rule kind e → glue_edge_of t.rule kind ≡ e
