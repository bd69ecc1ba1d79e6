-- A tile of a tiling, and a whole tile, as they are drawn.
use Rattle.std.specs.Prelude.{◌≡◌, ℕ, ◌<◌, ◌^◌, map, [], Option, None, Some, length}
use Rattle.std.specs.Option.{option_map}
use Rattle.theory_substitution.specs.Motion.{moved}
use Rattle.theory_substitution.specs.RuleParts.{vertices_of}
use Rattle.cyclo_points.specs.declared.order.Order.{Order}
use Rattle.cyclo_points.specs.declared.point.Point.{Point}
use Rattle.cyclo_points.specs.declared.motion.Motion.{Motion}
use Rattle.cyclo_points.specs.Motion.{motion_in}
use Rattle.cyclo_points.specs.Order.{NumberOf, points_of, coefficients}
use Rattle.cyclo_points.specs.Point.{point_in, IsOf, IsWithin}
use Rattle.half_glue.specs.declared.whole_tile.WholeTile.{WholeTile}
use Rattle.half_glue.specs.Outline.{glue_edge_of, outline_of}
use Rattle.rule_model.specs.Glue.{IsOnlyGlueEdge}
use Rattle.rule_model.specs.Tiling.{Tiling}
use Rattle.tile_place.specs.declared.placed_tile.PlacedTile.{PlacedTile}
use Rattle.layer_api.specs.declared.drawn.Drawn.{Drawn}
use Rattle.layer_api.specs.declared.part.Part.{Part}

-- a number of an order as a point of the program
abbrev pub point_of_number : (o : Order) → NumberOf o → Point
point_of_number o z = record { c = coefficients o z }

-- The tile as it is drawn without glue: its kind is its class, its prototile moved by its motion is its
-- outline, and it has no second part.
abbrev pub drawn_of : Tiling → PlacedTile → Drawn
drawn_of t x = record {
  class = x.kind;
  outline = record {
    items = map (λ z. point_of_number t.order (moved (points_of t.order) (motion_in t.order x.motion) z))
        (vertices_of t.rule x.kind);
  };
  first = record { kind = x.kind; motion = x.motion; addr = x.addr };
  second = None;
}

-- a tile as a part of what is drawn
abbrev pub part_drawn : PlacedTile → Part
part_drawn x = record { kind = x.kind; motion = x.motion; addr = x.addr }

-- a part of what is drawn as a tile
abbrev pub tile_drawn : Part → PlacedTile
tile_drawn p = record { kind = p.kind; motion = p.motion; addr = p.addr }

-- the whole tile of these parts
abbrev pub whole_by : Part → Option Part → WholeTile
whole_by first second = record { first = tile_drawn first; second = option_map tile_drawn second }

-- a tile with its kind and its place, without its address
abbrev pub tile_place : PlacedTile → PlacedTile
tile_place x = record {
  kind = x.kind;
  motion = x.motion;
  addr = record { kind = 0; digits = record { items = [] } };
}

abbrev pub whole_place : WholeTile → WholeTile
whole_place w = record { first = tile_place w.first; second = option_map tile_place w.second }

-- The whole tile as it is drawn: the kind of its first half is its class, the halves glued are its outline,
-- and they are its parts.
abbrev pub drawn_whole : Tiling → WholeTile → Drawn
drawn_whole t w = record {
  class = w.first.kind;
  outline = record { items = map (point_of_number t.order) (outline_of t w) };
  first = part_drawn w.first;
  second = option_map part_drawn w.second;
}

-- where a motion takes a vertex of a prototile
abbrev pub placed_point : Order → Motion → Point → Point
placed_point o m v = point_of_number o (moved (points_of o) (motion_in o m) (point_in o v))

-- a tile whose outline can be written: its kind exists, and its motion is one of the order with no refused
-- shift
pub record CanBeDrawn (t : Tiling) (x : PlacedTile) : Type 0 where
  pub exists : x.kind < length t.rule.kinds
  pub turn_below : x.motion.turn < (points_of t.order).order
  pub in_order : IsOf t.order x.motion.shift
  pub within : IsWithin (2 ^ 24) x.motion.shift

-- a half whose outline can be written: it has one glue edge, which is the first
pub record IsDrawableHalf (t : Tiling) (x : PlacedTile) : Type 0 where
  pub can : CanBeDrawn t x
  pub edge : ℕ
  pub glue_edge : IsOnlyGlueEdge t.rule x.kind edge
  pub first : glue_edge_of t.rule x.kind ≡ edge

-- a tile alone, or two halves, that can be drawn
abbrev pub CanBeDrawnBy : Tiling → PlacedTile → Option PlacedTile → Type 0
CanBeDrawnBy t a None = CanBeDrawn t a
CanBeDrawnBy t a (Some b) = IsDrawableHalf t a × IsDrawableHalf t b

abbrev pub CanBeDrawnWhole : Tiling → WholeTile → Type 0
CanBeDrawnWhole t w = CanBeDrawnBy t w.first w.second
