-- Kinds and tiles that a caller may name, and their shapes.
use Rattle.std.specs.Prelude.{◌≡◌, ◌↔◌, ◌⊎◌, ◌<◌, ℕ, List, length}
use Rattle.cyclo_points.specs.declared.point.Point.{Point}
use Rattle.rule_model.specs.declared.rule.Rule.{Rule}
use Rattle.rule_model.specs.Glue.{IsGlueEdge, IsOnlyGlueEdge}
use Rattle.rule_model.specs.Tiling.{Tiling, tiling_of}
use Rattle.rule_model.specs.Views.{as_rule}
use Rattle.theory_substitution.specs.RuleParts.{vertices_of}
use Rattle.tile_place.specs.Corners.{AreCorners}
use Rattle.tile_place.specs.Crossed.{edges_of}
use Rattle.c_values.specs.declared.plain_outline.PlainOutline.{PlainOutline}
use Rattle.c_values.specs.declared.plain_tile.PlainTile.{PlainTile}
use Rattle.c_values.specs.Outlines.{HoldsOutline}
use Rattle.c_values.specs.Statuses.{ok, bad_words, no_edge}
use Rattle.c_values.specs.Tiles.{GivesMotion, motion_of}

-- the tiling has a kind of this number
abbrev pub HasKind : Tiling → ℕ → Type 0
HasKind t kind = kind < length t.rule.kinds

-- its kind is one of the tiling, and its turn and shift give a motion
pub record IsPlainTile (t : Tiling) (p : PlainTile) : Type 0 where
  pub kind_exists : HasKind t p.kind
  pub motion_given : GivesMotion t.order p

-- what a call shows of a kind: how many edges it has, or that the tiling has no such kind
pub record ShowsEdges (t : Tiling) (kind count status : ℕ) : Type 0 where
  pub edges : status ≡ ok → count ≡ edges_of t kind
  pub not_asked : (status ≡ bad_words) ↔ (¬ HasKind t kind)
  pub statuses : (status ≡ ok) ⊎ (status ≡ bad_words)

-- the corners of its prototile, as the rule has them
pub record ShowsPrototile (r : Rule) (kind : ℕ) (old new : PlainOutline) (status : ℕ) : Type 0 where
  pub corners : status ≡ ok → HoldsOutline (vertices_of (as_rule r) kind) old new
  pub not_asked : (status ≡ bad_words) ↔ (¬ HasKind (tiling_of r) kind)
  pub statuses : (status ≡ ok) ⊎ (status ≡ bad_words)

-- its only glue edge, or that it has none
pub record ShowsGlueEdge (t : Tiling) (kind edge status : ℕ) : Type 0 where
  pub only : status ≡ ok → IsOnlyGlueEdge t.rule kind edge
  pub lacks_edge : (status ≡ no_edge) ↔ (HasKind t kind × ((e : ℕ) → ¬ IsGlueEdge t.rule kind e))
  pub not_asked : (status ≡ bad_words) ↔ (¬ HasKind t kind)
  pub statuses : (status ≡ ok) ⊎ (status ≡ bad_words) ⊎ (status ≡ no_edge)

-- the outline has the corners of this tile at its place, and the entries after them are unchanged
pub record HoldsCornersOf (t : Tiling) (tile : PlainTile) (old new : PlainOutline) : Type 0 where
  pub corners : List Point
  pub are : AreCorners t tile.kind (motion_of tile) corners
  pub held : HoldsOutline corners old new

-- what a call shows of a tile: its corners, each the vertex with the same number of the prototile, moved by
-- the tile's motion; or that the numbers are no tile
pub record ShowsCorners (t : Tiling) (tile : PlainTile) (old new : PlainOutline) (status : ℕ) : Type 0 where
  pub corners : status ≡ ok → HoldsCornersOf t tile old new
  pub not_asked : (status ≡ bad_words) ↔ (¬ IsPlainTile t tile)
  pub statuses : (status ≡ ok) ⊎ (status ≡ bad_words)
