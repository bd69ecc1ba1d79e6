-- The result of a crossing, in the plane: the only tile across an edge, and edges on the boundary of the
-- supertile.
use Rattle.std.specs.Prelude.{◌≡◌, ℕ, ◌<◌, true}
use Rattle.theory_addresses.specs.Address.{Address, depth, top_kind}
use Rattle.cyclo_points.specs.Order.{NumberOf, points_of}
use Rattle.theory_dissection.specs.Across.{IsOnlyTileAcross}
use Rattle.theory_dissection.specs.OnBoundary.{IsOnBoundary}
use Rattle.theory_dissection.specs.TileEdges.{edge_of, supertile_edge, tile_at}
use Rattle.theory_edge_to_edge.specs.Edges.{lies_along}
use Rattle.rule_model.specs.Tiling.{Tiling}
use Rattle.theory_substitution.specs.RuleParts.{edge_count}
use Rattle.theory_substitution.specs.Supertile.{Placed}

-- how many edges the rule gives a kind
abbrev pub edges_of : Tiling → ℕ → ℕ
edges_of t kind = edge_count t.rule kind

-- the tile of this address, as it lies in the supertile that the address names
abbrev pub placed_tile : (t : Tiling) → Address → Placed (NumberOf t.order)
placed_tile t a = tile_at (points_of t.order) t.rule a

-- edge f of b is across edge e of a, both placed in their common supertile, and no other edge of a tile of it
-- is
abbrev pub IsOnlyAcross : Tiling → Address → ℕ → Address → ℕ → Type 0
IsOnlyAcross t a e b f = IsOnlyTileAcross (points_of t.order) t.rule (placed_tile t a) e (placed_tile t b) f

-- edge e of a lies along edge `own` of its supertile's polygon
pub record LiesAlong (t : Tiling) (a : Address) (e own : ℕ) : Type 0 where
  pub exists : own < edges_of t (top_kind a)
  pub along : lies_along (points_of t.order)
      (supertile_edge (points_of t.order) t.rule (top_kind a) (depth a) own)
      (edge_of (points_of t.order) t.rule (placed_tile t a) e) ≡ true

-- it lies along none of them
abbrev pub LiesAlongNone : Tiling → Address → ℕ → Type 0
LiesAlongNone t a e = (own : ℕ) → ¬ LiesAlong t a e own

-- edge e of a lies along edge `own` of its supertile's polygon, on this part of it
abbrev pub LiesOnBoundary : Tiling → Address → ℕ → ℕ → ℕ → Type 0
LiesOnBoundary t a e own part = IsOnBoundary (points_of t.order) t.rule (placed_tile t a) e own part

-- edge e of a exists, and lies along edge `own` of its supertile's polygon, on this part of it, and along no
-- other
pub record IsOutside (t : Tiling) (a : Address) (e own part : ℕ) : Type 0 where
  pub exists : e < edges_of t a.kind
  pub along : LiesOnBoundary t a e own part
  pub alone : (top other : ℕ) → LiesOnBoundary t a e top other → (top ≡ own) × (other ≡ part)
