-- Which edges of prototiles meet, and the motions that glue them.
use Rattle.std.specs.Prelude.{◌≡◌, ℕ, ◌<◌, ◌≤◌}
use Rattle.theory_addresses.specs.Address.{Address, Fits, depth}
use Rattle.cyclo_points.specs.Order.{points_of}
use Rattle.theory_dissection.specs.Glue.{IsMet, IsGlueMotion}
use Rattle.rule_model.specs.Tiling.{Tiling, MotionOf, children}
use Rattle.theory_substitution.specs.Motion.{followed}
use Rattle.tile_place.specs.Crossed.{edges_of, placed_tile, IsOnlyAcross}

-- a kind of the tiling has an edge of this number
abbrev pub HasKindEdge : Tiling → ℕ → ℕ → Type 0
HasKindEdge t kind edge = edge < edges_of t kind

-- the address names a tile at most 64 levels deep, which has the edge
pub record CanBeCrossed (t : Tiling) (a : Address) (edge : ℕ) : Type 0 where
  pub fits : Fits (children t) a
  pub no_deeper : depth a ≤ 64
  pub exists : HasKindEdge t a.kind edge

-- some turn below the order takes the vector of edge f of kind l to that of edge e of kind k, reversed
abbrev pub Meets : Tiling → ℕ → ℕ → ℕ → ℕ → Type 0
Meets t k e l f = IsMet (points_of t.order) t.rule k e l f

-- moved by m, edge f of kind l runs from the end of edge e of kind k to its start
abbrev pub Glues : (t : Tiling) → ℕ → ℕ → ℕ → ℕ → MotionOf t → Type 0
Glues t k e l f m = IsGlueMotion (points_of t.order) t.rule k e l f m

-- b is a motion that glues the edges, followed by the motion a of the tile of edge e: the motion of the tile
-- across
pub record IsMotionAcross (t : Tiling) (k e l f : ℕ) (a b : MotionOf t) : Type 0 where
  pub glue : MotionOf t
  pub glues : Glues t k e l f glue
  pub motion_is : b ≡ followed (points_of t.order) glue a

-- the motion of b is the motion m, followed by that of a
abbrev pub LiesBeyond : (t : Tiling) → Address → MotionOf t → Address → Type 0
LiesBeyond t a m b = (placed_tile t b).motion ≡ followed (points_of t.order) m (placed_tile t a).motion

-- Edges across from each other meet, and at most one motion glues them. The tile across lies where that
-- motion, followed by the motion of the edge's own tile, puts it.
abbrev pub GluingLaw : Tiling → Type 0
GluingLaw t =
    (a b : Address) (e f : ℕ) → Fits (children t) a → HasKindEdge t a.kind e → IsOnlyAcross t a e b f
    → Meets t a.kind e b.kind f
    × ((m g : MotionOf t) → Glues t a.kind e b.kind f m → Glues t a.kind e b.kind f g → m ≡ g)
    × ((m : MotionOf t) → Glues t a.kind e b.kind f m → LiesBeyond t a m b)
