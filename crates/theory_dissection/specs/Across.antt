-- The tile across an edge, in the plane.
use Rattle.std.specs.Prelude.{◌≡◌, ℕ, ◌<◌}
use Rattle.theory_substitution.specs.Points.{Points}
use Rattle.theory_substitution.specs.Rule.{Rule}
use Rattle.theory_substitution.specs.RuleParts.{edge_count}
use Rattle.theory_edge_to_edge.specs.Edges.{Edge}
use Rattle.theory_substitution.specs.Supertile.{Placed}
use Rattle.theory_dissection.specs.TileEdges.{IsTileBeside, edge_of}

-- f runs from the end of e to its start
pub record RunsBack {A : Type 0} (e f : Edge A) : Type 0 where
  pub from_end : f.from ≡ e.to
  pub to_start : f.to ≡ e.from

-- edge f of tile b is across edge e of tile a: the two are different tiles of one supertile, and edge f runs
-- from the end of e to its start
pub record IsTileAcross (P : Points) (r : Rule P.ring.carrier) (a : Placed P.ring.carrier) (e : ℕ)
    (b : Placed P.ring.carrier) (f : ℕ) : Type 0 where
  pub own : IsTileBeside P r a.address a
  pub beside : IsTileBeside P r a.address b
  pub other : b.address ≡ a.address → ⊥
  pub edge_exists : f < edge_count r b.address.kind
  pub runs_back : RunsBack (edge_of P r a e) (edge_of P r b f)

-- and no other edge of any tile is
pub record IsOnlyTileAcross (P : Points) (r : Rule P.ring.carrier) (a : Placed P.ring.carrier) (e : ℕ)
    (b : Placed P.ring.carrier) (f : ℕ) : Type 0 where
  pub across : IsTileAcross P r a e b f
  pub only : (c : Placed P.ring.carrier) (g : ℕ) → IsTileAcross P r a e c g → (c ≡ b) × (g ≡ f)

-- no tile is across the edge
abbrev pub HasNoneAcross : (P : Points) → Rule P.ring.carrier → Placed P.ring.carrier → ℕ → Type 0
HasNoneAcross P r a e = (c : Placed P.ring.carrier) (g : ℕ) → ¬ IsTileAcross P r a e c g
