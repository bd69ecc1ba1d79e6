-- Paths: numbers of edges, each crossed from the tile to which those before it lead.
use Rattle.std.specs.Prelude.{◌≡◌, ℕ, ◌<◌, ◌≤◌, List, [], ◌∷◌, ◌++◌}
use Rattle.theory_addresses.specs.Address.{Address, Fits}
use Rattle.rule_model.specs.Tiling.{Tiling, children}
use Rattle.tile_place.specs.Crossed.{IsOnlyAcross, edges_of}
use Rattle.theory_walks.specs.Boundary.{IsBoundaryEdge}

-- edge e of the tile a exists and is inside the supertile; the tile b is across it, with its edge f, and no
-- other is
pub record Crosses (t : Tiling) (a : Address) (e : ℕ) (b : Address) (f : ℕ) : Type 0 where
  pub edge_exists : e < edges_of t a.kind
  pub inside : ¬ IsBoundaryEdge t a e
  pub fits : Fits (children t) b
  pub across : IsOnlyAcross t a e b f

-- the path leads from the tile a to the tile b
abbrev pub Leads : Tiling → Address → List ℕ → Address → Type 0
Leads t a [] b = b ≡ a
Leads t a (e ∷ path) b = (x : Address) × (f : ℕ) × Crosses t a e x f × Leads t x path b

-- it can be walked to its end
abbrev pub CanBeWalked : Tiling → Address → List ℕ → Type 0
CanBeWalked t a path = (b : Address) × Leads t a path b

-- the path comes to edge e of the tile b
pub record ComesTo (t : Tiling) (a : Address) (path : List ℕ) (b : Address) (e : ℕ) : Type 0 where
  pub front : List ℕ
  pub rest : List ℕ
  pub split : path ≡ front ++ e ∷ rest
  pub leads : Leads t a front b

-- it is stopped there, since that edge exists and is on the boundary
pub record IsStoppedAt (t : Tiling) (a : Address) (path : List ℕ) (b : Address) (e : ℕ) : Type 0 where
  pub comes : ComesTo t a path b e
  pub edge_exists : e < edges_of t b.kind
  pub on_boundary : IsBoundaryEdge t b e

-- it is stopped at some tile
abbrev pub IsStopped : Tiling → Address → List ℕ → Type 0
IsStopped t a path = (b : Address) × (e : ℕ) × IsStoppedAt t a path b e

-- it comes to a tile that has this number of edges, and not that one
pub record LacksEdge (t : Tiling) (a : Address) (path : List ℕ) (e edges : ℕ) : Type 0 where
  pub tile : Address
  pub comes : ComesTo t a path tile e
  pub count : edges ≡ edges_of t tile.kind
  pub beyond : edges ≤ e
