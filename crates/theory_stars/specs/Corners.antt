-- Corners of tiles, the corner after one in turning order, and turns from corner to corner.
use Rattle.std.specs.Prelude.{◌≡◌, ℕ, zero, suc, List, [], ◌∷◌, map, length, slice_get, Some, IsTrue}
use Rattle.theory_ring.specs.Sign.{Signed}
use Rattle.theory_plane.specs.Plane.{PlanePoint}
use Rattle.theory_addresses.specs.Search.{IsAmong}
use Rattle.theory_windows.specs.Outlines.{PlaneEdge, edges, is_reverse}
use Rattle.theory_windows.specs.Patch.{Patch}

-- a tile and the number of one of its vertices
pub record Corner (T : Type 0) : Type 0 where
  pub tile : T
  pub vertex : ℕ

-- the corner's vertex is v
abbrev pub IsCornerAt : (S : Signed) (T : Type 0) → Patch S T → PlanePoint S.ops.carrier → Corner T → Type 0
IsCornerAt S T P v c = IsAmong c.tile P.tiles × (slice_get (P.outline c.tile) c.vertex ≡ Some v)

-- the number of the edge that ends at a vertex, by the number of vertices
abbrev pub edge_into : ℕ → ℕ → ℕ
edge_into zero i = zero
edge_into (suc m) zero = m
edge_into (suc m) (suc i) = i

-- d comes after c: across the edge of c's tile that ends at its vertex lies d's tile, with the edge that
-- starts at d's vertex
pub record IsNext (S : Signed) (T : Type 0) (P : Patch S T) (c d : Corner T) : Type 0 where
  pub into : PlaneEdge S
  pub out : PlaneEdge S
  pub of_patch : IsAmong d.tile P.tiles
  pub ends : slice_get (edges (P.outline c.tile)) (edge_into (length (P.outline c.tile)) c.vertex) ≡ Some into
  pub starts : slice_get (edges (P.outline d.tile)) d.vertex ≡ Some out
  pub back : IsTrue (is_reverse S into out)

-- from c on each comes after the one before
abbrev pub Turns : (S : Signed) (T : Type 0) → Patch S T → Corner T → List (Corner T) → Type 0
Turns S T P c [] = Unit {0}
Turns S T P c (d ∷ ds) = IsNext S T P c d × Turns S T P d ds

-- the last corner from c on
abbrev pub last_corner : {T : Type 0} → Corner T → List (Corner T) → Corner T
last_corner c [] = c
last_corner c (d ∷ ds) = last_corner d ds

-- from the base in turning order, and back to it for the first time
pub record IsTurn (S : Signed) (T : Type 0) (P : Patch S T) (base : Corner T)
    (others : List (Corner T)) : Type 0 where
  pub in_order : Turns S T P base others
  pub back : IsNext S T P (last_corner base others) base
  pub first_time : ¬ IsAmong base others

abbrev pub corner_tiles : {T : Type 0} → List (Corner T) → List T
corner_tiles corners = map (λ c. c.tile) corners
