-- The open edges of tiles: those that meet a window and have none of the tiles across them.
use Rattle.std.specs.Prelude.{◌≡◌, ◌⊎◌, ℕ, suc, false, List, [], ◌∷◌, ◌++◌, map}
use Rattle.std.specs.List.{flat_map, enumerate_from}
use Rattle.theory_ring.specs.Sign.{Signed}
use Rattle.theory_plane.specs.Box.{OpenBox}
use Rattle.theory_addresses.specs.Search.{IsAmong}
use Rattle.theory_windows.specs.Outlines.{PlaneEdge, Polygon, edges, is_reverse, MeetsBox}

-- edge number `edge` of tile number `tile`, and where it lies
pub record NumberedEdge (S : Signed) : Type 0 where
  pub tile : ℕ
  pub edge : ℕ
  pub line : PlaneEdge S

-- the edges of tile number i, and those of tiles from number i on, by tile and then edge
abbrev pub edges_of_tile : (S : Signed) → ℕ → Polygon S → List (NumberedEdge S)
edges_of_tile S i polygon =
    map (λ e. record { tile = i; edge = e.0; line = e.1 }) (enumerate_from 0 (edges polygon))

abbrev pub numbered_from : (S : Signed) → ℕ → List (Polygon S) → List (NumberedEdge S)
numbered_from S i [] = []
numbered_from S i (polygon ∷ polygons) = edges_of_tile S i polygon ++ numbered_from S (suc i) polygons

-- e meets the box, and none of these edges is its reverse
pub record IsOpen (S : Signed) (box : OpenBox S.ops.carrier) (lines : List (PlaneEdge S))
    (e : PlaneEdge S) : Type 0 where
  pub meets : MeetsBox S box e
  pub unmet : (f : PlaneEdge S) → IsAmong f lines → is_reverse S e f ≡ false

-- ys are those of xs that have the property, in their order
abbrev pub AreThose : {A : Type 0} → (A → Type 0) → List A → List A → Type 0
AreThose Has [] ys = ys ≡ []
AreThose {A} Has (x ∷ xs) ys = (Has x × (rest : List A) × (ys ≡ x ∷ rest) × AreThose Has xs rest)
    ⊎ ((¬ Has x) × AreThose Has xs ys)

-- these are, by tile and then edge, those edges of the tiles that meet the box and have none of these tiles'
-- edges for their reverse
abbrev pub AreOpenEdges : (S : Signed) → OpenBox S.ops.carrier → List (Polygon S) → List (NumberedEdge S)
    → Type 0
AreOpenEdges S box polygons open_now =
    AreThose (λ (n : NumberedEdge S). IsOpen S box (flat_map edges polygons) n.line)
    (numbered_from S 0 polygons) open_now
