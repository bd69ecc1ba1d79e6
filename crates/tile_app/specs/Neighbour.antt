-- What `neighbour` prints for an edge of a tile, and what it refuses.
use Rattle.std.specs.Prelude.{◌≡◌, ℕ, ◌<◌, ◌≤◌, List, [], ◌∷◌, ◌++◌}
use Rattle.std.specs.Fmt.{decimal}
use Rattle.theory_addresses.specs.Address.{Address}
use Rattle.cyclo_points.specs.Text.{blank, newline}
use Rattle.rule_model.specs.Tiling.{Tiling}
use Rattle.tile_place.specs.Crossed.{IsOnlyAcross, LiesAlongNone, IsOutside, edges_of}
use Rattle.tile_shape.specs.Text.{address_text}
use Rattle.call_notes.specs.declared.status.Status.{Status}
use Rattle.call_notes.specs.declared.status.Status.TheVariants.{NoEdge, Outside}

-- the tile across an edge, and its edge that leads back: `address edge`
abbrev pub neighbour_line : Address → ℕ → List ℕ
neighbour_line across edge = address_text across ++ blank ∷ decimal edge ++ newline ∷ []

-- the tile has the edge, and the edge is not on the supertile's boundary: it lies along no edge of its
-- polygon
pub record IsInside (t : Tiling) (a : Address) (edge : ℕ) : Type 0 where
  pub exists : edge < edges_of t a.kind
  pub on_none : LiesAlongNone t a edge

-- The edge is inside the supertile, and the text is the line of a tile and an edge of it. With both tiles
-- placed in their common supertile, it is the only tile across the edge, and its edge leads back.
pub record PrintsNeighbour (t : Tiling) (a : Address) (edge : ℕ) (text : List ℕ) : Type 0 where
  pub inside : IsInside t a edge
  pub across : Address
  pub back : ℕ
  pub only_across : IsOnlyAcross t a edge across back
  pub leads_back : IsOnlyAcross t across back a edge
  pub line : text ≡ neighbour_line across back

-- the tile has so many edges, and not this one
pub record HasNoEdge (t : Tiling) (a : Address) (edge edges : ℕ) : Type 0 where
  pub count : edges ≡ edges_of t a.kind
  pub beyond : edges ≤ edge

-- The cause of each refusal. On the boundary, the edge lies along one edge of the supertile's polygon, in one
-- part of it.
abbrev pub NeighbourRefuses : Tiling → Address → ℕ → Status → Type 0
NeighbourRefuses t a own (NoEdge edge edges) = (edge ≡ own) × HasNoEdge t a own edges
NeighbourRefuses t a own (Outside edge part) = IsOutside t a own edge part
NeighbourRefuses t a own _ = ⊥
