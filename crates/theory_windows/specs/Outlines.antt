-- Outlines of tiles: polygons by their vertices, and their directed edges.
use Rattle.std.specs.Prelude.{Bool, ◌&&◌, List, [], ◌∷◌}
use Rattle.theory_ring.specs.Sign.{Signed}
use Rattle.theory_plane.specs.Plane.{PlanePoint}
use Rattle.theory_plane.specs.Segment.{same_place}
use Rattle.theory_plane.specs.Box.{OpenBox, EdgeMeetsBox}
use Rattle.theory_edge_to_edge.specs.Edges.{Edge}

-- the edges from cur along the vertices and back to first
abbrev pub edges_from : {A : Type 0} → A → A → List A → List (Edge A)
edges_from first cur [] = record { from = cur; to = first } ∷ []
edges_from first cur (v ∷ vs) = record { from = cur; to = v } ∷ edges_from first v vs

-- the edges of a polygon: edge i runs from vertex i to the next, and the last one to vertex 0
abbrev pub edges : {A : Type 0} → List A → List (Edge A)
edges [] = []
edges (v ∷ vs) = edges_from v v vs

-- a polygon in the plane, by its vertices
abbrev pub Polygon : Signed → Type 0
Polygon S = List (PlanePoint S.ops.carrier)

-- a directed edge in the plane
abbrev pub PlaneEdge : Signed → Type 0
PlaneEdge S = Edge (PlanePoint S.ops.carrier)

-- some test point in the open box lies on the closed edge
abbrev pub MeetsBox : (S : Signed) → OpenBox S.ops.carrier → PlaneEdge S → Type 0
MeetsBox S box e = EdgeMeetsBox S e.from e.to box

-- whether f is e traversed backwards: it runs from the end of e to its start
abbrev pub is_reverse : (S : Signed) → PlaneEdge S → PlaneEdge S → Bool
is_reverse S e f = same_place S f.from e.to && same_place S f.to e.from
