-- The numbers of open edges.
use Rattle.std.specs.Prelude.{◌≡◌, List, Some, slice_get}
use Rattle.theory_ring.specs.Sign.{Signed}
use Rattle.theory_plane.specs.Box.{OpenBox}
use Rattle.theory_addresses.specs.Search.{IsAmong}
use Rattle.theory_windows.specs.Outlines.{Polygon, edges, MeetsBox}
use Rattle.theory_windows.specs.OpenEdges.{NumberedEdge}
use Rattle.theory_windows.specs.OpenTest.{open_edges_of}

-- the edge of that number of the polygon of that number
pub record IsEdgeAt (S : Signed) (polygons : List (Polygon S)) (o : NumberedEdge S) : Type 0 where
  pub polygon : Polygon S
  pub tile_at : slice_get polygons o.tile ≡ Some polygon
  pub edge_at : slice_get (edges polygon) o.edge ≡ Some o.line

-- an open edge of polygons is the edge of its number of the polygon of its number, and meets the box
abbrev pub OpenNumbers : Signed → Type 0
OpenNumbers S =
    (box : OpenBox S.ops.carrier) (polygons : List (Polygon S)) (o : NumberedEdge S)
    → IsAmong o (open_edges_of S box polygons)
    → IsEdgeAt S polygons o × MeetsBox S box o.line
