-- What holds of every accepted rule over the points of P, at every depth: supertiles are dissected by their
-- tiles, and the contact tables say of each edge what holds in the plane.
use Rattle.std.specs.Prelude.{◌≡◌, ◌↔◌, ◌⊎◌, ℕ, ◌<◌, true, List, length}
use Rattle.theory_ring.specs.Sign.{IsPositive, Passes}
use Rattle.theory_plane.specs.Plane.{TestPoint, IsTestPoint}
use Rattle.theory_addresses.specs.Address.{Address}
use Rattle.theory_addresses.specs.Trace.{Cut, HasTrace, first_part}
use Rattle.theory_addresses.specs.Touch.{Touches, IsOnlyTouched}
use Rattle.theory_substitution.specs.Points.{Points}
use Rattle.theory_substitution.specs.Plane.{Keeps}
use Rattle.theory_substitution.specs.RuleParts.{edge_count}
use Rattle.theory_substitution.specs.Supertile.{Placed}
use Rattle.theory_edge_to_edge.specs.Contacts.{tables_of}
use Rattle.theory_edge_to_edge.specs.Edges.{lies_along}
use Rattle.theory_dissection.specs.Accepted.{AcceptedRule, NamesTile, HasEdge}
use Rattle.theory_dissection.specs.Across.{IsTileAcross, IsOnlyTileAcross}
use Rattle.theory_dissection.specs.Crossings.{IsCrossed, IsOutside}
use Rattle.theory_dissection.specs.Glue.{IsGlued}
use Rattle.theory_dissection.specs.OnBoundary.{IsOnBoundary}
use Rattle.theory_dissection.specs.Polygons.{IsDissectedAt}
use Rattle.theory_dissection.specs.TileEdges.{tile_at, kind_edge, image_of}

-- every supertile, moved in any way that keeps turns and segments, is dissected by its tiles
abbrev pub DissectionLaw : Points → Type 0
DissectionLaw P =
    (T : AcceptedRule P) (k n : ℕ) → k < length T.rule.kinds → (f : P.ring.carrier → P.ring.carrier)
    → Keeps P f
    → (p : TestPoint P.real.ops.carrier) → IsTestPoint P.real p → IsDissectedAt P T.rule f k n p

-- to touch by the tables and to be across in the plane are one relation
abbrev pub TouchLaw : Points → Type 0
TouchLaw P =
    (T : AcceptedRule P) (a b : Address) (e f : ℕ) → HasEdge P T.rule a e → NamesTile P T.rule b
    → Touches (tables_of P T.rule) a e b f
    ↔ IsTileAcross P T.rule (tile_at P T.rule a) e (tile_at P T.rule b) f

-- so the only pair that an edge touches is the only tile across it, and conversely
abbrev pub AcrossLaw : Points → Type 0
AcrossLaw P =
    (T : AcceptedRule P) (a b : Address) (e f : ℕ) → HasEdge P T.rule a e → NamesTile P T.rule b
    → IsOnlyTouched (tables_of P T.rule) a e b f
    ↔ IsOnlyTileAcross P T.rule (tile_at P T.rule a) e (tile_at P T.rule b) f

-- an edge lies along this edge of its supertile, on this part of it, if and only if it has a trace to it that
-- begins with this part
abbrev pub BoundaryLaw : Points → Type 0
BoundaryLaw P =
    (T : AcceptedRule P) (a : Address) (e f part : ℕ) → HasEdge P T.rule a e
    → IsOnBoundary P T.rule (tile_at P T.rule a) e f part
    ↔ ((cuts : List Cut) × HasTrace (tables_of P T.rule) a e f cuts × (first_part cuts ≡ part))

-- each edge is crossed to one tile, or lies outside
abbrev pub CrossingLaw : Points → Type 0
CrossingLaw P = (T : AcceptedRule P) (a : Address) (e : ℕ) → HasEdge P T.rule a e
    → IsCrossed P T.rule a e ⊎ IsOutside P T.rule a e

-- Edges of tiles across from each other meet. Followed by the motion of the edge's own tile, a motion that
-- glues the two edges is the motion of the tile across.
abbrev pub GlueLaw : Points → Type 0
GlueLaw P =
    (T : AcceptedRule P) (a : Address) (e : ℕ) → HasEdge P T.rule a e → (b : Placed P.ring.carrier) (f : ℕ)
    → IsTileAcross P T.rule (tile_at P T.rule a) e b f → IsGlued P T.rule (tile_at P T.rule a) e b f

-- No edge of a prototile, moved in any way that keeps turns and segments, runs back along another edge of it,
-- not even along a piece of it. If a line lies along one edge, the reversed line does not lie along the
-- other.
abbrev pub NoReturnLaw : Points → Type 0
NoReturnLaw P =
    (T : AcceptedRule P) (k d e : ℕ) → k < length T.rule.kinds → d < edge_count T.rule k
    → e < edge_count T.rule k
    → (f : P.ring.carrier → P.ring.carrier) → Keeps P f → (u v : P.ring.carrier)
    → lies_along P (image_of P f (kind_edge P T.rule k d)) (record { from = u; to = v }) ≡ true
    → lies_along P (image_of P f (kind_edge P T.rule k e)) (record { from = v; to = u }) ≡ true → ⊥

-- whole multiples of a positive coordinate pass any bound
abbrev pub MultiplesLaw : Points → Type 0
MultiplesLaw P = (x y : P.real.ops.carrier) → IsPositive P.real x → Passes P.real x y
