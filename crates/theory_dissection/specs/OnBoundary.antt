-- Edges on the boundary of a supertile.
use Rattle.std.specs.Prelude.{◌≡◌, ℕ, zero, suc, ◌<◌, true, Some, slice_get}
use Rattle.theory_substitution.specs.Points.{Points}
use Rattle.theory_addresses.specs.Address.{depth, top_kind}
use Rattle.theory_substitution.specs.Rule.{Rule}
use Rattle.theory_substitution.specs.RuleParts.{edge_count}
use Rattle.theory_edge_to_edge.specs.Edges.{Edge, PlacedEdge, lies_along}
use Rattle.theory_edge_to_edge.specs.Boundary.{parts_of_edge}
use Rattle.theory_edge_to_edge.specs.Contacts.{parts_or_none}
use Rattle.theory_substitution.specs.Supertile.{Placed}
use Rattle.theory_dissection.specs.TileEdges.{IsTileBeside, edge_of, inflated_line, supertile_edge}

-- a line lies along part number `part` of edge number f of the supertile of kind k and depth n; the edge of a
-- prototile is one part
abbrev pub LiesOnPart : (P : Points) → Rule P.ring.carrier → ℕ → ℕ → ℕ → ℕ → Edge P.ring.carrier → Type 0
LiesOnPart P r k zero f part e = part ≡ 0
LiesOnPart P r k (suc n) f part e =
    (s : PlacedEdge P.ring.carrier) × (slice_get (parts_or_none (parts_of_edge P r k f)) part ≡ Some s)
    × (lies_along P (inflated_line P r n s.line) e ≡ true)

-- edge e of tile a lies along edge number f of the polygon of the tile's supertile, on part number `part` of
-- it
pub record IsOnBoundary (P : Points) (r : Rule P.ring.carrier) (a : Placed P.ring.carrier)
    (e f part : ℕ) : Type 0 where
  pub own : IsTileBeside P r a.address a
  pub edge_exists : f < edge_count r (top_kind a.address)
  pub along : lies_along P (supertile_edge P r (top_kind a.address) (depth a.address) f) (edge_of P r a e)
      ≡ true
  pub on_part : LiesOnPart P r (top_kind a.address) (depth a.address) f part (edge_of P r a e)
