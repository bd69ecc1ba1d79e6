-- The tiles of a supertile in the plane, their edges, and those of the supertile itself.
use Rattle.std.specs.Prelude.{ℕ}
use Rattle.theory_ring.specs.Ring.{power}
use Rattle.theory_substitution.specs.Points.{Points}
use Rattle.theory_addresses.specs.Address.{Address, depth, top_kind}
use Rattle.theory_substitution.specs.Rule.{Rule}
use Rattle.theory_substitution.specs.RuleParts.{next, vertex}
use Rattle.theory_edge_to_edge.specs.Edges.{Edge, moved_edge}
use Rattle.theory_substitution.specs.Placement.{placement}
use Rattle.theory_addresses.specs.Search.{IsAmong}
use Rattle.theory_substitution.specs.Supertile.{Placed, supertile}

-- the tile is one of the supertile that the address a names a tile of
abbrev pub IsTileBeside : (P : Points) → Rule P.ring.carrier → Address → Placed P.ring.carrier → Type 0
IsTileBeside P r a t = IsAmong t (supertile P r (top_kind a) (depth a))

-- the tile of an address, with the motion of Horner's scheme
abbrev pub tile_at : (P : Points) → Rule P.ring.carrier → Address → Placed P.ring.carrier
tile_at P r a = record { address = a; motion = placement P r a.digits }

-- edge number e of a tile
abbrev pub edge_of : (P : Points) → Rule P.ring.carrier → Placed P.ring.carrier → ℕ → Edge P.ring.carrier
edge_of P r t e = moved_edge P r t.address.kind t.motion e

-- a line multiplied by the n-th power of the factor
abbrev pub inflated_line : (P : Points) → Rule P.ring.carrier → ℕ → Edge P.ring.carrier → Edge P.ring.carrier
inflated_line P r n e = record {
  from = P.ring.mul (power P.ring r.factor n) e.from;
  to = P.ring.mul (power P.ring r.factor n) e.to;
}

-- edge number e of the prototile of kind k
abbrev pub kind_edge : (P : Points) → Rule P.ring.carrier → ℕ → ℕ → Edge P.ring.carrier
kind_edge P r k e = record { from = vertex P r k e; to = vertex P r k (next r k e) }

-- an edge, moved by f
abbrev pub image_of : (P : Points) → (P.ring.carrier → P.ring.carrier) → Edge P.ring.carrier
    → Edge P.ring.carrier
image_of P f e = record { from = f e.from; to = f e.to }

-- edge number e of the polygon of the supertile of kind k and depth n
abbrev pub supertile_edge : (P : Points) → Rule P.ring.carrier → ℕ → ℕ → ℕ → Edge P.ring.carrier
supertile_edge P r k n e = inflated_line P r n (kind_edge P r k e)
