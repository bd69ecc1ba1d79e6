-- Gluing: the motion that brings an edge of one prototile onto the reverse of an edge of another.
use Rattle.std.specs.Prelude.{◌≡◌, ℕ, ◌<◌, Bool, not, ◌||◌, nat_eq}
use Rattle.theory_ring.specs.Ring.{power}
use Rattle.theory_substitution.specs.Points.{Points}
use Rattle.theory_substitution.specs.Motion.{Motion, followed}
use Rattle.theory_substitution.specs.Rule.{Rule}
use Rattle.theory_substitution.specs.Supertile.{Placed}
use Rattle.theory_edge_to_edge.specs.Edges.{moved_edge}
use Rattle.theory_edge_to_edge.specs.EdgeTypes.{edge_vector}
use Rattle.theory_addresses.specs.Search.{all_below}
use Rattle.theory_dissection.specs.Across.{RunsBack}
use Rattle.theory_dissection.specs.TileEdges.{kind_edge}

-- a turn by ζ^turn takes the vector of edge f of kind l to that of edge e of kind k, reversed
abbrev pub TurnsOnto : (P : Points) → Rule P.ring.carrier → ℕ → ℕ → ℕ → ℕ → ℕ → Type 0
TurnsOnto P r k e l f turn = P.ring.mul (power P.ring P.zeta turn) (edge_vector P r l f)
    ≡ P.ring.neg (edge_vector P r k e)

-- some turn below the order does: edge f of kind l meets edge e of kind k
pub record IsMet (P : Points) (r : Rule P.ring.carrier) (k e l f : ℕ) : Type 0 where
  pub turn : ℕ
  pub below : turn < P.order
  pub turns : TurnsOnto P r k e l f turn

-- the motion brings edge f of kind l onto the reverse of edge e of kind k: moved by it, the edge runs from
-- the end of e to its start
pub record IsGlueMotion (P : Points) (r : Rule P.ring.carrier) (k e l f : ℕ)
    (m : Motion P.ring.carrier) : Type 0 where
  pub below : m.turn < P.order
  pub runs_back : RunsBack (kind_edge P r k e) (moved_edge P r l m f)

-- edge f of tile b meets edge e of tile a; at most one motion glues the two edges; and the motion of b is
-- that motion, followed by the motion of a
pub record IsGlued (P : Points) (r : Rule P.ring.carrier) (a : Placed P.ring.carrier) (e : ℕ)
    (b : Placed P.ring.carrier) (f : ℕ) : Type 0 where
  pub met : IsMet P r a.address.kind e b.address.kind f
  pub alone : (m g : Motion P.ring.carrier) → IsGlueMotion P r a.address.kind e b.address.kind f m
      → IsGlueMotion P r a.address.kind e b.address.kind f g → m ≡ g
  pub motion_is : (m : Motion P.ring.carrier) → IsGlueMotion P r a.address.kind e b.address.kind f m
      → b.motion ≡ followed P m a.motion

-- the turns below the order are different
abbrev pub TurnsDiffer : Points → Type 0
TurnsDiffer P = (i j : ℕ) → i < P.order → j < P.order → power P.ring P.zeta i ≡ power P.ring P.zeta j → i ≡ j

-- the same as a test that computes
abbrev pub turns_differ : Points → Bool
turns_differ P = all_below P.order
    (λ i. all_below P.order (λ j. not (P.same (power P.ring P.zeta i) (power P.ring P.zeta j)) || nat_eq i j))
