-- The supertile of a kind and depth: the list of all its tiles, each with its address and its motion.
use Rattle.std.specs.Prelude.{◌≡◌, ℕ, zero, suc, List, [], ◌∷◌, ◌++◌, map}
use Rattle.std.specs.List.{flat_map, enumerate_from}
use Rattle.theory_ring.specs.Ring.{power}
use Rattle.theory_substitution.specs.Points.{Points}
use Rattle.theory_substitution.specs.Motion.{Motion, still, followed}
use Rattle.theory_addresses.specs.Address.{Address, depth, top_kind}
use Rattle.theory_addresses.specs.Search.{IsAmong}
use Rattle.theory_substitution.specs.Rule.{Child, Rule, children_of}

-- a tile of a supertile: its address, and the motion that brings its prototile to its place
pub record Placed (A : Type 0) : Type 0 where
  pub address : Address
  pub motion : Motion A

-- a child's motion (turn, shift) in a supertile whose children have depth n: (turn, λ^n shift)
abbrev pub inflated : (P : Points) → Rule P.ring.carrier → ℕ → Motion P.ring.carrier → Motion P.ring.carrier
inflated P r n m = record { turn = m.turn; shift = P.ring.mul (power P.ring r.factor n) m.shift }

-- a tile of child number i of kind k, as a tile of the supertile of kind k and depth n + 1: one coarse digit
-- more, and moved as the child is
abbrev pub lifted : (P : Points) → Rule P.ring.carrier → ℕ → ℕ → ℕ → Child P.ring.carrier
    → Placed P.ring.carrier → Placed P.ring.carrier
lifted P r k n i c t = record {
  address = record {
    kind = t.address.kind;
    digits = t.address.digits ++ record { child = i; parent = k } ∷ [];
  };
  motion = followed P t.motion (inflated P r n c.motion);
}

-- the tiles of the supertile of kind k and depth n: the one tile itself, or the tiles of each child's
-- supertile in order
abbrev pub supertile : (P : Points) → Rule P.ring.carrier → ℕ → ℕ → List (Placed P.ring.carrier)
supertile P r k zero = record { address = record { kind = k; digits = [] }; motion = still P } ∷ []
supertile P r k (suc n) =
    flat_map (λ c. map (lifted P r k n c.0 c.1) (supertile P r c.1.kind n))
    (enumerate_from 0 (children_of r k))

-- the motion is listed with the address in the list of its supertile's tiles, and no other is
pub record StandsBeside (P : Points) (r : Rule P.ring.carrier) (a : Address)
    (m : Motion P.ring.carrier) : Type 0 where
  pub among : IsAmong (record { address = a; motion = m }) (supertile P r (top_kind a) (depth a))
  pub alone : (g : Motion P.ring.carrier)
      → IsAmong (record { address = a; motion = g }) (supertile P r (top_kind a) (depth a)) → g ≡ m
