-- Pairs that are kept in order.
use Rattle.std.specs.Prelude.{◌≡◌, ◌<◌, ◌≤◌, ℕ, List, length, take, drop}
use Rattle.theory_addresses.specs.Search.{IsAmong}
use Rattle.pair_machine.specs.Between.{Pair, IsInOrder}

-- the kept list has the members of the pairs, and no others
pub record ArePairsKept (kept ps : List Pair) : Type 0 where
  pub all : (p : Pair) → IsAmong p ps → IsAmong p kept
  pub only : (p : Pair) → IsAmong p kept → IsAmong p ps

-- no edge has two partners
abbrev pub IsFunctional : List Pair → Type 0
IsFunctional ps = (e f g : ℕ) → IsAmong (record { mine = e; theirs = f }) ps
    → IsAmong (record { mine = e; theirs = g }) ps → f ≡ g

-- a list of partners: in order, of edges below 12
pub record ArePartners (ps : List Pair) : Type 0 where
  pub in_order : IsInOrder ps
  pub below_12 : (p : Pair) → IsAmong p ps → p.mine < 12

-- the place of a pair with this first edge: after the lesser ones, before the greater ones
pub record BelongsAt (ps : List Pair) (mine place : ℕ) : Type 0 where
  pub within : place ≤ length ps
  pub before : (p : Pair) → IsAmong p (take place ps) → p.mine < mine
  pub behind : (p : Pair) → IsAmong p (drop place ps) → mine < p.mine
