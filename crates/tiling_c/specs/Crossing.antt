-- The tile across an edge, as plain numbers.
use Rattle.std.specs.Prelude.{◌≡◌, ◌↔◌, ◌⊎◌, ◌≤◌, ◌<◌, ℕ, List, length, get_or}
use Rattle.rule_model.specs.Tiling.{Tiling}
use Rattle.tile_place.specs.Crossed.{IsOnlyAcross, IsOutside, LiesAlongNone, edges_of}
use Rattle.c_values.specs.declared.plain_address.PlainAddress.{PlainAddress}
use Rattle.c_values.specs.declared.plain_crossing.PlainCrossing.{PlainCrossing}
use Rattle.c_values.specs.Addresses.{address_in, NamesTile}
use Rattle.c_values.specs.Statuses.{ok, bad_words, bad_address, outside, no_edge}
use Rattle.tiling_c.specs.Arrays.{plain_address_at, crossing_at}

-- What a call shows of an address and an edge: the address has become that of the only tile across the edge,
-- and `back` is its edge that leads back; or the address is unchanged, and the status shows why.
pub record ShowsCrossing (t : Tiling) (old : PlainAddress) (edge : ℕ) (new : PlainAddress)
    (crossing : PlainCrossing) : Type 0 where
  -- in the plane, with both tiles placed in their common supertile
  pub across : crossing.status ≡ ok → IsOnlyAcross t (address_in old) edge (address_in new) crossing.back
  pub leads_back : crossing.status ≡ ok → IsOnlyAcross t (address_in new) crossing.back (address_in old) edge
  pub names : crossing.status ≡ ok → NamesTile t new
  pub inside : crossing.status ≡ ok → LiesAlongNone t (address_in old) edge
  -- each refusal comes only for its cause
  pub on_boundary : crossing.status ≡ outside → IsOutside t (address_in old) edge crossing.back crossing.part
  pub names_none : (crossing.status ≡ bad_address) ↔ (¬ NamesTile t old)
  pub lacks_edge : (crossing.status ≡ no_edge) ↔ (NamesTile t old × (edges_of t old.kind ≤ edge))
  pub unchanged : ¬ crossing.status ≡ ok → new ≡ old
  pub statuses : (crossing.status ≡ ok) ⊎ (crossing.status ≡ bad_address) ⊎ (crossing.status ≡ outside)
      ⊎ (crossing.status ≡ no_edge)

-- in an array: the same, with 0 for each number that the status leaves without a meaning
pub record ShowsCrossingInArray (t : Tiling) (old : PlainAddress) (edge : ℕ) (new : PlainAddress)
    (crossing : PlainCrossing) : Type 0 where
  pub crossed : ShowsCrossing t old edge new crossing
  pub no_back : ¬ crossing.status ≡ ok → ¬ crossing.status ≡ outside → crossing.back ≡ 0
  pub no_part : ¬ crossing.status ≡ outside → crossing.part ≡ 0

-- what a call shows of an array of addresses and one of edges: how each edge is crossed, or that there are
-- other lengths
pub record ShowsCrossings (t : Tiling) (addrs : List PlainAddress) (edges : List ℕ)
    (crossings : List PlainCrossing) (new_addrs : List PlainAddress) (new_crossings : List PlainCrossing)
    (status : ℕ) : Type 0 where
  pub each : status ≡ ok → (i : ℕ) → i < length edges
      → ShowsCrossingInArray t (plain_address_at addrs i) (get_or edges i 0)
      (plain_address_at new_addrs i) (crossing_at new_crossings i)
  pub not_asked : (status ≡ bad_words)
      ↔ (¬ ((length addrs ≡ length edges) × (length crossings ≡ length edges)))
  pub statuses : (status ≡ ok) ⊎ (status ≡ bad_words)
