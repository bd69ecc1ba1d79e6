-- How one tile lies to another, as plain numbers.
use Rattle.std.specs.Prelude.{◌≡◌, ◌≢◌, ◌↔◌, ◌⊎◌, ◌<◌, ◌≤◌, ℕ, List, get_or}
use Rattle.theory_addresses.specs.Address.{Address}
use Rattle.pair_machine.specs.Between.{HaveCommon}
use Rattle.rule_model.specs.Tiling.{Tiling}
use Rattle.tile_place.specs.Crossed.{IsOnlyAcross, edges_of}
use Rattle.c_values.specs.declared.plain_address.PlainAddress.{PlainAddress}
use Rattle.c_values.specs.declared.plain_relation.PlainRelation.{PlainRelation}
use Rattle.c_values.specs.Addresses.{address_in, NamesTile}
use Rattle.c_values.specs.Statuses.{ok, bad_address}

-- the number that stands for no edge
abbrev pub no_back : ℕ
no_back = 255

-- the number shows which edge of b lies on edge e of a: across edge e of a is this edge of b and no other,
-- and across it is edge e of a; or it is 255, and no edge of b lies there
pub record ShowsBack (t : Tiling) (a : Address) (e : ℕ) (b : Address) (back : ℕ) : Type 0 where
  pub exactly : (f : ℕ) → IsOnlyAcross t a e b f ↔ ((f ≡ back) × (back < no_back))
  pub leads_back : back < no_back → IsOnlyAcross t b back a e

-- the numbers of a list show it for each edge of a, and all after them are 255
pub record AreBacks (t : Tiling) (a b : Address) (backs : List ℕ) : Type 0 where
  pub each : (e : ℕ) → e < edges_of t a.kind → ShowsBack t a e b (get_or backs e no_back)
  pub none_behind : (e : ℕ) → edges_of t a.kind ≤ e → get_or backs e no_back ≡ no_back

-- some number of a list is that of an edge
pub record HasBack (backs : List ℕ) : Type 0 where
  pub edge : ℕ
  pub back : get_or backs edge no_back < no_back

-- The number is 0 for two tiles without a common supertile. With one, it is 1 if both are the same tile; for
-- two tiles it is 3 if they share an edge, and 2 if they don't.
pub record ShowsHow (a b : Address) (backs : List ℕ) (relation : ℕ) : Type 0 where
  pub strangers : relation ≡ 0 → ¬ HaveCommon a b
  pub same : relation ≡ 1 → HaveCommon a b × (a ≡ b)
  pub apart : relation ≡ 2 → HaveCommon a b × (a ≢ b) × (¬ HasBack backs)
  pub beside : relation ≡ 3 → HaveCommon a b × (a ≢ b) × HasBack backs
  pub at_most_3 : relation ≤ 3

-- the numbers show the shared edges, and how the tiles lie to each other
pub record ShowsRelation (t : Tiling) (a b : Address) (p : PlainRelation) : Type 0 where
  pub backs : AreBacks t a b p.backs
  pub how : ShowsHow a b p.backs p.relation

-- what a call shows of two addresses: how the tiles lie to each other, or that one of them names no tile
pub record ShowsPair (t : Tiling) (a b : PlainAddress) (p : PlainRelation) (status : ℕ) : Type 0 where
  -- in the plane, with both tiles placed in their common supertile: every edge of one that lies on an edge of
  -- the other
  pub relation : status ≡ ok → ShowsRelation t (address_in a) (address_in b) p
  pub named : (status ≡ ok) ↔ (NamesTile t a × NamesTile t b)
  pub statuses : (status ≡ ok) ⊎ (status ≡ bad_address)
