-- How two tiles lie to each other, in the plane.
use Rattle.std.specs.Prelude.{◌≡◌, ◌≢◌, ◌↔◌, ℕ, ◌<◌, List, []}
use Rattle.theory_addresses.specs.Address.{Address}
use Rattle.theory_addresses.specs.Search.{IsAmong}
use Rattle.pair_machine.specs.Between.{Pair, HaveCommon, IsInOrder}
use Rattle.rule_model.specs.Tiling.{Tiling}
use Rattle.tile_place.specs.Crossed.{IsOnlyAcross, edges_of}

pub data Relation : Type 0 where
  -- they have no common supertile
  Strangers : Relation
  -- they are one tile
  Same : Relation
  -- no edge of one lies on an edge of the other
  Apart : Relation
  -- these edges of the first lie on these edges of the second
  Beside : List Pair → Relation

-- These are all pairs (e, f), in the order of e, such that edge f of b is across edge e of a, and no other
-- edge of a tile is. Both tiles are placed in their common supertile. From there, edge e of a is the only one
-- across edge f of b.
pub record AreAllAcross (t : Tiling) (a b : Address) (pairs : List Pair) : Type 0 where
  pub in_order : IsInOrder pairs
  pub only_across : (e f : ℕ)
      → IsAmong (record { mine = e; theirs = f }) pairs ↔ ((e < edges_of t a.kind) × IsOnlyAcross t a e b f)
  pub leads_back : (e f : ℕ) → IsAmong (record { mine = e; theirs = f }) pairs → IsOnlyAcross t b f a e

-- Strangers if they have no common supertile. Otherwise Same if they have one address. Otherwise Apart or
-- Beside, by whether edges of them lie on each other.
abbrev pub IsRelation : Tiling → Address → Address → Relation → Type 0
IsRelation t a b Strangers = HaveCommon a b → ⊥
IsRelation t a b Same = HaveCommon a b × (a ≡ b)
IsRelation t a b Apart = HaveCommon a b × (a ≢ b) × AreAllAcross t a b []
IsRelation t a b (Beside pairs) = HaveCommon a b × (a ≢ b) × AreAllAcross t a b pairs × (pairs ≢ [])
