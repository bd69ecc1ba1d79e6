-- By which edges two tiles of one supertile touch.
use Rattle.std.specs.Prelude.{◌≡◌, ◌↔◌, ◌<◌, ℕ, List, [], ◌∷◌}
use Rattle.theory_addresses.specs.Address.{Address, depth, top_kind}
use Rattle.theory_addresses.specs.Search.{IsAmong}
use Rattle.theory_addresses.specs.Tables.{Tables}
use Rattle.theory_addresses.specs.Touch.{Touches}

-- an edge of the one tile, and an edge of the other
pub record Pair : Type 0 where
  pub mine : ℕ
  pub theirs : ℕ

-- two addresses have a common supertile when their depths are equal and their kinds at that depth are equal
pub record HaveCommon (a b : Address) : Type 0 where
  pub one_depth : depth a ≡ depth b
  pub one_top : top_kind a ≡ top_kind b

-- every further edge has a greater number
abbrev pub AllAbove : ℕ → List Pair → Type 0
AllAbove e [] = Unit {0}
AllAbove e (p ∷ ps) = (e < p.mine) × AllAbove e ps

-- the edges of the first tile are in order, each at most once
abbrev pub IsInOrder : List Pair → Type 0
IsInOrder [] = Unit {0}
IsInOrder (p ∷ ps) = AllAbove p.mine ps × IsInOrder ps

-- the list of all (e, f) for which (a, e) touches (b, f), in the order of e
pub record IsBetween (t : Tables) (a b : Address) (pairs : List Pair) : Type 0 where
  pub in_order : IsInOrder pairs
  pub touching : (e f : ℕ) → IsAmong (record { mine = e; theirs = f }) pairs ↔ Touches t a e b f
