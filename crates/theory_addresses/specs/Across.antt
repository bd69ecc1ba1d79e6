-- The answer of a crossing: the one tile across an edge, or the supertile's own edge on which it lies.
use Rattle.std.specs.Prelude.{◌≡◌, ℕ, List, IsSome}
use Rattle.theory_addresses.specs.Address.{Address, depth}
use Rattle.theory_addresses.specs.Tables.{Tables, type_of}
use Rattle.theory_addresses.specs.Touch.{IsOnlyTouched}
use Rattle.theory_addresses.specs.Trace.{Cut, HasTrace, first_part}

-- Edge f of the tile b is across edge e of the tile a. It is touched, and nothing else is. The tile b has the
-- depth of a, and has that edge. From there, the only pair touched is (a, e).
pub record IsAcross (t : Tables) (a : Address) (e : ℕ) (b : Address) (f : ℕ) : Type 0 where
  pub only : IsOnlyTouched t a e b f
  pub same_depth : depth b ≡ depth a
  pub edge_exists : IsSome (type_of t b.kind f)
  pub leads_back : IsOnlyTouched t b f a e

-- the edge lies on this edge of the supertile, in this part of it; part 0 if the tile is the supertile
pub record LiesOn (t : Tables) (a : Address) (e : ℕ) (edge part : ℕ) : Type 0 where
  pub cuts : List Cut
  pub trace : HasTrace t a e edge cuts
  pub is_part : part ≡ first_part cuts
