-- The tile of a supertile that holds a point.
use Rattle.std.specs.Prelude.{◌≡◌, ℕ, pos}
use Rattle.theory_plane.specs.Plane.{TestPoint}
use Rattle.theory_plane.specs.Crossing.{count}
use Rattle.theory_substitution.specs.Points.{Points}
use Rattle.theory_substitution.specs.Rule.{Rule}
use Rattle.theory_addresses.specs.Search.{IsAmong}
use Rattle.theory_substitution.specs.Supertile.{Placed, supertile}
use Rattle.theory_dissection.specs.Polygons.{tile_polygon}

-- t is a tile of the supertile of kind k and depth n, and moved by f it holds the point
pub record IsHolder (P : Points) (r : Rule P.ring.carrier) (f : P.ring.carrier → P.ring.carrier) (k n : ℕ)
    (p : TestPoint P.real.ops.carrier) (t : Placed P.ring.carrier) : Type 0 where
  pub among : IsAmong t (supertile P r k n)
  pub holds : count P.real (tile_polygon P r f t) p ≡ pos 1

-- and no other tile does
pub record HoldsAlone (P : Points) (r : Rule P.ring.carrier) (f : P.ring.carrier → P.ring.carrier) (k n : ℕ)
    (p : TestPoint P.real.ops.carrier) (t : Placed P.ring.carrier) : Type 0 where
  pub holder : IsHolder P r f k n p t
  pub only : (u : Placed P.ring.carrier) → IsHolder P r f k n p u → u ≡ t
