-- The polygons of a supertile and of its tiles, and what it is for the one to be made up of the others.
use Rattle.std.specs.Prelude.{◌≡◌, ◌⊎◌, ℕ, pos, cond, List, map}
use Rattle.theory_ring.specs.Ring.{power}
use Rattle.theory_plane.specs.Plane.{PlanePoint, TestPoint}
use Rattle.theory_plane.specs.Crossing.{count, member}
use Rattle.theory_substitution.specs.Points.{Points}
use Rattle.theory_substitution.specs.Plane.{plane_point}
use Rattle.theory_substitution.specs.Motion.{moved}
use Rattle.theory_substitution.specs.Rule.{Rule}
use Rattle.theory_substitution.specs.RuleParts.{vertices_of}
use Rattle.theory_addresses.specs.Search.{IsAmong}
use Rattle.theory_substitution.specs.Supertile.{Placed, supertile}
use Rattle.theory_dissection.specs.Sums.{sum_over, number_of}

-- the polygon of a tile, moved by f
abbrev pub tile_polygon : (P : Points) → Rule P.ring.carrier → (P.ring.carrier → P.ring.carrier)
    → Placed P.ring.carrier → List (PlanePoint P.real.ops.carrier)
tile_polygon P r f t = map (λ z. plane_point P (f (moved P t.motion z))) (vertices_of r t.address.kind)

-- the polygon of the supertile of kind k and depth n, moved by f
abbrev pub supertile_polygon : (P : Points) → Rule P.ring.carrier → (P.ring.carrier → P.ring.carrier) → ℕ → ℕ
    → List (PlanePoint P.real.ops.carrier)
supertile_polygon P r f k n =
    map (λ z. plane_point P (f (P.ring.mul (power P.ring r.factor n) z))) (vertices_of r k)

-- At the test point p, the counts of the tiles of the supertile of kind k and depth n, all moved by f, add up
-- to the supertile's, and each of these counts is 0 or 1. The point belongs to exactly one tile if it belongs
-- to the supertile, and otherwise to none.
pub record IsDissectedAt (P : Points) (r : Rule P.ring.carrier) (f : P.ring.carrier → P.ring.carrier)
    (k n : ℕ) (p : TestPoint P.real.ops.carrier) : Type 0 where
  pub adds_up : sum_over (λ t. count P.real (tile_polygon P r f t) p) (supertile P r k n)
      ≡ count P.real (supertile_polygon P r f k n) p
  pub whole : (count P.real (supertile_polygon P r f k n) p ≡ pos 0)
      ⊎ (count P.real (supertile_polygon P r f k n) p ≡ pos 1)
  pub each : (t : Placed P.ring.carrier) → IsAmong t (supertile P r k n)
      → (count P.real (tile_polygon P r f t) p ≡ pos 0) ⊎ (count P.real (tile_polygon P r f t) p ≡ pos 1)
  pub one : number_of (λ t. member P.real (tile_polygon P r f t) p) (supertile P r k n)
      ≡ cond (member P.real (supertile_polygon P r f k n) p) 1 0
