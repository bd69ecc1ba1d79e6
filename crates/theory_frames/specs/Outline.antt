-- The outline of a supertile that is moved, and whether it holds a point. A supertile of depth n is the
-- prototile scaled by λ^n.
use Rattle.std.specs.Prelude.{ℕ, Bool, List, map}
use Rattle.theory_ring.specs.Ring.{power}
use Rattle.theory_plane.specs.Plane.{test_point}
use Rattle.theory_plane.specs.Crossing.{member}
use Rattle.theory_substitution.specs.Points.{Points}
use Rattle.theory_substitution.specs.Plane.{plane_point}
use Rattle.theory_substitution.specs.Motion.{Motion, moved}
use Rattle.theory_substitution.specs.Rule.{Rule}
use Rattle.theory_substitution.specs.RuleParts.{vertices_of}

-- the vertices of the prototile of kind k, scaled and then moved by m, in order
abbrev pub outline : (P : Points) → Rule P.ring.carrier → ℕ → P.ring.carrier → Motion P.ring.carrier
    → List P.ring.carrier
outline P r k scale m = map (λ z. moved P m (P.ring.mul scale z)) (vertices_of r k)

-- the polygon with these vertices holds a point
abbrev pub holds_point : (P : Points) → List P.ring.carrier → P.ring.carrier → Bool
holds_point P vertices p =
    member P.real (map (plane_point P) vertices) (test_point P.real.ops (plane_point P p))

-- the supertile of kind k and depth n, moved by m, holds a point
abbrev pub supertile_holds : (P : Points) → Rule P.ring.carrier → ℕ → ℕ → Motion P.ring.carrier
    → P.ring.carrier → Bool
supertile_holds P r k n m p = holds_point P (outline P r k (power P.ring r.factor n) m) p
