-- The points of an order in the plane: where they lie, boxes around them, squared lengths, test points right
-- of an edge, and the maps that keep left turns, segments and equal lengths.
use Rattle.std.specs.Prelude.{◌≡◌, ℕ, pos, ◌<◌, Bool}
use Rattle.std.specs.Ordering.{is_eq}
use Rattle.theory_ring.specs.Ring.{difference}
use Rattle.theory_substitution.specs.Points.{Points}
use Rattle.theory_ring.specs.Sign.{IsPositive}
use Rattle.theory_plane.specs.Plane.{PlanePoint, orientation}
use Rattle.theory_plane.specs.Segment.{on_segment}
use Rattle.theory_plane.specs.Box.{OpenBox}
use Rattle.theory_plane.specs.Close.{HasPointRight}

abbrev pub plane_point : (P : Points) → P.ring.carrier → PlanePoint P.real.ops.carrier
plane_point P z = record { x = P.x z; y = P.y z }

-- the box around a point of an order
abbrev pub box_at : (P : Points) → P.ring.carrier → ℕ → ℕ → OpenBox P.real.ops.carrier
box_at P centre w h = record { centre = plane_point P centre; w = w; h = h }

-- X of z times its conjugate, which is twice the squared length |z|²
abbrev pub twice_squared_length : (P : Points) → P.ring.carrier → P.real.ops.carrier
twice_squared_length P z = P.x (P.ring.mul z (P.conj z))

-- whether two differences of points have equal squared lengths
abbrev pub same_length : (P : Points) → P.ring.carrier → P.ring.carrier → Bool
same_length P d e = is_eq
    (P.real.sign (difference P.real.ops (twice_squared_length P d) (twice_squared_length P e)))

-- f keeps the sign of each orientation, so left turns too, what lies on a segment, and which segments are
-- equally long
pub record Keeps (P : Points) (f : P.ring.carrier → P.ring.carrier) : Type 0 where
  pub turns : (a b c : P.ring.carrier)
      → P.real.sign (orientation P.real.ops (plane_point P (f a)) (plane_point P (f b)) (plane_point P (f c)))
      ≡ P.real.sign (orientation P.real.ops (plane_point P a) (plane_point P b) (plane_point P c))
  pub segments : (a b p : P.ring.carrier)
      → on_segment P.real (plane_point P (f a)) (plane_point P (f b)) (plane_point P (f p))
      ≡ on_segment P.real (plane_point P a) (plane_point P b) (plane_point P p)
  pub equal_lengths : (a b c d : P.ring.carrier)
      → same_length P (difference P.ring (f b) (f a)) (difference P.ring (f d) (f c))
      ≡ same_length P (difference P.ring b a) (difference P.ring d c)

-- the squared length |l|² is above 1; l may be real or turn the plane
abbrev pub IsGrowthFactor : (P : Points) → P.ring.carrier → Type 0
IsGrowthFactor P l = IsPositive P.real
    (difference P.real.ops (twice_squared_length P l) (P.real.ops.int (pos 2)))

-- every edge between two different points has test points strictly right of it, arbitrarily close to its
-- middle
abbrev pub PointsRightOfEdges : Points → Type 0
PointsRightOfEdges P = (a b : P.ring.carrier) → (¬ a ≡ b) → (n : ℕ) → 0 < n
    → HasPointRight P.real (plane_point P a) (plane_point P b) n
