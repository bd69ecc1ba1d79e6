-- Closed segments, and edges that lie along others.
use Rattle.std.specs.Prelude.{◌≡◌, Bool, not, ◌&&◌, ◌||◌}
use Rattle.std.specs.Ordering.{is_eq}
use Rattle.theory_ring.specs.Ring.{difference}
use Rattle.theory_ring.specs.Sign.{Signed}
use Rattle.theory_ring.specs.Sign.{IsPositive, IsNonNegative, at_most}
use Rattle.theory_plane.specs.Plane.{PlanePoint, orientation}

-- low ≤ r ≤ high
abbrev pub within : (S : Signed) → S.ops.carrier → S.ops.carrier → S.ops.carrier → Bool
within S low r high = at_most S low r && at_most S r high

-- whether r lies between s and t, whichever of them is the greater
abbrev pub between : (S : Signed) → S.ops.carrier → S.ops.carrier → S.ops.carrier → Bool
between S s r t = within S s r t || within S t r s

-- whether p is on the closed segment ab: on its line, and between its ends in X and in Y
abbrev pub on_segment : (S : Signed) → PlanePoint S.ops.carrier → PlanePoint S.ops.carrier
    → PlanePoint S.ops.carrier → Bool
on_segment S a b p =
    is_eq (S.sign (orientation S.ops a b p)) && between S a.x p.x b.x && between S a.y p.y b.y

-- whether two points are one
abbrev pub same_place : (S : Signed) → PlanePoint S.ops.carrier → PlanePoint S.ops.carrier → Bool
same_place S a b = is_eq (S.sign (difference S.ops b.x a.x)) && is_eq (S.sign (difference S.ops b.y a.y))

-- whether the edge c→d lies along a→b: c differs from d, d is on the segment ab, and c is on the segment ad
abbrev pub along : (S : Signed) → PlanePoint S.ops.carrier → PlanePoint S.ops.carrier
    → PlanePoint S.ops.carrier → PlanePoint S.ops.carrier → Bool
along S a b c d = not (same_place S c d) && on_segment S a b d && on_segment S a d c

-- p is a mean of a and b: (i + j) p = i a + j b, for non-negative weights i and j that are not both 0
pub record Between (S : Signed) (a b p : PlanePoint S.ops.carrier) : Type 0 where
  pub i : S.ops.carrier
  pub j : S.ops.carrier
  pub i_nonneg : IsNonNegative S i
  pub j_nonneg : IsNonNegative S j
  pub some : IsPositive S (S.ops.add i j)
  pub at_x : S.ops.mul (S.ops.add i j) p.x ≡ S.ops.add (S.ops.mul i a.x) (S.ops.mul j b.x)
  pub at_y : S.ops.mul (S.ops.add i j) p.y ≡ S.ops.add (S.ops.mul i a.y) (S.ops.mul j b.y)
