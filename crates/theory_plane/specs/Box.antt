-- Open boxes, and the edges that meet them.
use Rattle.std.specs.Prelude.{ℕ, pos, Bool, ◌&&◌, IsTrue}
use Rattle.theory_ring.specs.Ring.{Ops, difference}
use Rattle.theory_ring.specs.Sign.{Signed}
use Rattle.theory_ring.specs.Sign.{less}
use Rattle.theory_plane.specs.Plane.{PlanePoint, TestPoint, IsTestPoint}
use Rattle.theory_plane.specs.Segment.{on_segment}

-- the open box around a centre, with an integer half-width w in X and half-height h in Y
pub record OpenBox (A : Type 0) : Type 0 where
  pub centre : PlanePoint A
  pub w : ℕ
  pub h : ℕ

-- |r| < s
abbrev pub is_shorter : (S : Signed) → S.ops.carrier → S.ops.carrier → Bool
is_shorter S r s = less S r s && less S (S.ops.neg r) s

-- whether a test point is in the box: |x - d X(c)| < d w and |y - d Y(c)| < d h
abbrev pub in_box : (S : Signed) → OpenBox S.ops.carrier → TestPoint S.ops.carrier → Bool
in_box S box p =
    is_shorter S (difference S.ops p.x (S.ops.mul p.d box.centre.x)) (S.ops.mul p.d (S.ops.int (pos box.w)))
    && is_shorter S (difference S.ops p.y (S.ops.mul p.d box.centre.y))
    (S.ops.mul p.d (S.ops.int (pos box.h)))

-- the point whose coordinates are d times those of z
abbrev pub scaled : (R : Ops) → R.carrier → PlanePoint R.carrier → PlanePoint R.carrier
scaled R d z = record { x = R.mul d z.x; y = R.mul d z.y }

-- whether a test point (x, y, d) lies on the closed edge a→b: (x, y) is on the segment of the points whose
-- coordinates are d times those of a and b
abbrev pub on_edge : (S : Signed) → PlanePoint S.ops.carrier → PlanePoint S.ops.carrier
    → TestPoint S.ops.carrier → Bool
on_edge S a b p = on_segment S (scaled S.ops p.d a) (scaled S.ops p.d b) (record { x = p.x; y = p.y })

-- some test point in the open box lies on the closed edge
abbrev pub EdgeMeetsBox : (S : Signed) → PlanePoint S.ops.carrier → PlanePoint S.ops.carrier
    → OpenBox S.ops.carrier → Type 0
EdgeMeetsBox S a b box = (p : TestPoint S.ops.carrier) × IsTestPoint S p × IsTrue (in_box S box p)
    × IsTrue (on_edge S a b p)
