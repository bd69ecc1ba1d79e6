-- Crossings of directed edges, and the winding number of a polygon as their sum.
use Rattle.std.specs.Prelude.{ℤ, pos, negsuc, ◌+ℤ◌, Bool, cond, not, ◌&&◌, List, [], ◌∷◌}
use Rattle.std.specs.Ordering.{is_gt, is_lt, int_eq}
use Rattle.std.specs.declared.cmp.Ordering.{Ordering}
use Rattle.theory_ring.specs.Sign.{Signed}
use Rattle.theory_ring.specs.Sign.{less, at_most}
use Rattle.theory_plane.specs.Plane.{PlanePoint, TestPoint, side}

-- 1 if d Y(a) ≤ y < d Y(b) and p is strictly left of a→b; -1 if d Y(b) ≤ y < d Y(a) and p is strictly right
-- of it; otherwise 0
abbrev pub crossing : (S : Signed) → PlanePoint S.ops.carrier → PlanePoint S.ops.carrier
    → TestPoint S.ops.carrier → ℤ
crossing S a b p =
    let ya = S.ops.mul p.d a.y in
    let yb = S.ops.mul p.d b.y in
    let s = S.sign (side S.ops a b p) in
    cond (at_most S ya p.y && less S p.y yb && is_gt s) (pos 1)
    (cond (at_most S yb p.y && less S p.y ya && is_lt s) (negsuc 0) (pos 0))

-- the crossing by three facts: whether the edge starts above the point, whether it ends above it, and on
-- which side the point lies
abbrev pub crossing_of : Bool → Bool → Ordering → ℤ
crossing_of starts_above ends_above side =
    cond (not starts_above && ends_above && is_gt side) (pos 1)
    (cond (not ends_above && starts_above && is_lt side) (negsuc 0) (pos 0))

-- the sum over the edges from cur along the vertices and back to first
abbrev pub count_from : (S : Signed) → TestPoint S.ops.carrier → PlanePoint S.ops.carrier
    → PlanePoint S.ops.carrier → List (PlanePoint S.ops.carrier) → ℤ
count_from S p first cur [] = crossing S cur first p
count_from S p first cur (v ∷ vs) = crossing S cur v p +ℤ count_from S p first v vs

-- the sum over the directed edges of a polygon
abbrev pub count : (S : Signed) → List (PlanePoint S.ops.carrier) → TestPoint S.ops.carrier → ℤ
count S [] p = pos 0
count S (v ∷ vs) p = count_from S p v v vs

-- whether p belongs to the polygon
abbrev pub member : (S : Signed) → List (PlanePoint S.ops.carrier) → TestPoint S.ops.carrier → Bool
member S vs p = int_eq (count S vs p) (pos 1)
