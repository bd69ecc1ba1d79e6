-- Triangles: the fan of a polygon, and triangles that a line along an edge separates.
use Rattle.std.specs.Prelude.{ℤ, pos, ◌+ℤ◌, Bool, not, ◌&&◌, ◌||◌, List, [], ◌∷◌, get_or}
use Rattle.std.specs.Ordering.{is_gt}
use Rattle.theory_ring.specs.Ring.{Ops}
use Rattle.theory_ring.specs.Sign.{Signed}
use Rattle.theory_plane.specs.Plane.{PlanePoint, TestPoint, orientation}
use Rattle.theory_plane.specs.Crossing.{count}

pub record Triangle (A : Type 0) : Type 0 where
  pub a : A
  pub b : A
  pub c : A

-- the triangle as a polygon
abbrev pub corners : {A : Type 0} → Triangle A → List A
corners t = t.a ∷ (t.b ∷ (t.c ∷ []))

-- the triangle of the first three points of a list; a missing one is the origin
abbrev pub triangle_at : (R : Ops) → List (PlanePoint R.carrier) → Triangle (PlanePoint R.carrier)
triangle_at R vs =
    let origin : PlanePoint R.carrier = record { x = R.int (pos 0); y = R.int (pos 0) } in
    record { a = get_or vs 0 origin; b = get_or vs 1 origin; c = get_or vs 2 origin }

-- the triangles of first with two neighbouring vertices, from cur on
abbrev pub fan_from : {A : Type 0} → A → A → List A → List (Triangle A)
fan_from first cur [] = []
fan_from first cur (v ∷ vs) = record { a = first; b = cur; c = v } ∷ fan_from first v vs

-- the triangles (vertex 0, vertex i, vertex i + 1) of a polygon, from i = 1 on
abbrev pub fan : {A : Type 0} → List A → List (Triangle A)
fan [] = []
fan (a ∷ []) = []
fan (a ∷ (b ∷ vs)) = fan_from a b vs

-- the sum of the counts of triangles
abbrev pub counts : (S : Signed) → List (Triangle (PlanePoint S.ops.carrier)) → TestPoint S.ops.carrier → ℤ
counts S [] p = pos 0
counts S (t ∷ ts) p = count S (corners t) p +ℤ counts S ts p

-- whether the triangle turns strictly left
abbrev pub turns_left : (S : Signed) → Triangle (PlanePoint S.ops.carrier) → Bool
turns_left S t = is_gt (S.sign (orientation S.ops t.a t.b t.c))

-- whether v is on the line along a→b or to its right
abbrev pub right_of : (S : Signed) → PlanePoint S.ops.carrier → PlanePoint S.ops.carrier
    → PlanePoint S.ops.carrier → Bool
right_of S a b v = not (is_gt (S.sign (orientation S.ops a b v)))

-- whether the whole triangle is on the line along a→b or to its right
abbrev pub beyond : (S : Signed) → PlanePoint S.ops.carrier → PlanePoint S.ops.carrier
    → Triangle (PlanePoint S.ops.carrier) → Bool
beyond S a b t = right_of S a b t.a && right_of S a b t.b && right_of S a b t.c

-- whether the whole of u is on the line along an edge of t or to its right
abbrev pub beyond_an_edge : (S : Signed) → Triangle (PlanePoint S.ops.carrier)
    → Triangle (PlanePoint S.ops.carrier) → Bool
beyond_an_edge S t u = beyond S t.a t.b u || beyond S t.b t.c u || beyond S t.c t.a u

-- whether an edge of one of the two has the whole other one on it or to its right
abbrev pub separated : (S : Signed) → Triangle (PlanePoint S.ops.carrier)
    → Triangle (PlanePoint S.ops.carrier) → Bool
separated S t u = beyond_an_edge S t u || beyond_an_edge S u t
