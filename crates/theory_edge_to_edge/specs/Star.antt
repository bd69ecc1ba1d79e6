-- Prototiles that are star-shaped from vertex 0: the triangles (vertex 0, vertex i, vertex i + 1) of their
-- fans lie side by side around it.
use Rattle.std.specs.Prelude.{ℕ, suc, ◌-◌, pos, Bool, not, ◌&&◌, List, length, get_or}
use Rattle.theory_plane.specs.Plane.{PlanePoint}
use Rattle.theory_plane.specs.Segment.{on_segment}
use Rattle.theory_plane.specs.Triangle.{Triangle, turns_left, separated}
use Rattle.theory_substitution.specs.Points.{Points}
use Rattle.theory_substitution.specs.Plane.{plane_point}
use Rattle.theory_addresses.specs.Search.{all_below}

-- the position of vertex number i
abbrev pub corner : (P : Points) → List P.ring.carrier → ℕ → PlanePoint P.real.ops.carrier
corner P vs i = plane_point P (get_or vs i (P.ring.int (pos 0)))

-- triangle number i of the fan, from 0
abbrev pub fan_triangle : (P : Points) → List P.ring.carrier → ℕ → Triangle (PlanePoint P.real.ops.carrier)
fan_triangle P vs i = record { a = corner P vs 0; b = corner P vs (suc i); c = corner P vs (suc (suc i)) }

-- each triangle of the fan turns strictly left
abbrev pub fan_turns_left : (P : Points) → List P.ring.carrier → Bool
fan_turns_left P vs = all_below (length vs - 2) (λ i. turns_left P.real (fan_triangle P vs i))

-- a line along an edge of one of them separates each two triangles of the fan
abbrev pub fan_is_apart : (P : Points) → List P.ring.carrier → Bool
fan_is_apart P vs = all_below (length vs - 2)
    (λ j. all_below j (λ i. separated P.real (fan_triangle P vs i) (fan_triangle P vs j)))

-- the first and the last edge leave vertex 0 in two directions: neither of vertex 1 and the last vertex is on
-- the segment from vertex 0 to the other
abbrev pub fan_is_open : (P : Points) → List P.ring.carrier → Bool
fan_is_open P vs =
    not (on_segment P.real (corner P vs 0) (corner P vs (length vs - 1)) (corner P vs 1))
    && not (on_segment P.real (corner P vs 0) (corner P vs 1) (corner P vs (length vs - 1)))

abbrev pub is_star : (P : Points) → List P.ring.carrier → Bool
is_star P vs = fan_turns_left P vs && fan_is_apart P vs && fan_is_open P vs
