-- A vertex of the program, scaled and moved.
use Rattle.std.proofs.Common.{◌≡◌, ℕ, ℤ, pos, ◌+◌, ◌<◌, ◌≤◌, refl, [], ◌∷◌, arith, true, false, List, map, drop, get_or, length, find, Some, sym, ap, ◌∙◌, subst}
use Rattle.std.specs.Ordering.{int_eq}
use Rattle.std.proofs.lemmas.Simd.{map-map}
use Rattle.theory_plane.specs.Plane.{PlanePoint}
use Rattle.theory_plane.specs.Crossing.{count, member}
use Rattle.plane_geom.specs.Spots.{spot_of, test_of}
use Rattle.theory_substitution.specs.Plane.{plane_point}
use Rattle.theory_ring.specs.Ring.{power}
use Rattle.theory_substitution.specs.RuleParts.{vertices_of, edge_count}
use Rattle.theory_frames.specs.Outline.{outline, holds_point}
use Rattle.rule_model.specs.declared.rule.Rule.{Rule}
use Rattle.rule_model.specs.Views.{rule_of}
use Rattle.rule_model.specs.Usable.{IsUsable}
use Rattle.tile_place.proofs.Ahead.{there, found_here, found_later}
use Rattle.theory_substitution.specs.Motion.{moved}
use Rattle.cyclo_points.specs.declared.order.Order.{Order}
use Rattle.cyclo_points.specs.declared.point.Point.{Point}
use Rattle.cyclo_points.specs.declared.motion.Motion.{Motion}
use Rattle.cyclo_points.specs.Order.{NumberOf, PointsLaw, points_of, is_refused}
use Rattle.cyclo_points.specs.Point.{point_in}
use Rattle.cyclo_points.specs.Motion.{motion_in}

abbrev pub corner_of : (o : Order) → Point → Motion → Point → NumberOf o
corner_of o scale at v = moved (points_of o) (motion_in o at) ((points_of o).ring.mul (point_in o scale) (point_in o v))

-- the scale may be turned instead of the vertex
pub corner-is : (o : Order) (W : PointsLaw o) (scale : Point) (at : Motion) (v turned product corner : Point)
    → point_in o turned ≡ (points_of o).ring.mul (power (points_of o).ring (points_of o).zeta at.turn)
    (point_in o scale) → point_in o product ≡ (points_of o).ring.mul (point_in o turned) (point_in o v)
    → point_in o corner ≡ (points_of o).ring.add (point_in o product) (point_in o at.shift) → point_in o corner ≡ corner_of o scale at v
corner-is o W scale at v turned product corner t p s =
    s ∙ ap (λ (z : NumberOf o). (points_of o).ring.add z (point_in o at.shift))
    (p ∙ ap (λ (z : NumberOf o). (points_of o).ring.mul z (point_in o v)) t
    ∙ W.of_ring.mul_assoc (power (points_of o).ring (points_of o).zeta at.turn) (point_in o scale)
    (point_in o v))

-- the same of a product that is moved at once
pub corner-turned : (o : Order) (W : PointsLaw o) (scale : Point) (at : Motion) (v turned corner : Point)
    → point_in o turned ≡ (points_of o).ring.mul (power (points_of o).ring (points_of o).zeta at.turn) (point_in o scale)
    → point_in o corner ≡ (points_of o).ring.add ((points_of o).ring.mul (point_in o turned) (point_in o v))
    (point_in o at.shift) → point_in o corner ≡ corner_of o scale at v
corner-turned o W scale at v turned corner t s =
    s ∙ ap (λ (z : NumberOf o). (points_of o).ring.add z (point_in o at.shift))
    (ap (λ (z : NumberOf o). (points_of o).ring.mul z (point_in o v)) t
    ∙ W.of_ring.mul_assoc (power (points_of o).ring (points_of o).zeta at.turn) (point_in o scale)
    (point_in o v))

-- the corner of this vertex is looked at: it is the first that is refused, or those further on decide
module _ (o : Order) (W : PointsLaw o) (scale : Point) (at : Motion) (vs : List Point) (i : ℕ) (d : Point) (h : i < length vs) (turned corner : Point)
    (t : point_in o turned ≡ (points_of o).ring.mul (power (points_of o).ring (points_of o).zeta at.turn) (point_in o scale))
    (s : point_in o corner ≡ (points_of o).ring.add
    ((points_of o).ring.mul (point_in o turned) (point_in o (get_or vs i d))) (point_in o at.shift)) where
  is_corner : point_in o corner ≡ corner_of o scale at (get_or vs i d)
  is_corner = corner-turned o W scale at (get_or vs i d) turned corner t s

  pub corner_refused : is_refused o (point_in o corner) ≡ true
      → find (is_refused o) (map (corner_of o scale at) (drop i vs)) ≡ Some (point_in o corner)
  corner_refused e =
      found_here (is_refused o) (corner_of o scale at) vs i (get_or vs i d) h (there vs i d h) (ap (is_refused o) (sym is_corner) ∙ e)
      ∙ ap (λ (z : NumberOf o). Some z) (sym is_corner)

  pub corner_passed : is_refused o (point_in o corner) ≡ false
      → find (is_refused o) (map (corner_of o scale at) (drop (i + 1) vs)) ≡ find (is_refused o)
      (map (corner_of o scale at) (drop i vs))
  corner_passed e = sym (found_later (is_refused o) (corner_of o scale at) vs i (get_or vs i d) h
      (there vs i d h) (ap (is_refused o) (sym is_corner) ∙ e))

  pub corner_there : spot_of o corner ≡ plane_point (points_of o) (corner_of o scale at (get_or vs i d))
  corner_there = ap (plane_point (points_of o)) is_corner

-- where a vertex lies in the plane, scaled and moved
abbrev pub corner_spot : (o : Order) → Point → Motion → Point → PlanePoint (points_of o).real.ops.carrier
corner_spot o scale at v = plane_point (points_of o) (corner_of o scale at v)

-- a count of 1 of the corners decides whether their polygon holds a point
pub holds-counted : (o : Order) (scale : Point) (at : Motion) (vs : List Point) (p : Point) (n : ℤ)
    → n ≡ count (points_of o).real (map (corner_spot o scale at) vs) (test_of o p)
    → int_eq n (pos 1) ≡ holds_point (points_of o) (map (corner_of o scale at) vs) (point_in o p)
holds-counted o scale at vs p n e =
    ap (λ m. int_eq m (pos 1)) e
    ∙ ap (λ spots. member (points_of o).real spots (test_of o p)) (sym (map-map (plane_point (points_of o)) (corner_of o scale at) vs))

-- what is said of the vertices of the program is said of the outline
pub of_outline : (o : Order) (r m : Rule) (vs : List Point) (kind : ℕ) (scale : Point) (at : Motion) (T : (o : Order) → List (NumberOf o) → Type 0)
    → o ≡ r.order → r ≡ m → map (point_in r.order) vs ≡ vertices_of (rule_of r) kind
    → T o (map (corner_of o scale at) vs)
    → T m.order (outline (points_of m.order) (rule_of m) kind (point_in m.order scale) (motion_in m.order at))
of_outline o r m vs kind scale at T eo er numbers t =
    subst (λ (m : Rule). T m.order (outline (points_of m.order) (rule_of m) kind (point_in m.order scale) (motion_in m.order at))) er
    (subst (T r.order) whole (subst (λ q. T q (map (corner_of q scale at) vs)) eo t))
  where
    moves : NumberOf r.order → NumberOf r.order
    moves z = moved (points_of r.order) (motion_in r.order at) ((points_of r.order).ring.mul (point_in r.order scale) z)

    whole : map (corner_of r.order scale at) vs ≡ outline (points_of r.order) (rule_of r) kind (point_in r.order scale) (motion_in r.order at)
    whole = sym (map-map moves (point_in r.order) vs) ∙ ap (map moves) numbers

pub drop-none : {A : Type 0} (xs : List A) → drop 0 xs ≡ xs
drop-none [] = refl
drop-none (x ∷ xs) = refl

-- a prototile has 3 to 12 vertices
pub vertices_few : (r m : Rule) (k n : ℕ) → r ≡ m → n ≡ edge_count (rule_of r) k → IsUsable m → k < length (rule_of m).kinds → (3 ≤ n) × (n ≤ 12)
vertices_few r m k n e each u l =
    let edges : edge_count (rule_of r) k ≡ edge_count (rule_of m) k = ap (λ (r : Rule). edge_count (rule_of r) k) e in
    (omega (arith, each, edges, u.numbered.at_least_3_edges k l), omega (arith, each, edges, u.numbered.at_most_12_edges k l))
