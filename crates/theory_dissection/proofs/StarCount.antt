-- The count of a star-shaped prototile is 0 or 1, wherever a map that keeps left turns puts it: 1 where it is 1 for a triangle of the fan.
use Rattle.std.proofs.Common.{◌≡◌, ℕ, suc, ◌-◌, ◌<◌, ℤ, pos, ◌+ℤ◌, true, not, ◌&&◌, ◌||◌, int_eq, is_gt, List, [], ◌∷◌, length, map, get_or, refl, sym, ap, ◌∙◌, subst, arith}
use Rattle.std.proofs.lemmas.Bool.{and_parts}
use Rattle.theory_ring.specs.Ring.{Ops}
use Rattle.theory_ring.specs.Sign.{Signed, IsPositive}
use Rattle.theory_plane.specs.Plane.{PlanePoint, TestPoint}
use Rattle.theory_plane.specs.Crossing.{count}
use Rattle.theory_plane.specs.Triangle.{Triangle, corners, fan_from, fan, counts, turns_left, right_of, beyond, separated}
use Rattle.theory_plane.proofs.Fan.{count-fan}
use Rattle.theory_plane.proofs.Triangle.{Good, triangle-good}
use Rattle.theory_plane.proofs.Separated.{separated-apart}
use Rattle.theory_substitution.specs.Plane.{plane_point}
use Rattle.theory_edge_to_edge.specs.Star.{fan_triangle, fan_turns_left, fan_is_apart, fan_is_open}
use Rattle.theory_addresses.specs.Search.{all_below}
use Rattle.theory_addresses.proofs.CoherenceTests.{all_below-at}
use Rattle.theory_dissection.specs.Sums.{sum_below}
use Rattle.theory_dissection.proofs.Sums.{sum_below-front}
use Rattle.theory_dissection.proofs.ZeroOrOne.{sum_below-good, sum_below-one, one_of_sum}
use Rattle.theory_dissection.proofs.StarEdges.{at, fan-left}
use Rattle.theory_dissection.proofs.MovedStar.{MovedStar}

module _ (S : Signed) (p : TestPoint S.ops.carrier) where
  abbrev Corner : Type 0
  Corner = PlanePoint S.ops.carrier

  counts-below : {A : Type 0} (put : A → Corner) (none first cur : A) (vs : List A)
      → counts S (fan_from (put first) (put cur) (map put vs)) p ≡ sum_below
      (λ i. count S (corners (record {
        a = put first;
        b = put (get_or (cur ∷ vs) i none);
        c = put (get_or vs i none);
      })) p) (length vs)
  counts-below put none first cur [] = refl
  counts-below put none first cur (v ∷ vs) =
      ap (λ u. count S (corners (record { a = put first; b = put cur; c = put v })) p +ℤ u) (counts-below put none first v vs)
      ∙ sym (sum_below-front (λ i. count S (corners
      (record {
        a = put first;
        b = put (get_or (cur ∷ (v ∷ vs)) i none);
        c = put (get_or (v ∷ vs) i none);
      })) p) (length vs))

module _ (Q : MovedStar) (p : TestPoint Q.points.real.ops.carrier) (d_pos : IsPositive Q.points.real p.d) where
  open Q use {points as P, laws as W, move as f, keeps, vertices as vs, star, three}

  abbrev S : Signed
  S = P.real

  abbrev R : Ops
  R = P.real.ops

  abbrev vertex_at : ℕ → PlanePoint R.carrier
  vertex_at = at Q

  abbrev pub triangle : ℕ → Triangle (PlanePoint R.carrier)
  triangle i = record { a = vertex_at 0; b = vertex_at (suc i); c = vertex_at (suc (suc i)) }

  abbrev pub triangle_count : ℕ → ℤ
  triangle_count i = count S (corners (triangle i)) p

  none : P.ring.carrier
  none = P.ring.int (pos 0)

  count-triangles : count S (map (λ z. plane_point P (f z)) vs) p ≡ sum_below triangle_count (length vs - 2)
  count-triangles = count-fan S W.of_real W.of_order p (map (λ z. plane_point P (f z)) vs) ∙ by_list vs refl
    where
      by_list : (us : List P.ring.carrier) → us ≡ vs → counts S (fan (map (λ z. plane_point P (f z)) us)) p
          ≡ sum_below (λ i. count S (corners (record {
            a = plane_point P (f (get_or us 0 (P.ring.int (pos 0))));
            b = plane_point P (f (get_or us (suc i) (P.ring.int (pos 0))));
            c = plane_point P (f (get_or us (suc (suc i)) (P.ring.int (pos 0))));
          })) p) (length us - 2)
      by_list [] e = refl
      by_list (a ∷ []) e = refl
      by_list (a ∷ (b ∷ us)) e =
          counts-below S p (λ z. plane_point P (f z)) (P.ring.int (pos 0)) a b us
          ∙ ap (sum_below (λ i. count S (corners (record {
            a = plane_point P (f a);
            b = plane_point P (f (get_or (b ∷ us) i (P.ring.int (pos 0))));
            c = plane_point P (f (get_or us i (P.ring.int (pos 0))));
          })) p)) size
        where
          size : length us ≡ length (a ∷ (b ∷ us)) - 2
          size = omega arith

  turned : (i : ℕ) → suc (suc i) < length vs → turns_left S (triangle i) ≡ true
  turned i h = ap is_gt (fan-left Q i h)

  -- ---- separation is kept
  right-kept : (a b v : P.ring.carrier) → right_of S (plane_point P (f a)) (plane_point P (f b))
      (plane_point P (f v)) ≡ right_of S (plane_point P a) (plane_point P b) (plane_point P v)
  right-kept a b v = ap (λ s. not (is_gt s)) (keeps.turns a b v)

  abbrev moved_triangle : P.ring.carrier → P.ring.carrier → P.ring.carrier → Triangle (PlanePoint R.carrier)
  moved_triangle a b c = record { a = plane_point P (f a); b = plane_point P (f b); c = plane_point P (f c) }

  abbrev own_triangle : P.ring.carrier → P.ring.carrier → P.ring.carrier → Triangle (PlanePoint R.carrier)
  own_triangle a b c = record { a = plane_point P a; b = plane_point P b; c = plane_point P c }

  beyond-kept : (a b u v w : P.ring.carrier) → beyond S (plane_point P (f a)) (plane_point P (f b))
      (moved_triangle u v w) ≡ beyond S (plane_point P a) (plane_point P b) (own_triangle u v w)
  beyond-kept a b u v w = λ i. right-kept a b u i && right-kept a b v i && right-kept a b w i

  separated-kept : (a b c u v w : P.ring.carrier)
      → separated S (moved_triangle a b c) (moved_triangle u v w) ≡ separated S (own_triangle a b c)
      (own_triangle u v w)
  separated-kept a b c u v w = λ i.
      (beyond-kept a b u v w i || beyond-kept b c u v w i || beyond-kept c a u v w i)
      || (beyond-kept u v a b c i || beyond-kept v w a b c i || beyond-kept w u a b c i)

  apart : (i j : ℕ) → i < j → j < length vs - 2 → triangle_count i ≡ pos 1 → triangle_count j ≡ pos 1 → ⊥
  apart i j r s x y =
      let all = (and_parts (fan_turns_left P vs) (fan_is_apart P vs)
      (and_parts (fan_turns_left P vs && fan_is_apart P vs) (fan_is_open P vs) star).0).1 in
      let row = all_below-at (length vs - 2) (λ j. all_below j (λ i. separated S (fan_triangle P vs i) (fan_triangle P vs j))) all j s in
      let cell = all_below-at j (λ i. separated S (fan_triangle P vs i) (fan_triangle P vs j)) row i r in
      separated-apart S W.of_real W.of_order p d_pos (triangle i) (triangle j) (turned i (omega arith))
      (turned j (omega arith)) (separated-kept _ _ _ _ _ _ ∙ cell)
      (ap (λ z. int_eq z (pos 1)) x) (ap (λ z. int_eq z (pos 1)) y)

  good : (i : ℕ) → i < length vs - 2 → Good (triangle_count i)
  good i h = triangle-good S W.of_real W.of_order (triangle i) p d_pos (turned i (omega arith))

  -- the count is 0 or 1
  pub star-good : Good (count S (map (λ z. plane_point P (f z)) vs) p)
  star-good = subst Good (sym count-triangles) (sum_below-good triangle_count (length vs - 2) good apart)

  -- and 1 where it is 1 for a triangle
  pub in_triangle : (i : ℕ) → suc (suc i) < length vs → triangle_count i ≡ pos 1 → count S (map (λ z. plane_point P (f z)) vs) p ≡ pos 1
  in_triangle i h e = count-triangles ∙ sum_below-one triangle_count i (length vs - 2) (omega arith) e good apart

  -- so that no point is in two triangles, and each that the prototile holds is in one
  pub one_triangle : (i j : ℕ) → i < j → suc (suc j) < length vs → triangle_count i ≡ pos 1 → triangle_count j ≡ pos 1 → ⊥
  one_triangle i j r s = apart i j r (omega arith)

  pub some_triangle : count S (map (λ z. plane_point P (f z)) vs) p ≡ pos 1 → (i : ℕ) × (suc (suc i) < length vs) × (triangle_count i ≡ pos 1)
  some_triangle e =
      let h = one_of_sum triangle_count (length vs - 2) good (sym count-triangles ∙ e) in
      let r = h.1 in
      (h.0, omega arith, h.2)
