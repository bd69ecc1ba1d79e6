-- In a star no vertex is on an edge but those that it starts and ends: two triangles of the fan would have a point in common.
use Rattle.std.proofs.Common.{◌≡◌, ◌⊎◌, inl, inr, ℕ, zero, suc, ◌<◌, ◌≤◌, List, [], ◌∷◌, length, get_or, slice_get, cond, nat_lt, Some, pos, refl, sym, ap, ◌∙◌, subst, Bool, true, false, ◌&&◌, is_eq, arith}
use Rattle.std.specs.Prelude.{IsTrue}
use Rattle.std.proofs.lemmas.Bool.{and_parts, leb-true, le-leb}
use Rattle.std.proofs.lemmas.Option.{slice_get_within}
use Rattle.theory_ring.specs.Ring.{Ops, Laws}
use Rattle.theory_ring.specs.Sign.{Signed, OrderLaws, IsPositive, IsNonNegative}
use Rattle.theory_ring.proofs.Normaliser.{var, con, ring, ring_from, ◌⊕◌, ◌⊖◌, ◌⊗◌}
use Rattle.theory_ring.proofs.Signs.{nonneg_cases, zero_nonneg}
use Rattle.theory_ring.proofs.Booleans.{is_equal}
use Rattle.theory_plane.specs.Plane.{PlanePoint, orientation}
use Rattle.theory_plane.specs.Triangle.{Triangle, turns_left, separated}
use Rattle.theory_plane.specs.Segment.{on_segment, between, Between}
use Rattle.theory_plane.proofs.BoxOverlap.{greater}
use Rattle.theory_plane.proofs.BoxPoints.{test_positive}
use Rattle.theory_plane.proofs.Segment.{between-turned}
use Rattle.theory_plane.proofs.OnSegment.{between-on_segment, on_segment-between}
use Rattle.theory_plane.proofs.Separated.{separated-apart}
use Rattle.theory_addresses.specs.Search.{IsAmong}
use Rattle.theory_addresses.proofs.Ranges.{among-place}
use Rattle.theory_windows.specs.Distinct.{AreDistinct}
use Rattle.theory_windows.specs.Outlines.{PlaneEdge, Polygon, edges_from, edges}
use Rattle.theory_windows.specs.EdgeNumbers.{edge_at}
use Rattle.theory_windows.proofs.EdgeNumbers.{edges_by_number}
use Rattle.theory_stars.specs.Round.{IsSimple}
use Rattle.theory_stars.proofs.CornerNumbers.{some-same}
use Rattle.theory_stars.proofs.SharedPoint.{Mean, Shared, tri, left_weight, right_weight, left_shared, right_shared}
use Rattle.theory_stars.proofs.SmallBox.{start-on}

-- ---- star-shaped polygons
-- vertex number i
abbrev pub vertex : (S : Signed) → Polygon S → ℕ → PlanePoint S.ops.carrier
vertex S vs i = get_or vs i (record { x = S.ops.int (pos 0); y = S.ops.int (pos 0) })

-- triangle number t of the fan, from 0
abbrev pub star_triangle : (S : Signed) → Polygon S → ℕ → Triangle (PlanePoint S.ops.carrier)
star_triangle S vs t = record { a = vertex S vs 0; b = vertex S vs (suc t); c = vertex S vs (suc (suc t)) }

-- each triangle of the fan turns strictly left; a line along an edge of one of them separates each two; and
-- neither of vertex 1 and the last vertex is on the segment from vertex 0 to the other
pub record IsStarShaped (S : Signed) (vs : Polygon S) : Type 0 where
  pub corners : 2 < length vs
  pub turns_left : (t : ℕ) → suc (suc t) < length vs → IsTrue (turns_left S (star_triangle S vs t))
  pub apart : (t u : ℕ) → t < u → suc (suc u) < length vs → IsTrue (separated S (star_triangle S vs t) (star_triangle S vs u))
  pub open_first : (last : ℕ) → suc last ≡ length vs → on_segment S (vertex S vs 0) (vertex S vs last) (vertex S vs 1) ≡ false
  pub open_last : (last : ℕ) → suc last ≡ length vs → on_segment S (vertex S vs 0) (vertex S vs 1) (vertex S vs last) ≡ false

abbrev pub StarIsSimple : Signed → Type 0
StarIsSimple S = (polygon : Polygon S) → IsStarShaped S polygon → IsSimple S polygon

-- ---- comparing numbers
at_most_or : (x y : ℕ) → (x ≤ y) ⊎ (y < x)
at_most_or zero y = inl (omega arith)
at_most_or (suc x) zero = inr (omega arith)
at_most_or (suc x) (suc y) = at_case (at_most_or x y)
  where
    at_case : (x ≤ y) ⊎ (y < x) → (suc x ≤ suc y) ⊎ (suc y < suc x)
    at_case (inl h) = inl (omega arith)
    at_case (inr h) = inr (omega arith)

same_or : (x y : ℕ) → (x ≡ y) ⊎ (x ≡ y → ⊥)
same_or zero zero = inl refl
same_or zero (suc y) = inr (λ e. absurd (omega arith))
same_or (suc x) zero = inr (λ e. absurd (omega arith))
same_or (suc x) (suc y) = at_case (same_or x y)
  where
    at_case : (x ≡ y) ⊎ (x ≡ y → ⊥) → (suc x ≡ suc y) ⊎ (suc x ≡ suc y → ⊥)
    at_case (inl e) = inl (ap suc e)
    at_case (inr h) = inr (λ e. h (omega arith))

module _ (S : Signed) (L : Laws S.ops) (O : OrderLaws S) where
  abbrev R : Ops
  R = S.ops

  abbrev Point : Type 0
  Point = PlanePoint R.carrier

  zero_is_nonneg : IsNonNegative S (R.int (pos 0))
  zero_is_nonneg = zero_nonneg S L O _ O.zero_equal

  -- a mean of two points from the other one, with its weights
  abbrev other_end : (a b c : Point) → Between S a b c → Between S b a c
  other_end a b c h = record {
    i = h.j;
    j = h.i;
    i_nonneg = h.j_nonneg;
    j_nonneg = h.i_nonneg;
    some = ap S.sign (L.add_comm h.j h.i) ∙ h.some;
    at_x = ap (λ k. R.mul k c.x) (L.add_comm h.j h.i) ∙ h.at_x ∙ L.add_comm _ _;
    at_y = ap (λ k. R.mul k c.y) (L.add_comm h.j h.i) ∙ h.at_y ∙ L.add_comm _ _;
  }

  -- ---- a mean of two corners of a triangle as one of all three
  module _ (a p q w : Point) where
    of_first : Between S a p w → Mean S L O a p q w
    of_first h = record {
      r = h.i;
      i = h.j;
      j = R.int (pos 0);
      r_nonneg = h.i_nonneg;
      i_nonneg = h.j_nonneg;
      j_nonneg = zero_is_nonneg;
      some = ap S.sign (ring R L (h.i ∷ (h.j ∷ [])) (var 0 ⊕ (var 1 ⊕ con (pos 0))) (var 0 ⊕ var 1) refl) ∙ h.some;
      at_x = moved a.x p.x q.x w.x h.at_x;
      at_y = moved a.y p.y q.y w.y h.at_y;
    }
      where
        moved : (x y z u : R.carrier) → R.mul (R.add h.i h.j) u ≡ R.add (R.mul h.i x) (R.mul h.j y)
            → R.mul (R.add h.i (R.add h.j (R.int (pos 0)))) u ≡ R.add (R.mul h.i x) (R.add (R.mul h.j y) (R.mul (R.int (pos 0)) z))
        moved x y z u e = ring_from R L (h.i ∷ (h.j ∷ (x ∷ (y ∷ (z ∷ (u ∷ []))))))
            ((var 0 ⊕ (var 1 ⊕ con (pos 0))) ⊗ var 5) (var 0 ⊗ var 2 ⊕ (var 1 ⊗ var 3 ⊕ con (pos 0) ⊗ var 4))
            ((con (pos 1), (var 0 ⊕ var 1) ⊗ var 5, var 0 ⊗ var 2 ⊕ var 1 ⊗ var 3) ∷ []) (e, tt) refl

    of_last : Between S a q w → Mean S L O a p q w
    of_last h = record {
      r = h.i;
      i = R.int (pos 0);
      j = h.j;
      r_nonneg = h.i_nonneg;
      i_nonneg = zero_is_nonneg;
      j_nonneg = h.j_nonneg;
      some = ap S.sign (ring R L (h.i ∷ (h.j ∷ [])) (var 0 ⊕ (con (pos 0) ⊕ var 1)) (var 0 ⊕ var 1) refl) ∙ h.some;
      at_x = moved a.x p.x q.x w.x h.at_x;
      at_y = moved a.y p.y q.y w.y h.at_y;
    }
      where
        moved : (x y z u : R.carrier) → R.mul (R.add h.i h.j) u ≡ R.add (R.mul h.i x) (R.mul h.j z)
            → R.mul (R.add h.i (R.add (R.int (pos 0)) h.j)) u ≡ R.add (R.mul h.i x) (R.add (R.mul (R.int (pos 0)) y) (R.mul h.j z))
        moved x y z u e = ring_from R L (h.i ∷ (h.j ∷ (x ∷ (y ∷ (z ∷ (u ∷ []))))))
            ((var 0 ⊕ (con (pos 0) ⊕ var 1)) ⊗ var 5) (var 0 ⊗ var 2 ⊕ (con (pos 0) ⊗ var 3 ⊕ var 1 ⊗ var 4))
            ((con (pos 1), (var 0 ⊕ var 1) ⊗ var 5, var 0 ⊗ var 2 ⊕ var 1 ⊗ var 4) ∷ []) (e, tt) refl

    of_middle : Between S p q w → Mean S L O a p q w
    of_middle h = record {
      r = R.int (pos 0);
      i = h.i;
      j = h.j;
      r_nonneg = zero_is_nonneg;
      i_nonneg = h.i_nonneg;
      j_nonneg = h.j_nonneg;
      some = ap S.sign (ring R L (h.i ∷ (h.j ∷ [])) (con (pos 0) ⊕ (var 0 ⊕ var 1)) (var 0 ⊕ var 1) refl) ∙ h.some;
      at_x = moved a.x p.x q.x w.x h.at_x;
      at_y = moved a.y p.y q.y w.y h.at_y;
    }
      where
        moved : (x y z u : R.carrier) → R.mul (R.add h.i h.j) u ≡ R.add (R.mul h.i y) (R.mul h.j z)
            → R.mul (R.add (R.int (pos 0)) (R.add h.i h.j)) u ≡ R.add (R.mul (R.int (pos 0)) x) (R.add (R.mul h.i y) (R.mul h.j z))
        moved x y z u e = ring_from R L (h.i ∷ (h.j ∷ (x ∷ (y ∷ (z ∷ (u ∷ []))))))
            ((con (pos 0) ⊕ (var 0 ⊕ var 1)) ⊗ var 5) (con (pos 0) ⊗ var 2 ⊕ (var 0 ⊗ var 3 ⊕ var 1 ⊗ var 4))
            ((con (pos 1), (var 0 ⊕ var 1) ⊗ var 5, var 0 ⊗ var 3 ⊕ var 1 ⊗ var 4) ∷ []) (e, tt) refl

    -- where w is at q, or at p, it is a mean of that and any other
    at_last : (h : Between S p q w) → h.i ≡ R.int (pos 0) → Between S a q w
    at_last h e = record {
      i = h.i;
      j = h.j;
      i_nonneg = h.i_nonneg;
      j_nonneg = h.j_nonneg;
      some = h.some;
      at_x = h.at_x ∙ gone p.x a.x q.x;
      at_y = h.at_y ∙ gone p.y a.y q.y;
    }
      where
        none : (x : R.carrier) → R.mul h.i x ≡ R.int (pos 0)
        none x = ap (λ z. R.mul z x) e ∙ ring R L (x ∷ []) (con (pos 0) ⊗ var 0) (con (pos 0)) refl

        gone : (x y z : R.carrier) → R.add (R.mul h.i x) (R.mul h.j z) ≡ R.add (R.mul h.i y) (R.mul h.j z)
        gone x y z = ap (λ u. R.add u (R.mul h.j z)) (none x ∙ sym (none y))

  module _ (c : ℕ → Point) (m : ℕ) (two : 2 ≤ m)
      (turns : (t : ℕ) → suc (suc t) ≤ m → turns_left S (tri S L O (c 0) (c (suc t)) (c (suc (suc t)))) ≡ true)
      (apart : (t u : ℕ) → t < u → suc (suc u) ≤ m
      → separated S (tri S L O (c 0) (c (suc t)) (c (suc (suc t))))
      (tri S L O (c 0) (c (suc u)) (c (suc (suc u)))) ≡ true)
      (open_first : on_segment S (c 0) (c m) (c 1) ≡ false) (open_last : on_segment S (c 0) (c 1) (c m) ≡ false) where
    abbrev fan_at : ℕ → Triangle Point
    fan_at t = tri S L O (c 0) (c (suc t)) (c (suc (suc t)))

    left_at : (t : ℕ) → suc (suc t) ≤ m → IsPositive S (orientation R (c 0) (c (suc t)) (c (suc (suc t))))
    left_at t h = greater _ (turns t h)

    -- no test point is in two triangles of the fan
    none_shared : (t u : ℕ) → suc (suc t) ≤ m → suc (suc u) ≤ m → (t ≡ u → ⊥) → Shared S L O (fan_at t) (fan_at u) → ⊥
    none_shared t u h k other s = at_case (at_most_or t u)
      where
        at_case : (t ≤ u) ⊎ (u < t) → ⊥
        at_case (inl l) =
            let b : t < u = before l in
            separated-apart S L O s.point (test_positive S L O s.point s.test) (fan_at t) (fan_at u)
            (turns t h) (turns u k) (apart t u b k) s.in_one s.in_other
          where
            before : t ≤ u → t < u
            before l = at_last (at_most_or (suc t) u)
              where
                at_last : (suc t ≤ u) ⊎ (u < suc t) → t < u
                at_last (inl g) = g
                at_last (inr g) = absurd (other (omega arith))
        at_case (inr l) =
            separated-apart S L O s.point (test_positive S L O s.point s.test) (fan_at u) (fan_at t)
            (turns u k) (turns t h) (apart u t l h) s.in_other s.in_one

    -- vertex t + 1 begins triangle t, vertex t + 2 ends it
    left_out : (t u : ℕ) → suc (suc t) ≤ m → suc (suc u) ≤ m → (t ≡ u → ⊥)
        → (g : Mean S L O (c 0) (c (suc u)) (c (suc (suc u))) (c (suc t))) → IsPositive S g.i → ⊥
    left_out t u h k other g i_pos =
        none_shared t u h k other (left_shared S L O (c 0) (c (suc t)) (c (suc (suc t))) (c (suc u))
        (c (suc (suc u))) g (left_at u k) i_pos (left_at t h))

    right_out : (t u : ℕ) → suc (suc t) ≤ m → suc (suc u) ≤ m → (t ≡ u → ⊥)
        → (g : Mean S L O (c 0) (c (suc u)) (c (suc (suc u))) (c (suc (suc t)))) → IsPositive S g.j → ⊥
    right_out t u h k other g j_pos =
        none_shared t u h k other (right_shared S L O (c 0) (c (suc (suc t))) (c (suc t)) (c (suc u))
        (c (suc (suc u))) g (left_at u k) j_pos (left_at t h))

    first_closed : Between S (c 0) (c m) (c 1) → ⊥
    first_closed h = cc (sym open_first ∙ on_segment-between S L O (c 0) (c m) (c 1) h)

    last_closed : Between S (c 0) (c 1) (c m) → ⊥
    last_closed h = cc (sym open_last ∙ on_segment-between S L O (c 0) (c 1) (c m) h)

    -- ---- on the first edge
    on_first : (i : ℕ) → suc (suc i) ≤ m → Between S (c 0) (c 1) (c (suc (suc i))) → ⊥
    unfolding of_first
    on_first i l h = at_case (at_most_or (suc (suc (suc i))) m)
      where
        at_case : (suc (suc (suc i)) ≤ m) ⊎ (m < suc (suc (suc i))) → ⊥
        at_case (inl g) =
            let w : Mean S L O (c 0) (c 1) (c 2) (c (suc (suc i))) = of_first (c 0) (c 1) (c 2) (c (suc (suc i))) h in
            left_out (suc i) 0 g two (λ e. absurd (omega arith)) w
            (left_weight S L O (c 0) (c (suc (suc i))) (c (suc (suc (suc i)))) (c 1) (c 2) w (left_at 0 two) (left_at (suc i) g) refl)
        at_case (inr g) =
            let e : suc (suc i) ≡ m = omega arith in
            last_closed (subst (λ n. Between S (c 0) (c 1) (c n)) e h)

    -- ---- on the last edge
    on_last : (i : ℕ) → suc i < m → Between S (c m) (c 0) (c (suc i)) → ⊥
    unfolding of_last
    on_last zero l h = first_closed (between-turned S L O (c 0) (c m) (c 1) h)
    on_last (suc i) l h = at_number m refl two
      where
        at_number : (n : ℕ) → n ≡ m → 2 ≤ n → ⊥
        at_number zero e g = absurd (omega arith)
        at_number (suc zero) e g = absurd (omega arith)
        at_number (suc (suc n)) e g =
            let w : Mean S L O (c 0) (c (suc n)) (c (suc (suc n))) (c (suc (suc i))) =
            of_last (c 0) (c (suc n)) (c (suc (suc n))) (c (suc (suc i)))
            (subst (λ z. Between S (c 0) (c z) (c (suc (suc i)))) (sym e)
            (between-turned S L O (c 0) (c m) (c (suc (suc i))) h)) in
            right_out i n (omega arith) (omega arith) (λ f. absurd (omega arith)) w
            (right_weight S L O (c 0) (c (suc (suc i))) (c (suc i)) (c (suc n)) (c (suc (suc n))) w
            (left_at n (omega arith)) (left_at i (omega arith)) refl)

    -- ---- on another edge, from vertex e + 1 to vertex e + 2
    not_centre : (e : ℕ) → suc (suc e) ≤ m → on_segment S (c (suc e)) (c (suc (suc e))) (c 0) ≡ true → ⊥
    not_centre e l h =
        let k = and_parts (is_eq (S.sign (orientation R (c (suc e)) (c (suc (suc e))) (c 0)))
        && between S (c (suc e)).x (c 0).x (c (suc (suc e))).x)
        (between S (c (suc e)).y (c 0).y (c (suc (suc e))).y) h in
        let z : is_eq (S.sign (orientation R (c (suc e)) (c (suc (suc e))) (c 0))) ≡ true
        = (and_parts (is_eq (S.sign (orientation R (c (suc e)) (c (suc (suc e))) (c 0))))
        (between S (c (suc e)).x (c 0).x (c (suc (suc e))).x) k.0).0 in
        cc (sym (is_equal _ z) ∙ ap S.sign (turned (c 0) (c (suc e)) (c (suc (suc e)))) ∙ left_at e l)
      where
        turned : (a p q : Point) → orientation R p q a ≡ orientation R a p q
        turned a p q = ring R L (a.x ∷ (a.y ∷ (p.x ∷ (p.y ∷ (q.x ∷ (q.y ∷ []))))))
            ((var 4 ⊖ var 2) ⊗ (var 1 ⊖ var 3) ⊖ (var 5 ⊖ var 3) ⊗ (var 0 ⊖ var 2))
            ((var 2 ⊖ var 0) ⊗ (var 5 ⊖ var 1) ⊖ (var 3 ⊖ var 1) ⊗ (var 4 ⊖ var 0)) refl

    module _ (i e : ℕ) (l : suc (suc e) ≤ m) (below : suc i ≤ m) (not_start : i ≡ e → ⊥)
        (not_end : i ≡ suc e → ⊥) (h : Between S (c (suc e)) (c (suc (suc e))) (c (suc i))) where
      the_mean : Mean S L O (c 0) (c (suc e)) (c (suc (suc e))) (c (suc i))
      the_mean = of_middle (c 0) (c (suc e)) (c (suc (suc e))) (c (suc i)) h

      -- where the other end is the vertex, the next triangle of the fan begins there
      at_end : suc (suc i) ≤ m → h.i ≡ R.int (pos 0) → (suc (suc (suc e)) ≤ m) ⊎ (m < suc (suc (suc e))) → ⊥
      unfolding of_first of_last
      at_end g z (inl k) =
          let w : Mean S L O (c 0) (c (suc (suc e))) (c (suc (suc (suc e)))) (c (suc i)) =
          of_first (c 0) (c (suc (suc e))) (c (suc (suc (suc e)))) (c (suc i)) (at_last (c 0) (c (suc e)) (c (suc (suc e))) (c (suc i)) h z) in
          left_out i (suc e) g k not_end w
          (left_weight S L O (c 0) (c (suc i)) (c (suc (suc i))) (c (suc (suc e))) (c (suc (suc (suc e)))) w (left_at (suc e) k) (left_at i g) refl)
      at_end g z (inr k) = at_number i refl
        where
          at_number : (n : ℕ) → n ≡ i → ⊥
          at_number zero f =
              let q : suc (suc e) ≡ m = omega arith in
              first_closed (subst (λ y. Between S (c 0) (c m) (c (suc y))) (sym f)
              (subst (λ y. Between S (c 0) (c y) (c (suc i))) q
              (at_last (c 0) (c (suc e)) (c (suc (suc e))) (c (suc i)) h z)))
          at_number (suc n) f =
              let w : Mean S L O (c 0) (c (suc e)) (c (suc (suc e))) (c (suc (suc n))) =
              of_last (c 0) (c (suc e)) (c (suc (suc e))) (c (suc (suc n)))
              (subst (λ y. Between S (c 0) (c (suc (suc e))) (c (suc y))) (sym f)
              (at_last (c 0) (c (suc e)) (c (suc (suc e))) (c (suc i)) h z)) in
              right_out n e (omega arith) l (λ y. not_end (sym f ∙ ap suc y)) w
              (right_weight S L O (c 0) (c (suc (suc n))) (c (suc n)) (c (suc e)) (c (suc (suc e))) w (left_at e l) (left_at n (omega arith)) refl)

      -- where the start is the last vertex, the triangle before ends there
      at_start : m < suc (suc i) → h.j ≡ R.int (pos 0) → ⊥
      unfolding of_last
      at_start g z = at_number e i refl refl
        where
          here : Between S (c 0) (c (suc e)) (c (suc i))
          here = at_last (c 0) (c (suc (suc e))) (c (suc e)) (c (suc i)) (other_end (c (suc e)) (c (suc (suc e))) (c (suc i)) h) z

          at_number : (n k : ℕ) → n ≡ e → k ≡ i → ⊥
          at_number n zero f q = absurd (omega arith)
          at_number zero (suc k) f q =
              let y : suc i ≡ m = omega arith in
              last_closed (subst (λ x. Between S (c 0) (c 1) (c x)) y (subst (λ x. Between S (c 0) (c (suc x)) (c (suc i))) (sym f) here))
          at_number (suc n) (suc k) f q =
              let w : Mean S L O (c 0) (c (suc n)) (c (suc (suc n))) (c (suc (suc k))) =
              of_last (c 0) (c (suc n)) (c (suc (suc n))) (c (suc (suc k)))
              (subst (λ x. Between S (c 0) (c (suc (suc n))) (c (suc x))) (sym q)
              (subst (λ x. Between S (c 0) (c (suc x)) (c (suc i))) (sym f) here)) in
              right_out k n (omega arith) (omega arith) (λ x. not_start (sym q ∙ ap suc x ∙ f)) w
              (right_weight S L O (c 0) (c (suc (suc k))) (c (suc k)) (c (suc n)) (c (suc (suc n))) w
              (left_at n (omega arith)) (left_at k (omega arith)) refl)

      on_middle : ⊥
      unfolding of_middle the_mean
      on_middle = at_case (at_most_or (suc (suc i)) m)
        where
          last_vertex : m < suc (suc i) → IsPositive S h.j ⊎ (h.j ≡ R.int (pos 0)) → ⊥
          last_vertex g (inr z) = at_start g z
          last_vertex g (inl j_pos) = at_number i refl
            where
              at_number : (n : ℕ) → n ≡ i → ⊥
              at_number zero f = absurd (omega arith)
              at_number (suc n) f =
                  let w : Mean S L O (c 0) (c (suc e)) (c (suc (suc e))) (c (suc (suc n))) =
                  of_middle (c 0) (c (suc e)) (c (suc (suc e))) (c (suc (suc n))) (record {
                    i = h.i;
                    j = h.j;
                    i_nonneg = h.i_nonneg;
                    j_nonneg = h.j_nonneg;
                    some = h.some;
                    at_x = ap (λ x. R.mul (R.add h.i h.j) (c (suc x)).x) f ∙ h.at_x;
                    at_y = ap (λ x. R.mul (R.add h.i h.j) (c (suc x)).y) f ∙ h.at_y;
                  }) in
                  right_out n e (omega arith) l (λ x. not_end (sym f ∙ ap suc x)) w j_pos

          inner_vertex : suc (suc i) ≤ m → IsPositive S h.i ⊎ (h.i ≡ R.int (pos 0)) → ⊥
          inner_vertex g (inl i_pos) = left_out i e g l not_start the_mean i_pos
          inner_vertex g (inr z) = at_end g z (at_most_or (suc (suc (suc e))) m)

          at_case : (suc (suc i) ≤ m) ⊎ (m < suc (suc i)) → ⊥
          at_case (inl g) = inner_vertex g (nonneg_cases S L O h.i h.i_nonneg)
          at_case (inr g) = last_vertex g (nonneg_cases S L O h.j h.j_nonneg)

    -- ---- by numbers
    pub on_edge : (e i : ℕ) → suc e ≤ m → i ≤ m → on_segment S (c e) (c (suc e)) (c i) ≡ true → (i ≡ e) ⊎ (i ≡ suc e)
    on_edge zero zero l k h = inl refl
    on_edge zero (suc zero) l k h = inr refl
    on_edge zero (suc (suc i)) l k h = absurd (on_first i k (between-on_segment S L O (c 0) (c 1) (c (suc (suc i))) h))
    on_edge (suc e) zero l k h = absurd (not_centre e l h)
    on_edge (suc e) (suc i) l k h = at_case (same_or i e) (same_or i (suc e))
      where
        at_case : (i ≡ e) ⊎ (i ≡ e → ⊥) → (i ≡ suc e) ⊎ (i ≡ suc e → ⊥) → (suc i ≡ suc e) ⊎ (suc i ≡ suc (suc e))
        at_case (inl f) g = inl (ap suc f)
        at_case (inr f) (inl g) = inr (ap suc g)
        at_case (inr f) (inr g) = absurd (on_middle i e l k f g (between-on_segment S L O (c (suc e)) (c (suc (suc e))) (c (suc i)) h))

    pub on_closing : (i : ℕ) → i ≤ m → on_segment S (c m) (c 0) (c i) ≡ true → (i ≡ m) ⊎ (i ≡ 0)
    on_closing zero k h = inr refl
    on_closing (suc i) k h = at_case (at_most_or (suc (suc i)) m)
      where
        at_case : (suc (suc i) ≤ m) ⊎ (m < suc (suc i)) → (suc i ≡ m) ⊎ (suc i ≡ 0)
        at_case (inl g) = absurd (on_last i g (between-on_segment S L O (c m) (c 0) (c (suc i)) h))
        at_case (inr g) = inl (omega arith)

  -- ---- of a polygon
  module _ (v : Point) (vs : Polygon S) (star : IsStarShaped S (v ∷ vs)) where
    abbrev polygon : Polygon S
    polygon = v ∷ vs

    abbrev corner : ℕ → Point
    corner = vertex S polygon

    two : 2 ≤ length vs
    two = let h = star.corners in omega arith

    on_edge_of : (e i : ℕ) → suc e ≤ length vs → i ≤ length vs → on_segment S (corner e) (corner (suc e)) (corner i) ≡ true → (i ≡ e) ⊎ (i ≡ suc e)
    on_edge_of = on_edge corner (length vs) two (λ t h. star.turns_left t (omega arith))
        (λ t u l h. star.apart t u l (omega arith)) (star.open_first (length vs) refl)
        (star.open_last (length vs) refl)

    on_closing_of : (i : ℕ) → i ≤ length vs → on_segment S (corner (length vs)) (corner 0) (corner i) ≡ true → (i ≡ length vs) ⊎ (i ≡ 0)
    on_closing_of = on_closing corner (length vs) two (λ t h. star.turns_left t (omega arith))
        (λ t u l h. star.apart t u l (omega arith)) (star.open_first (length vs) refl)
        (star.open_last (length vs) refl)

    -- the ends of an edge are in two places
    no_edge : (e : ℕ) → suc e ≤ length vs → corner e ≡ corner (suc e) → ⊥
    no_edge zero h f =
        let g : orientation R (corner 0) (corner 1) (corner 2) ≡ R.int (pos 0) =
        ap (λ z. orientation R (corner 0) z (corner 2)) (sym f)
        ∙ ring R L ((corner 0).x ∷ ((corner 0).y ∷ ((corner 2).x ∷ ((corner 2).y ∷ []))))
        ((var 0 ⊖ var 0) ⊗ (var 3 ⊖ var 1) ⊖ (var 1 ⊖ var 1) ⊗ (var 2 ⊖ var 0)) (con (pos 0)) refl in
        cc (sym (greater _ (star.turns_left 0 (let k = two in omega arith))) ∙ ap S.sign g ∙ O.zero_equal)
    no_edge (suc e) h f =
        let g : orientation R (corner 0) (corner (suc e)) (corner (suc (suc e))) ≡ R.int (pos 0) =
        ap (orientation R (corner 0) (corner (suc e))) (sym f)
        ∙ ring R L ((corner 0).x ∷ ((corner 0).y ∷ ((corner (suc e)).x ∷ ((corner (suc e)).y ∷ []))))
        ((var 2 ⊖ var 0) ⊗ (var 3 ⊖ var 1) ⊖ (var 3 ⊖ var 1) ⊗ (var 2 ⊖ var 0)) (con (pos 0)) refl in
        cc (sym (greater _ (star.turns_left e (omega arith))) ∙ ap S.sign g ∙ O.zero_equal)

    not_before : (i j : ℕ) → i < j → j ≤ length vs → corner i ≡ corner j → ⊥
    not_before i j l h f = at_case (on_edge_of i j (omega arith) h
        (ap (on_segment S (corner i) (corner (suc i))) (sym f) ∙ start-on S L O (corner i) (corner (suc i))))
      where
        at_case : (j ≡ i) ⊎ (j ≡ suc i) → ⊥
        at_case (inl e) = absurd (omega arith)
        at_case (inr e) = no_edge i (omega arith) (f ∙ ap corner e)

    one_vertex : (i j : ℕ) → i ≤ length vs → j ≤ length vs → corner i ≡ corner j → i ≡ j
    one_vertex i j h k f = at_case (at_most_or i j)
      where
        at_least : i ≤ j → (suc i ≤ j) ⊎ (j < suc i) → i ≡ j
        at_least l (inl g) = absurd (not_before i j g k f)
        at_least l (inr g) = omega arith

        at_case : (i ≤ j) ⊎ (j < i) → i ≡ j
        at_case (inl l) = at_least l (at_most_or (suc i) j)
        at_case (inr l) = absurd (not_before j i l h (sym f))

    -- ---- from numbers to lists
    get-number : {A : Type 0} (o : A) (xs : List A) (i : ℕ) (x : A) → slice_get xs i ≡ Some x → get_or xs i o ≡ x
    get-number o [] i x e = absurd (cc e)
    get-number o (y ∷ ys) zero x e = some-same y x e
    get-number o (y ∷ ys) (suc i) x e = get-number o ys i x e

    distinct-numbers : {A : Type 0} (o : A) (xs : List A)
        → ((i j : ℕ) → i < length xs → j < length xs → get_or xs i o ≡ get_or xs j o → i ≡ j) → AreDistinct xs
    distinct-numbers o [] h = tt
    distinct-numbers o (x ∷ xs) h = (
      λ k.
          let n = among-place x xs k in
          let l : 0 ≡ suc n.0 = h 0 (suc n.0) (omega arith)
          (let b = slice_get_within xs n.0 x n.1 in omega arith) (sym (get-number o xs n.0 x n.1)) in
          absurd (omega arith),
      distinct-numbers o xs (λ i j g k e. let f = h (suc i) (suc j) (omega arith) (omega arith) e in omega arith),
    )

    origin : Point
    origin = record { x = R.int (pos 0); y = R.int (pos 0) }

    same-length : length (edges polygon) ≡ suc (length vs)
    same-length = edges-length v v vs
      where
        edges-length : {A : Type 0} (first cur : A) (ws : List A) → length (edges_from first cur ws) ≡ suc (length ws)
        edges-length first cur [] = refl
        edges-length first cur (w ∷ ws) = ap suc (edges-length first w ws)

    apart_from : (z : Point) → IsAmong z polygon → (e : PlaneEdge S) → IsAmong e (edges polygon)
        → on_segment S e.from e.to z ≡ true → (e.from ≡ z) ⊎ (e.to ≡ z)
    apart_from z k e l on = at_numbers (among-place z polygon k) (among-place e (edges polygon) l)
      where
        at_numbers : (i : ℕ) × (slice_get polygon i ≡ Some z) → (j : ℕ) × (slice_get (edges polygon) j ≡ Some e) → (e.from ≡ z) ⊎ (e.to ≡ z)
        at_numbers i j = at_test (nat_lt (suc j.0) (suc (length vs))) refl
          where
            o : Point
            o = record { x = R.int (pos 0); y = R.int (pos 0) }

            i_is : corner i.0 ≡ z
            i_is = get-number (record { x = R.int (pos 0); y = R.int (pos 0) }) polygon i.0 z i.1

            i_below : i.0 ≤ length vs
            i_below = let b = slice_get_within polygon i.0 z i.1 in omega arith

            j_below : j.0 < suc (length vs)
            j_below = let b = slice_get_within (edges polygon) j.0 e j.1 in let q = same-length in omega arith

            e_is : edge_at (record { x = R.int (pos 0); y = R.int (pos 0) }) polygon j.0 ≡ e
            e_is = some-same _ e (sym (edges_by_number (record { x = R.int (pos 0); y = R.int (pos 0) }) polygon j.0 j_below) ∙ j.1)

            at_test : (b : Bool) → nat_lt (suc j.0) (suc (length vs)) ≡ b → (e.from ≡ z) ⊎ (e.to ≡ z)
            at_test true t =
                let within : suc (suc j.0) ≤ suc (length vs) = leb-true (suc (suc j.0)) (suc (length vs)) t in
                let from_is : corner j.0 ≡ e.from = ap (λ (d : PlaneEdge S). d.from) e_is in
                let to_is : corner (suc j.0) ≡ e.to = ap (λ b. corner (cond b (suc j.0) 0)) (sym t) ∙ ap (λ (d : PlaneEdge S). d.to) e_is in
                at_case from_is to_is (on_edge_of j.0 i.0 (omega arith) i_below ((λ n. on_segment S (from_is n) (to_is n) (i_is n)) ∙ on))
              where
                at_case : corner j.0 ≡ e.from → corner (suc j.0) ≡ e.to → (i.0 ≡ j.0) ⊎ (i.0 ≡ suc j.0) → (e.from ≡ z) ⊎ (e.to ≡ z)
                at_case f g (inl q) = inl (sym f ∙ ap corner (sym q) ∙ i_is)
                at_case f g (inr q) = inr (sym g ∙ ap corner (sym q) ∙ i_is)
            at_test false t =
                let last : j.0 ≡ length vs = last_number t in
                let from_is : corner (length vs) ≡ e.from = ap corner (sym last) ∙ ap (λ (d : PlaneEdge S). d.from) e_is in
                let to_is : corner 0 ≡ e.to = ap (λ b. corner (cond b (suc j.0) 0)) (sym t) ∙ ap (λ (d : PlaneEdge S). d.to) e_is in
                at_case from_is to_is (on_closing_of i.0 i_below ((λ n. on_segment S (from_is n) (to_is n) (i_is n)) ∙ on))
              where
                last_number : nat_lt (suc j.0) (suc (length vs)) ≡ false → j.0 ≡ length vs
                last_number t = at_most (at_most_or (suc j.0) (length vs))
                  where
                    at_most : (suc j.0 ≤ length vs) ⊎ (length vs < suc j.0) → j.0 ≡ length vs
                    at_most (inl h) = absurd (cc (sym t ∙ le-leb (suc (suc j.0)) (suc (length vs)) (omega arith)))
                    at_most (inr h) = let b = j_below in omega arith

                at_case : corner (length vs) ≡ e.from → corner 0 ≡ e.to → (i.0 ≡ length vs) ⊎ (i.0 ≡ 0) → (e.from ≡ z) ⊎ (e.to ≡ z)
                at_case f g (inl q) = inl (sym f ∙ ap corner (sym q) ∙ i_is)
                at_case f g (inr q) = inr (sym g ∙ ap corner (sym q) ∙ i_is)

    simple : IsSimple S polygon
    simple = record {
      distinct = distinct-numbers (record { x = R.int (pos 0); y = R.int (pos 0) }) polygon
          (λ i j h k e. one_vertex i j (omega arith) (omega arith) e);
      apart = apart_from;
    }

  pub star_is_simple : StarIsSimple S
  star_is_simple [] star = absurd (let h = star.corners in omega arith)
  star_is_simple (v ∷ vs) star = simple v vs star
