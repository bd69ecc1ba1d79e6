-- The edges of a star-shaped polygon, wherever a map that keeps left turns puts it: each has a triangle of
-- the fan on its left, and the first and the last
-- edge leave the first vertex in two directions.
use Rattle.std.proofs.Common.{◌≡◌, ◌⊎◌, inl, inr, ℕ, zero, suc, ◌-◌, ◌<◌, pos, true, false, not, ◌&&◌, cond, length, get_or, nat_lt, ap, ◌∙◌, arith}
use Rattle.std.specs.declared.cmp.Ordering.TheVariants.{Equal, Greater}
use Rattle.std.proofs.lemmas.Bool.{and_parts, cases_lt, lt-ltb, le-ltb}
use Rattle.theory_ring.specs.Ring.{Ops}
use Rattle.theory_ring.specs.Sign.{Signed}
use Rattle.theory_plane.specs.Plane.{PlanePoint, orientation}
use Rattle.theory_plane.specs.Segment.{on_segment}
use Rattle.theory_ring.proofs.Booleans.{denied}
use Rattle.theory_plane.proofs.Triangle.{is_greater}
use Rattle.theory_substitution.specs.Plane.{plane_point}
use Rattle.theory_edge_to_edge.specs.Star.{corner, fan_triangle, fan_turns_left, fan_is_apart, fan_is_open}
use Rattle.theory_plane.specs.Triangle.{turns_left}
use Rattle.theory_addresses.proofs.CoherenceTests.{all_below-at}
use Rattle.theory_dissection.proofs.Around.{orientation-rotated, orientation-start, orientation-end}
use Rattle.theory_dissection.proofs.MovedStar.{MovedStar}

-- the vertex at which edge number e of n ends
abbrev pub next_of : ℕ → ℕ → ℕ
next_of n e = cond (nat_lt (suc e) n) (suc e) 0

-- edge e of n is the first, from vertex 0; one in the middle; or the last, to vertex 0
pub data Place (n : ℕ) : ℕ → Type 0 where
  first : Place n 0
  middle : (i : ℕ) → suc (suc i) < n → Place n (suc i)
  last : (i : ℕ) → suc (suc i) ≡ n → Place n (suc i)

pub spot_of : (n e : ℕ) → e < n → Place n e
spot_of n zero h = first
spot_of n (suc i) h = elim (cases_lt (suc (suc i)) n) [ inl lt ↦ middle i lt | inr ge ↦ last i (omega arith) ]

module _ (Q : MovedStar) where
  open Q use {points as P, laws as W, move as f, keeps, vertices as vs, star, three}

  abbrev S : Signed
  S = P.real

  abbrev R : Ops
  R = P.real.ops

  -- where vertex number i lies
  abbrev pub at : ℕ → PlanePoint R.carrier
  at i = plane_point P (f (get_or vs i (P.ring.int (pos 0))))

  turns : fan_turns_left P vs ≡ true
  turns = (and_parts (fan_turns_left P vs) (fan_is_apart P vs) (and_parts (fan_turns_left P vs && fan_is_apart P vs) (fan_is_open P vs) star).0).0

  opens : fan_is_open P vs ≡ true
  opens = (and_parts (fan_turns_left P vs && fan_is_apart P vs) (fan_is_open P vs) star).1

  -- triangle number i of the fan
  pub fan-left : (i : ℕ) → suc (suc i) < length vs → S.sign (orientation R (at 0) (at (suc i)) (at (suc (suc i)))) ≡ Greater
  fan-left i h =
      keeps.turns _ _ _
      ∙ is_greater S W.of_real W.of_order _ (all_below-at (length vs - 2) (λ i. turns_left S (fan_triangle P vs i)) turns i (omega arith))

  pub next-middle : (e : ℕ) → suc e < length vs → next_of (length vs) e ≡ suc e
  next-middle e h = ap (λ b. cond b (suc e) 0) (lt-ltb (suc e) (length vs) h)

  pub next-last : (e : ℕ) → suc e ≡ length vs → next_of (length vs) e ≡ 0
  next-last e h = ap (λ b. cond b (suc e) 0) (le-ltb (suc e) (length vs) (omega arith))

  abbrev pub from : ℕ → PlanePoint R.carrier
  from e = at e

  abbrev pub to : ℕ → PlanePoint R.carrier
  to e = at (next_of (length vs) e)

  -- vertex 0 is strictly left of an edge in the middle
  pub middle-left : (i : ℕ) → suc (suc i) < length vs → S.sign (orientation R (from (suc i)) (to (suc i)) (at 0)) ≡ Greater
  middle-left i h =
      ap (λ j. S.sign (orientation R (at (suc i)) (at j) (at 0))) (next-middle (suc i) h)
      ∙ ap S.sign (orientation-rotated S W.of_real W.of_order (at 0) (at (suc i)) (at (suc (suc i)))) ∙ fan-left i h

  -- some vertex is strictly left of each edge
  pub left_of_edge : (e : ℕ) → Place (length vs) e → (z : PlanePoint R.carrier) × (S.sign (orientation R (from e) (to e) z) ≡ Greater)
  left_of_edge e first = (
    at 2,
    ap (λ i. S.sign (orientation R (at 0) (at i) (at 2))) (next-middle 0 (omega arith)) ∙ fan-left 0 (omega arith),
  )
  left_of_edge e (middle i h) = (at 0, middle-left i h)
  left_of_edge e (last zero h) = absurd (omega arith)
  left_of_edge e (last (suc i) h) = (
    at (suc i),
    ap (λ j. S.sign (orientation R (at (suc (suc i))) (at j) (at (suc i)))) (next-last (suc (suc i)) h)
        ∙ ap S.sign (orientation-rotated S W.of_real W.of_order (at (suc i)) (at (suc (suc i))) (at 0))
        ∙ ap S.sign (orientation-rotated S W.of_real W.of_order (at 0) (at (suc i)) (at (suc (suc i)))) ∙ fan-left i (omega arith),
  )

  -- vertex 0 is strictly left of an edge in the middle, and on the line of the first and of the last
  pub zero_of_edge : (e : ℕ) → Place (length vs) e → (S.sign (orientation R (from e) (to e) (at 0)) ≡ Equal)
      ⊎ (S.sign (orientation R (from e) (to e) (at 0)) ≡ Greater)
  zero_of_edge e first = inl (orientation-start S W.of_real W.of_order (at 0) (to 0))
  zero_of_edge e (middle i h) = inr (middle-left i h)
  zero_of_edge e (last i h) =
      inl (ap (λ j. S.sign (orientation R (at (suc i)) (at j) (at 0))) (next-last (suc i) h)
      ∙ orientation-end S W.of_real W.of_order (at (suc i)) (at 0))

  pub open_first : on_segment S (at 0) (at (length vs - 1)) (at 1) ≡ false
  open_first = keeps.segments _ _ _ ∙ denied _
      (and_parts (not (on_segment S (corner P vs 0) (corner P vs (length vs - 1)) (corner P vs 1)))
      (not (on_segment S (corner P vs 0) (corner P vs 1) (corner P vs (length vs - 1)))) opens).0

  pub open_last : on_segment S (at 0) (at 1) (at (length vs - 1)) ≡ false
  open_last = keeps.segments _ _ _ ∙ denied _
      (and_parts (not (on_segment S (corner P vs 0) (corner P vs (length vs - 1)) (corner P vs 1)))
      (not (on_segment S (corner P vs 0) (corner P vs 1) (corner P vs (length vs - 1)))) opens).1
