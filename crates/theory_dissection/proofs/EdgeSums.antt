-- The count of a polygon as a sum over its edges by their numbers.
use Rattle.std.proofs.Common.{◌≡◌, inl, inr, ℕ, suc, ◌+ℤ◌, Bool, true, false, cond, List, [], ◌∷◌, length, map, get_or, nat_lt, refl, sym, ap, ap₂, ◌∙◌, arith}
use Rattle.std.proofs.lemmas.Bool.{cases_lt, lt-ltb, le-ltb}
use Rattle.theory_ring.specs.Sign.{Signed}
use Rattle.theory_plane.specs.Plane.{PlanePoint, TestPoint}
use Rattle.theory_plane.specs.Crossing.{crossing, count_from, count}
use Rattle.theory_dissection.specs.Sums.{sum_below}
use Rattle.theory_dissection.proofs.Sums.{plus_zero, sum_below-ext, sum_below-front}
use Rattle.theory_dissection.proofs.StarEdges.{next_of}

module _ (S : Signed) (p : TestPoint S.ops.carrier) {A : Type 0} (put : A → PlanePoint S.ops.carrier) (none : A) where
  -- the vertex behind number e, first behind the last
  abbrev behind : A → List A → ℕ → A
  behind first vs e = cond (nat_lt (suc e) (length vs)) (get_or vs (suc e) none) first

  lt-suc : (a b : ℕ) → nat_lt (suc a) (suc b) ≡ nat_lt a b
  lt-suc a b = elim (cases_lt a b) [
    | inl lt ↦ lt-ltb (suc a) (suc b) (omega arith) ∙ sym (lt-ltb a b lt)
    | inr ge ↦ le-ltb (suc a) (suc b) (omega arith) ∙ sym (le-ltb a b ge)
  ]

  count_from-edges : (first cur : A) (vs : List A)
      → count_from S p (put first) (put cur) (map put vs) ≡ sum_below
      (λ e. crossing S (put (get_or (cur ∷ vs) e none)) (put (behind first (cur ∷ vs) e)) p)
      (suc (length vs))
  count_from-edges first cur [] = sym (sum_below-front
      (λ e. crossing S (put (get_or (cur ∷ []) e none)) (put (behind first (cur ∷ []) e)) p) 0 ∙ plus_zero _
      ∙ ap (λ b. crossing S (put cur) (put (cond b none first)) p) (le-ltb 1 1 (omega arith)))
  count_from-edges first cur (v ∷ vs) =
      ap₂ (λ x y. x +ℤ y)
      (ap (λ b. crossing S (put cur) (put (cond b v first)) p) (sym (lt-ltb 1 (suc (suc (length vs))) (omega arith))))
      (count_from-edges first v vs
      ∙ sum_below-ext (λ e. crossing S (put (get_or (v ∷ vs) e none)) (put (behind first (v ∷ vs) e)) p)
      (λ e. crossing S (put (get_or (v ∷ vs) e none)) (put (behind first (cur ∷ (v ∷ vs)) (suc e))) p)
      (suc (length vs))
      (λ e r. ap (λ b. crossing S (put (get_or (v ∷ vs) e none))
      (put (cond b (get_or (v ∷ vs) (suc e) none) first)) p) (sym (lt-suc (suc e) (suc (length vs))))))
      ∙ sym (sum_below-front (λ e. crossing S (put (get_or (cur ∷ (v ∷ vs)) e none)) (put (behind first (cur ∷ (v ∷ vs)) e)) p) (suc (length vs)))

  at_next : (first : A) (vs : List A) (e : ℕ) → behind first (first ∷ vs) e ≡ get_or (first ∷ vs) (next_of (suc (length vs)) e) none
  at_next first vs e = at_test (nat_lt (suc e) (suc (length vs)))
    where
      at_test : (b : Bool) → cond b (get_or (first ∷ vs) (suc e) none) first ≡ get_or (first ∷ vs) (cond b (suc e) 0) none
      at_test true = refl
      at_test false = refl

  pub count-edges : (vs : List A) → count S (map put vs) p ≡ sum_below
      (λ e. crossing S (put (get_or vs e none)) (put (get_or vs (next_of (length vs) e) none)) p) (length vs)
  count-edges [] = refl
  count-edges (v ∷ vs) =
      count_from-edges v v vs
      ∙ sum_below-ext _ _ (suc (length vs)) (λ e r. ap (λ z. crossing S (put (get_or (v ∷ vs) e none)) (put z) p) (at_next v vs e))
