-- Vectors of which one is turned onto the other have one greatest vector, and the turns that make them greatest tell that turn.
use Rattle.std.proofs.Common.{◌≡◌, ℕ, ◌+◌, ◌-◌, ◌/◌, ◌%◌, ◌<◌, ◌≤◌, true, false, inl, inr, List, ℤ, pos, negsuc, [], ◌∷◌, refl, sym, ap, ◌∙◌, subst, arith}
use Rattle.std.proofs.Math.Nat.{mod-lt}
use Rattle.std.proofs.lemmas.Bool.{cases_lt}
use Rattle.std.specs.declared.cmp.Ordering.{Ordering}
use Rattle.std.specs.declared.cmp.Ordering.TheVariants.{Less, Equal, Greater}
use Rattle.std.specs.Cmp.{IsTotalOrder, tied_itself, upto}
use Rattle.std.specs.Cmp.Lexicographic.{slice_cmp, lists_total, lists_ties}
use Rattle.std.specs.Cmp.Rules.{signed_items}
use Rattle.std.specs.Ordering.{ordering_reverse, int_cmp, is_gt, is_eq}
use Rattle.std.proofs.lemmas.Cmp.{int_cmp_total}
use Rattle.theory_ring.specs.Ring.{power}
use Rattle.theory_ring.proofs.Normaliser.{var, con, neg, ring, ◌⊗◌}
use Rattle.theory_substitution.proofs.Motions.{power-add, power-mod}
use Rattle.cyclo_points.specs.declared.order.Order.{Order}
use Rattle.cyclo_points.specs.declared.order.Order.TheVariants.{Four, Six, Eight, Ten}
use Rattle.cyclo_points.specs.Order.{NumberOf, PointsLaw, points_of, coefficients}
use Rattle.tile_place.specs.EdgeTurns.{IsGreatest}
use Rattle.tile_place.specs.TurnedVertices.{turned_by}
use Rattle.tile_place.proofs.SamePoint.{same_numbers}

abbrev cmp : List ℤ → List ℤ → Ordering
cmp = slice_cmp int_cmp

of_order : IsTotalOrder cmp
of_order = lists_total int_cmp_total

-- lists of which neither is above the other are the same
level : (r : Ordering) → is_gt r ≡ false → is_gt (ordering_reverse r) ≡ false → is_eq r ≡ true
level Less h g = absurd (cc g)
level Equal h g = refl
level Greater h g = absurd (cc h)

neither : (xs ys : List ℤ) → is_gt (cmp xs ys) ≡ false → is_gt (cmp ys xs) ≡ false → xs ≡ ys
neither xs ys h g =
    (signed_items xs ys).0 (lists_ties int_cmp (λ x y. refl) xs ys ∙ level (cmp xs ys) h (ap is_gt (sym (of_order.antisymm ys xs)) ∙ g))

not_above_itself : (xs : List ℤ) → is_gt (cmp xs xs) ≡ false
not_above_itself xs = ap is_gt (tied_itself of_order xs)

-- what is not above one list is not above a higher one
not_gt : (r : Ordering) → is_gt r ≡ true → is_gt (ordering_reverse r) ≡ false
not_gt Less h = absurd (cc h)
not_gt Equal h = refl
not_gt Greater h = refl

none_above_higher : (xs ys zs : List ℤ) → is_gt (cmp xs ys) ≡ false → is_gt (cmp zs ys) ≡ true → is_gt (cmp xs zs) ≡ false
none_above_higher xs ys zs h g = upto of_order xs ys zs h (ap is_gt (of_order.antisymm ys zs) ∙ not_gt (cmp zs ys) g)

-- by computation
half_power : (o : Order) → power (points_of o).ring (points_of o).zeta ((points_of o).order / 2) ≡ (points_of o).ring.int (negsuc 0)
half_power Four = refl
half_power Six = refl
half_power Eight = refl
half_power Ten = refl

pub some_order : (o : Order) → 0 < (points_of o).order
some_order Four = omega arith
some_order Six = omega arith
some_order Eight = omega arith
some_order Ten = omega arith

pub at_most_ten : (o : Order) → (points_of o).order ≤ 10
at_most_ten Four = omega arith
at_most_ten Six = omega arith
at_most_ten Eight = omega arith
at_most_ten Ten = omega arith

-- of the turns below `steps` the one by ζ^best makes v greatest
pub record IsGreatestBelow (o : Order) (v : NumberOf o) (steps best : ℕ) : Type 0 where
  pub below : best < (points_of o).order
  pub none_above : (j : ℕ) → j < steps → is_gt (cmp (coefficients o (turned_by o j v)) (coefficients o (turned_by o best v))) ≡ false

module _ (o : Order) (v : NumberOf o) where
  abbrev pub turn_of : ℕ → List ℤ
  turn_of j = coefficients o (turned_by o j v)

  pub first-turn : IsGreatestBelow o v 1 0
  first-turn = record {
    below = some_order o;
    none_above = λ j h. let zero : 0 ≡ j = omega (arith, h) in subst
        (λ i. is_gt (cmp (turn_of i) (turn_of 0)) ≡ false) zero (not_above_itself (turn_of 0));
  }

  module _ (steps best : ℕ) (so_far : IsGreatestBelow o v steps best) where
    pub higher-turn : steps < (points_of o).order → is_gt (cmp (turn_of steps) (turn_of best)) ≡ true → IsGreatestBelow o v (steps + 1) steps
    higher-turn below above = record {
      below = below;
      none_above = λ j h. elim (cases_lt j steps) [
        | inl lt ↦ none_above_higher (turn_of j) (turn_of best) (turn_of steps) (so_far.none_above j lt) above
        | inr ge ↦ let last : steps ≡ j = omega (arith, h, ge) in subst
            (λ i. is_gt (cmp (turn_of i) (turn_of steps)) ≡ false) last (not_above_itself (turn_of steps))
      ];
    }

    pub no_higher-turn : is_gt (cmp (turn_of steps) (turn_of best)) ≡ false → IsGreatestBelow o v (steps + 1) best
    no_higher-turn above = record {
      below = so_far.below;
      none_above = λ j h. elim (cases_lt j steps) [
        | inl lt ↦ so_far.none_above j lt
        | inr ge ↦
            let last : steps ≡ j = omega (arith, h, ge) in
            subst (λ i. is_gt (cmp (turn_of i) (turn_of best)) ≡ false) last above
      ];
    }

module _ (o : Order) (W : PointsLaw o) where
  abbrev n : ℕ
  n = (points_of o).order

  pub turned-twice : (j k : ℕ) (z : NumberOf o) → turned_by o (j + k) z ≡ turned_by o j (turned_by o k z)
  turned-twice j k z =
      ap (λ u. (points_of o).ring.mul u z) (power-add (points_of o).ring W.of_ring (points_of o).zeta j k)
      ∙ W.of_ring.mul_assoc (power (points_of o).ring (points_of o).zeta j) (power (points_of o).ring (points_of o).zeta k) z

  pub turned-mod : (j : ℕ) (z : NumberOf o) → turned_by o (j % n) z ≡ turned_by o j z
  turned-mod j z = ap (λ u. (points_of o).ring.mul u z) (power-mod (points_of o).ring W.of_ring (points_of o).zeta n W.round j)

  turned-round : (z : NumberOf o) → turned_by o n z ≡ z
  turned-round z =
      ap (λ u. (points_of o).ring.mul u z) W.round ∙ ring (points_of o).ring W.of_ring (z ∷ []) (con (pos 1) ⊗ var 0) (var 0) refl

  turned-half : (z : NumberOf o) → turned_by o (n / 2) z ≡ (points_of o).ring.neg z
  turned-half z =
      ap (λ u. (points_of o).ring.mul u z) (half_power o) ∙ ring (points_of o).ring W.of_ring (z ∷ []) (con (negsuc 0) ⊗ var 0) (neg (var 0)) refl

  -- the way back of a turn
  turned-back : (j : ℕ) (v w : NumberOf o) → turned_by o j w ≡ v → turned_by o (n - j % n) v ≡ w
  turned-back j v w e =
      let small = mod-lt j (some_order o) in
      let whole : (n - j % n) + j % n ≡ n = omega (arith, small) in
      ap (turned_by o (n - j % n)) (sym e ∙ sym (turned-mod j w)) ∙ sym (turned-twice (n - j % n) (j % n) w)
      ∙ ap (λ i. turned_by o i w) whole ∙ turned-round w

  -- a turn of v is none above the greatest of w
  none-above : (v w : NumberOf o) (b j : ℕ) → IsGreatest o w b → turned_by o j w ≡ v → (a : ℕ)
      → is_gt (cmp (coefficients o (turned_by o a v)) (coefficients o (turned_by o b w))) ≡ false
  none-above v w b j greatest e a =
      subst (λ z. is_gt (cmp (coefficients o z) (coefficients o (turned_by o b w))) ≡ false)
      (turned-mod (a + j) w ∙ turned-twice a j w ∙ ap (turned_by o a) e)
      (greatest.none_above ((a + j) % n) (mod-lt (a + j) (some_order o)))

  pub one-greatest : (v w : NumberOf o) (a b j : ℕ) → IsGreatest o v a → IsGreatest o w b → turned_by o j w ≡ v → turned_by o a v ≡ turned_by o b w
  one-greatest v w a b j of_v of_w e =
      same_numbers o (turned_by o a v) (turned_by o b w)
      (neither (coefficients o (turned_by o a v)) (coefficients o (turned_by o b w))
      (none-above v w b j of_w e a) (none-above w v a (n - j % n) of_v (turned-back j v w e) b))

  -- half a turn more than onto the reverse
  pub onto-itself : (v w : NumberOf o) (j : ℕ) → turned_by o j w ≡ (points_of o).ring.neg v → turned_by o (n / 2 + j) w ≡ v
  onto-itself v w j e =
      turned-twice (n / 2) j w ∙ turned-half (turned_by o j w) ∙ ap (points_of o).ring.neg e
      ∙ ring (points_of o).ring W.of_ring (v ∷ []) (neg (neg (var 0))) (var 0) refl

  -- of one greatest vector: onto the reverse
  pub onto-reverse : (v w : NumberOf o) (a b : ℕ) → a < n → turned_by o a v ≡ turned_by o b w
      → turned_by o ((b + (n / 2 + n - a)) % n) w ≡ (points_of o).ring.neg v
  onto-reverse v w a b below e =
      let apart : b + (n / 2 + n - a) ≡ n / 2 + ((n - a) + b) = omega (arith, below) in
      let whole : (n - a) + a ≡ n = omega (arith, below) in
      turned-mod (b + (n / 2 + n - a)) w ∙ ap (λ i. turned_by o i w) apart
      ∙ turned-twice (n / 2) ((n - a) + b) w ∙ turned-half (turned_by o ((n - a) + b) w)
      ∙ ap (points_of o).ring.neg (turned-twice (n - a) b w ∙ ap (turned_by o (n - a)) (sym e)
      ∙ sym (turned-twice (n - a) a v) ∙ ap (λ i. turned_by o i v) whole ∙ turned-round v)
