-- bθ rounded down is its floor, and so a thousand times a number of coordinates.
use Rattle.std.specs.declared.cmp.Ordering.TheVariants.{Greater}
use Rattle.std.proofs.Common.{◌≡◌, ℕ, ℤ, pos, neg_ℤ, ◌+ℤ◌, ◌*ℤ◌, ◌<ℤ◌, ◌≤ℤ◌, refl, sym, ap, subst, ◌∙◌, arith}
use Rattle.std.proofs.lemmas.Int.{ints}
use Rattle.theory_ring.proofs.Ordered.{two_above, five_above, whole_greater, greater_whole}
use Rattle.theory_ring.proofs.Squares.{no_root_two, no_root_five}
use Rattle.theory_ring.specs.Sign.{surd_sign}
use Rattle.theory_ring.specs.Squares.{NoRoot}
use Rattle.cyclo_points.specs.declared.order.Order.{Order}
use Rattle.cyclo_points.specs.declared.order.Order.TheVariants.{Four, Six, Eight, Ten}
use Rattle.cyclo_points.specs.Real.{RealOf, number}
use Rattle.cyclo_points.specs.Thousandths.{floor_root, floor_theta, thousandths, IsFloorThousandths}
use Rattle.cyclo_points.proofs.Floors.{above-by_parts, by_parts-above, div-at_most, div-below_next}
use Rattle.cyclo_points.proofs.Reals.{sign_at}
use Rattle.cyclo_points.proofs.Roots.{floor_root-at_most, floor_root-next, signed_square-rises, signed_square-neg, times-neg}
use Rattle.cyclo_points.proofs.Witnesses.{signed_square, sign-by_squares}

-- ---- u - b √m is above 0 where u is above the floor of b √m, and nowhere else
not_above : (m : ℕ) (m_pos : pos 0 <ℤ pos m) (no_root : NoRoot (pos m)) (u b : ℤ) → u ≤ℤ floor_root m b → surd_sign (pos m) u (neg_ℤ b) ≡ Greater → ⊥
not_above m m_pos no_root u b h e =
    at_parts (signed_square u) (signed_square (floor_root m b)) (pos m *ℤ signed_square b) (pos m *ℤ signed_square (neg_ℤ b))
    (signed_square-rises u (floor_root m b) h) (floor_root-at_most m b)
    (ap (λ x. pos m *ℤ x) (signed_square-neg b) ∙ times-neg (pos m) (signed_square b))
    (greater_whole (signed_square u +ℤ pos m *ℤ signed_square (neg_ℤ b)) (sym (sign-by_squares (pos m) m_pos no_root u (neg_ℤ b)) ∙ e))
  where
    at_parts : (x y z t : ℤ) → x ≤ℤ y → y ≤ℤ z → t ≡ neg_ℤ z → pos 0 <ℤ (x +ℤ t) → ⊥
    at_parts x y z t h g e l = absurd (omega (arith, ints))

above : (m : ℕ) (m_pos : pos 0 <ℤ pos m) (no_root : NoRoot (pos m)) (u b : ℤ) → (floor_root m b +ℤ pos 1) ≤ℤ u
    → surd_sign (pos m) u (neg_ℤ b) ≡ Greater
above m m_pos no_root u b h =
    sign-by_squares (pos m) m_pos no_root u (neg_ℤ b)
    ∙ whole_greater (signed_square u +ℤ pos m *ℤ signed_square (neg_ℤ b))
    (at_parts (signed_square u) (signed_square (floor_root m b +ℤ pos 1)) (pos m *ℤ signed_square b) (pos m *ℤ signed_square (neg_ℤ b))
    (signed_square-rises (floor_root m b +ℤ pos 1) u h) (floor_root-next m no_root b)
    (ap (λ x. pos m *ℤ x) (signed_square-neg b) ∙ times-neg (pos m) (signed_square b)))
  where
    at_parts : (x y z t : ℤ) → y ≤ℤ x → z <ℤ y → t ≡ neg_ℤ z → pos 0 <ℤ (x +ℤ t)
    at_parts x y z t h g e = omega (arith, ints)

-- ---- bθ, rounded down
theta-at_most : (o : Order) (b : ℤ) → sign_at o (floor_theta o b) (neg_ℤ b) ≡ Greater → ⊥
theta-at_most Four b e = cc e
theta-at_most Six b e = cc e
theta-at_most Eight b e = not_above 2 two_above no_root_two (floor_root 2 b) b (same (floor_root 2 b)) e
  where
    same : (x : ℤ) → x ≤ℤ x
    same x = omega (arith, ints)
theta-at_most Ten b e =
    not_above 5 five_above no_root_five (pos 2 *ℤ floor_theta Ten b +ℤ neg_ℤ b) b
    (halved b (floor_root 5 b) (floor_theta Ten b) (div-at_most (b +ℤ floor_root 5 b) 2 (omega arith))) e
  where
    halved : (b w x : ℤ) → (x *ℤ pos 2) ≤ℤ (b +ℤ w) → (pos 2 *ℤ x +ℤ neg_ℤ b) ≤ℤ w
    halved b w x h = omega (arith, ints)

theta-next : (o : Order) (b : ℤ) → sign_at o (floor_theta o b +ℤ pos 1) (neg_ℤ b) ≡ Greater
theta-next Four b = refl
theta-next Six b = refl
theta-next Eight b = above 2 two_above no_root_two (floor_root 2 b +ℤ pos 1) b (same (floor_root 2 b +ℤ pos 1))
  where
    same : (x : ℤ) → x ≤ℤ x
    same x = omega (arith, ints)
theta-next Ten b =
    above 5 five_above no_root_five (pos 2 *ℤ (floor_theta Ten b +ℤ pos 1) +ℤ neg_ℤ b) b
    (halved b (floor_root 5 b) (floor_theta Ten b) (div-below_next (b +ℤ floor_root 5 b) 2 (omega arith)))
  where
    halved : (b w x : ℤ) → (b +ℤ w) <ℤ (x *ℤ pos 2 +ℤ pos 2) → (w +ℤ pos 1) ≤ℤ (pos 2 *ℤ (x +ℤ pos 1) +ℤ neg_ℤ b)
    halved b w x h = omega (arith, ints)

-- ---- a thousand times a number, rounded down
is_floor : (o : Order) (a b : ℤ) → IsFloorThousandths o (number o a b) (pos 1000 *ℤ a +ℤ floor_theta o (pos 1000 *ℤ b))
is_floor o a b =
    let x = floor_theta o (pos 1000 *ℤ b) in
    record {
      at_most = λ h. theta-at_most o (pos 1000 *ℤ b)
          (ap (λ u. sign_at o u (neg_ℤ (pos 1000 *ℤ b))) (rest a x)
          ∙ by_parts-above o (pos 1000 *ℤ a +ℤ x) a b h);
      below_next = above-by_parts o ((pos 1000 *ℤ a +ℤ x) +ℤ pos 1) a b
          (ap (λ u. sign_at o u (neg_ℤ (pos 1000 *ℤ b))) (next a x) ∙ theta-next o (pos 1000 *ℤ b));
    }
  where
    rest : (a x : ℤ) → x ≡ (pos 1000 *ℤ a +ℤ x) +ℤ neg_ℤ (pos 1000 *ℤ a)
    rest a x = omega (arith, ints)

    next : (a x : ℤ) → ((pos 1000 *ℤ a +ℤ x) +ℤ pos 1) +ℤ neg_ℤ (pos 1000 *ℤ a) ≡ x +ℤ pos 1
    next a x = omega (arith, ints)

pub thousandths-is_floor : (o : Order) (r : RealOf o) → IsFloorThousandths o r (thousandths o r)
thousandths-is_floor Four r = subst (IsFloorThousandths Four r) (whole r) (is_floor Four r (pos 0))
  where
    whole : (r : ℤ) → pos 1000 *ℤ r +ℤ pos 0 ≡ pos 1000 *ℤ r
    whole r = omega (arith, ints)
thousandths-is_floor Six r = subst (IsFloorThousandths Six r) (whole r) (is_floor Six r (pos 0))
  where
    whole : (r : ℤ) → pos 1000 *ℤ r +ℤ pos 0 ≡ pos 1000 *ℤ r
    whole r = omega (arith, ints)
thousandths-is_floor Eight r = is_floor Eight r.a r.b
thousandths-is_floor Ten r = is_floor Ten r.a r.b
