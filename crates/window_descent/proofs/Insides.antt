-- Whole numbers that have the sign of a real one, and points that lie in a window.
use Rattle.std.specs.Ordering.{int_cmp, is_gt}
use Rattle.std.specs.declared.cmp.Ordering.TheVariants.{Greater}
use Rattle.std.proofs.Common.{arith, ℕ, ℤ, ◌≡◌, ◌^◌, ◌<◌, pos, neg_ℤ, ◌+ℤ◌, ◌<ℤ◌, ◌≤ℤ◌, negsuc, zero, suc, Bool, true, false, ◌&&◌, ◌||◌, refl, sym}
use Rattle.std.proofs.Common.{◌∙◌, ap, ap₂, subst}
use Rattle.std.proofs.lemmas.Int.{ints}
use Rattle.theory_ring.specs.Ring.{difference}
use Rattle.theory_ring.specs.Sign.{Signed}
use Rattle.theory_plane.specs.BoxTest.{Depths, meets_both}
use Rattle.cyclo_points.specs.declared.order.Order.{Order}
use Rattle.cyclo_points.specs.declared.order.Order.TheVariants.{Four, Six, Eight, Ten}
use Rattle.cyclo_points.specs.declared.point.Point.{Point}
use Rattle.cyclo_points.specs.Order.{points_of}
use Rattle.cyclo_points.specs.Point.{point_in, Within}
use Rattle.cyclo_points.specs.Real.{RealOf, number}
use Rattle.cyclo_points.specs.Witness.{witness_in}
use Rattle.cyclo_points.proofs.Reals.{sign_at, number-add, number-difference}
use Rattle.cyclo_points.proofs.Within.{whole_is}
use Rattle.cyclo_points.proofs.ShortWitness.{sign-witness}
use Rattle.plane_geom.specs.declared.window.Window.{Window}
use Rattle.window_descent.specs.Inside.{IsWellInside}

-- ---- the sign of a + bθ
positive : (o : Order) (a b : ℤ) → Within (2 ^ 25) a → Within (2 ^ 25) b → pos 0 <ℤ witness_in o a b → is_gt (sign_at o a b) ≡ true
positive o a b f g h = ap is_gt (sign-witness o a b f g ∙ sym (above_zero (witness_in o a b) h))
  where
    above_zero : (x : ℤ) → pos 0 <ℤ x → Greater ≡ int_cmp x (pos 0)
    above_zero x h = grind (arith, ints)

-- ---- between two opposite whole numbers
below-sum : (o : Order) (e a b : ℤ) → witness_in o a b <ℤ witness_in o e (pos 0) → pos 0 <ℤ witness_in o (e +ℤ neg_ℤ a) (pos 0 +ℤ neg_ℤ b)
below-sum Four e a b h = omega (arith, ints)
below-sum Six e a b h = omega (arith, ints)
below-sum Eight e a b h = omega (arith, ints)
below-sum Ten e a b h = omega (arith, ints)

above-sum : (o : Order) (e a b : ℤ) → neg_ℤ (witness_in o e (pos 0)) <ℤ witness_in o a b → pos 0 <ℤ witness_in o (e +ℤ a) (pos 0 +ℤ b)
above-sum Four e a b h = omega (arith, ints)
above-sum Six e a b h = omega (arith, ints)
above-sum Eight e a b h = omega (arith, ints)
above-sum Ten e a b h = omega (arith, ints)

module _ (o : Order) (n : ℕ) (few : n < 2 ^ 16) (a b : ℤ) (f : Within (2 ^ 24) a) (g : Within (2 ^ 24) b) where
  pub below-extent : witness_in o a b <ℤ witness_in o (pos n) (pos 0)
      → is_gt ((points_of o).real.sign (difference (points_of o).real.ops ((points_of o).real.ops.int (pos n)) (number o a b))) ≡ true
  below-extent h =
      ap (λ z. is_gt ((points_of o).real.sign z)) (ap (λ z. difference (points_of o).real.ops z (number o a b)) (sym (whole_is o (pos n) n refl))
      ∙ sym (number-difference o (pos n) (pos 0) a b))
      ∙ positive o (pos n +ℤ neg_ℤ a) (pos 0 +ℤ neg_ℤ b) (record { low = omega (arith, ints); high = omega (arith, ints) })
      (record { low = omega (arith, ints); high = omega (arith, ints) }) (below-sum o (pos n) a b h)

  pub above-extent : neg_ℤ (witness_in o (pos n) (pos 0)) <ℤ witness_in o a b
      → is_gt ((points_of o).real.sign ((points_of o).real.ops.add ((points_of o).real.ops.int (pos n)) (number o a b))) ≡ true
  above-extent h =
      ap (λ z. is_gt ((points_of o).real.sign z)) (ap (λ z. (points_of o).real.ops.add z (number o a b)) (sym (whole_is o (pos n) n refl))
      ∙ sym (number-add o (pos n) (pos 0) a b))
      ∙ positive o (pos n +ℤ a) (pos 0 +ℤ b) (record { low = omega (arith, ints); high = omega (arith, ints) })
      (record { low = omega (arith, ints); high = omega (arith, ints) }) (above-sum o (pos n) a b h)

-- ---- and not between them
not_positive : (o : Order) (a b : ℤ) → Within (2 ^ 25) a → Within (2 ^ 25) b → witness_in o a b ≤ℤ pos 0 → is_gt (sign_at o a b) ≡ false
not_positive o a b f g h = ap is_gt (sign-witness o a b f g) ∙ at_most_zero (witness_in o a b) h
  where
    at_most_zero : (x : ℤ) → x ≤ℤ pos 0 → is_gt (int_cmp x (pos 0)) ≡ false
    at_most_zero (pos zero) h = refl
    at_most_zero (pos (suc n)) h = absurd (omega (arith, ints))
    at_most_zero (negsuc n) h = refl

not_below-sum : (o : Order) (e a b : ℤ) → witness_in o e (pos 0) ≤ℤ witness_in o a b → witness_in o (e +ℤ neg_ℤ a) (pos 0 +ℤ neg_ℤ b) ≤ℤ pos 0
not_below-sum Four e a b h = omega (arith, ints)
not_below-sum Six e a b h = omega (arith, ints)
not_below-sum Eight e a b h = omega (arith, ints)
not_below-sum Ten e a b h = omega (arith, ints)

not_above-sum : (o : Order) (e a b : ℤ) → witness_in o a b ≤ℤ neg_ℤ (witness_in o e (pos 0)) → witness_in o (e +ℤ a) (pos 0 +ℤ b) ≤ℤ pos 0
not_above-sum Four e a b h = omega (arith, ints)
not_above-sum Six e a b h = omega (arith, ints)
not_above-sum Eight e a b h = omega (arith, ints)
not_above-sum Ten e a b h = omega (arith, ints)

module _ (o : Order) (n : ℕ) (few : n < 2 ^ 16) (a b : ℤ) (f : Within (2 ^ 24) a) (g : Within (2 ^ 24) b) (own limit : ℤ)
    (own-is : own ≡ witness_in o a b) (limit-is : limit ≡ witness_in o (pos n) (pos 0)) where
  -- whether the number is below the whole one
  pub tells-below : (t : Bool) → (t ≡ true → own <ℤ limit) → (t ≡ false → limit ≤ℤ own)
      → t ≡ is_gt ((points_of o).real.sign (difference (points_of o).real.ops ((points_of o).real.ops.int (pos n)) (number o a b)))
  tells-below true h k =
      sym (below-extent o n few a b f g (subst (λ y. witness_in o a b <ℤ y) limit-is (subst (λ x. x <ℤ limit) own-is (h refl))))
  tells-below false h k =
      sym (ap (λ z. is_gt ((points_of o).real.sign z))
      (ap (λ z. difference (points_of o).real.ops z (number o a b)) (sym (whole_is o (pos n) n refl)) ∙ sym (number-difference o (pos n) (pos 0) a b))
      ∙ not_positive o (pos n +ℤ neg_ℤ a) (pos 0 +ℤ neg_ℤ b) (record { low = omega (arith, ints); high = omega (arith, ints) })
      (record { low = omega (arith, ints); high = omega (arith, ints) })
      (not_below-sum o (pos n) a b (subst (λ y. y ≤ℤ witness_in o a b) limit-is (subst (λ x. limit ≤ℤ x) own-is (k refl)))))

  -- and whether it is above the negative
  pub tells-above : (t : Bool) → (t ≡ true → neg_ℤ limit <ℤ own) → (t ≡ false → own ≤ℤ neg_ℤ limit)
      → t ≡ is_gt ((points_of o).real.sign ((points_of o).real.ops.add ((points_of o).real.ops.int (pos n)) (number o a b)))
  tells-above true h k =
      sym (above-extent o n few a b f g (subst (λ y. neg_ℤ y <ℤ witness_in o a b) limit-is (subst (λ x. neg_ℤ limit <ℤ x) own-is (h refl))))
  tells-above false h k =
      sym (ap (λ z. is_gt ((points_of o).real.sign z))
      (ap (λ z. (points_of o).real.ops.add z (number o a b)) (sym (whole_is o (pos n) n refl)) ∙ sym (number-add o (pos n) (pos 0) a b))
      ∙ not_positive o (pos n +ℤ a) (pos 0 +ℤ b) (record { low = omega (arith, ints); high = omega (arith, ints) })
      (record { low = omega (arith, ints); high = omega (arith, ints) })
      (not_above-sum o (pos n) a b (subst (λ y. witness_in o a b ≤ℤ neg_ℤ y) limit-is (subst (λ x. x ≤ℤ neg_ℤ limit) own-is (k refl)))))

pub limit-small : (o : Order) (n : ℕ) → n < 2 ^ 16 → Within (2 ^ 60) (witness_in o (pos n) (pos 0))
limit-small Four n f = record { low = omega (arith, ints); high = omega (arith, ints) }
limit-small Six n f = record { low = omega (arith, ints); high = omega (arith, ints) }
limit-small Eight n f = record { low = omega (arith, ints); high = omega (arith, ints) }
limit-small Ten n f = record { low = omega (arith, ints); high = omega (arith, ints) }

-- ---- an end in all four half planes
both_true : (x y u v w : Bool) → x ≡ true → y ≡ true → (x && y || u || v || w) ≡ true
both_true x y u v w e f = ap₂ (λ x y. x && y || u || v || w) e f

starts_both : (S : Signed) (f g : Depths S.ops.carrier) → is_gt (S.sign f.at_start) ≡ true → is_gt (S.sign g.at_start) ≡ true → meets_both S f g
    ≡ true
starts_both S f g e h = both_true (is_gt (S.sign f.at_start)) (is_gt (S.sign g.at_start)) _ _ _ e h

all_six : (p q r s t u : Bool) → p ≡ true → q ≡ true → r ≡ true → s ≡ true → t ≡ true → u ≡ true → (p && q && r && s && t && u) ≡ true
all_six p q r s t u e f g h j k = ap₂ (λ x y. x && y) (ap₂ (λ x y. x
    && y) (ap₂ (λ x y. x && y) (ap₂ (λ x y. x && y) (ap₂ (λ x y. x && y) e f) g) h) j) k

pub inside-is : (o : Order) (w : Window) (p : Point) (wide high : RealOf o)
    → wide ≡ difference (points_of o).real.ops ((points_of o).x (point_in o p)) ((points_of o).x (point_in o w.centre))
    → high ≡ difference (points_of o).real.ops ((points_of o).y (point_in o p)) ((points_of o).y (point_in o w.centre))
    → is_gt ((points_of o).real.sign (difference (points_of o).real.ops ((points_of o).real.ops.int (pos w.w)) wide)) ≡ true
    → is_gt ((points_of o).real.sign ((points_of o).real.ops.add ((points_of o).real.ops.int (pos w.w)) wide)) ≡ true
    → is_gt ((points_of o).real.sign (difference (points_of o).real.ops ((points_of o).real.ops.int (pos w.h)) high)) ≡ true
    → is_gt ((points_of o).real.sign ((points_of o).real.ops.add ((points_of o).real.ops.int (pos w.h)) high)) ≡ true
    → IsWellInside o w p
inside-is o w p wide high e f below_x above_x below_y above_y q =
    all_six _ _ _ _ _ _ (starts_both (points_of o).real _ _ bx ax) (starts_both (points_of o).real _ _ bx by)
    (starts_both (points_of o).real _ _ bx ay) (starts_both (points_of o).real _ _ ax by) (starts_both (points_of o).real _ _ ax ay)
    (starts_both (points_of o).real _ _ by ay)
  where
    bx : is_gt ((points_of o).real.sign (difference (points_of o).real.ops ((points_of o).real.ops.int (pos w.w))
        (difference (points_of o).real.ops ((points_of o).x (point_in o p)) ((points_of o).x (point_in o w.centre))))) ≡ true
    bx = subst (λ z. is_gt ((points_of o).real.sign (difference (points_of o).real.ops ((points_of o).real.ops.int (pos w.w)) z)) ≡ true) e below_x

    ax : is_gt ((points_of o).real.sign ((points_of o).real.ops.add ((points_of o).real.ops.int (pos w.w))
        (difference (points_of o).real.ops ((points_of o).x (point_in o p)) ((points_of o).x (point_in o w.centre))))) ≡ true
    ax = subst (λ z. is_gt ((points_of o).real.sign ((points_of o).real.ops.add ((points_of o).real.ops.int (pos w.w)) z)) ≡ true) e above_x

    by : is_gt ((points_of o).real.sign (difference (points_of o).real.ops ((points_of o).real.ops.int (pos w.h))
        (difference (points_of o).real.ops ((points_of o).y (point_in o p)) ((points_of o).y (point_in o w.centre))))) ≡ true
    by = subst (λ z. is_gt ((points_of o).real.sign (difference (points_of o).real.ops ((points_of o).real.ops.int (pos w.h)) z)) ≡ true) f below_y

    ay : is_gt ((points_of o).real.sign ((points_of o).real.ops.add ((points_of o).real.ops.int (pos w.h))
        (difference (points_of o).real.ops ((points_of o).y (point_in o p)) ((points_of o).y (point_in o w.centre))))) ≡ true
    ay = subst (λ z. is_gt ((points_of o).real.sign ((points_of o).real.ops.add ((points_of o).real.ops.int (pos w.h)) z)) ≡ true) f above_y
