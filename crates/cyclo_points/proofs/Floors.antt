-- Whole numbers above 1000 r: which are, that those above one are too, and that just one whole number is the floor; and quotients rounded down.
use Rattle.std.specs.declared.cmp.Ordering.TheVariants.{Greater}
use Rattle.std.proofs.Common.{◌≡◌, ℕ, ℤ, pos, negsuc, ◌+ℤ◌, ◌-ℤ◌, ◌*ℤ◌, ◌<◌, ◌<ℤ◌, ◌≤ℤ◌, neg_ℤ, [], ◌∷◌, refl, sym, ap, subst, ◌∙◌, arith}
use Rattle.std.proofs.lemmas.Int.{ints, by_lt_z}
use Rattle.std.proofs.Math.Nat.{div-mul-le_self, lt-div-mul-add}
use Rattle.std.specs.Int.{int_div_euclid}
use Rattle.theory_ring.specs.Ring.{difference}
use Rattle.theory_ring.specs.Sign.{IsBelow}
use Rattle.theory_ring.proofs.Normaliser.{var, ring, ◌⊕◌, ◌⊖◌}
use Rattle.theory_ring.proofs.Ordered.{whole_greater}
use Rattle.cyclo_points.specs.declared.order.Order.{Order}
use Rattle.cyclo_points.specs.declared.order.Order.TheVariants.{Four, Six, Eight, Ten}
use Rattle.cyclo_points.specs.Order.{points_of}
use Rattle.cyclo_points.specs.Real.{RealOf, number}
use Rattle.cyclo_points.specs.Thousandths.{thousandfold, IsFloorThousandths}
use Rattle.cyclo_points.proofs.Identities.{pair_path}
use Rattle.cyclo_points.proofs.OrderLaws.{laws_of}
use Rattle.cyclo_points.proofs.Reals.{sign_at}

-- f is above 1000 r
abbrev pub IsAbove : (o : Order) → RealOf o → ℤ → Type 0
IsAbove o r f = IsBelow (points_of o).real (thousandfold o r) ((points_of o).real.ops.int f)

-- ---- f - 1000 r by its parts
pub rest-is : (o : Order) (f a b : ℤ) → number o (f +ℤ neg_ℤ (pos 1000 *ℤ a)) (neg_ℤ (pos 1000 *ℤ b))
    ≡ difference (points_of o).real.ops ((points_of o).real.ops.int f) (thousandfold o (number o a b))
rest-is Four f a b = refl
rest-is Six f a b = refl
rest-is Eight f a b = pair_path _ _ (first f a b) (second a b)
  where
    first : (f a b : ℤ) → f +ℤ neg_ℤ (pos 1000 *ℤ a) ≡ f +ℤ neg_ℤ (pos 1000 *ℤ a +ℤ pos 2 *ℤ (pos 0 *ℤ b))
    first f a b = omega (arith, ints)

    second : (a b : ℤ) → neg_ℤ (pos 1000 *ℤ b) ≡ pos 0 +ℤ neg_ℤ (pos 1000 *ℤ b +ℤ pos 0 *ℤ a)
    second a b = omega (arith, ints)
rest-is Ten f a b = pair_path _ _ (first f a b) (second a b)
  where
    first : (f a b : ℤ) → f +ℤ neg_ℤ (pos 1000 *ℤ a) ≡ f +ℤ neg_ℤ (pos 1000 *ℤ a +ℤ pos 0 *ℤ b)
    first f a b = omega (arith, ints)

    second : (a b : ℤ) → neg_ℤ (pos 1000 *ℤ b) ≡ pos 0 +ℤ neg_ℤ (pos 1000 *ℤ b +ℤ pos 0 *ℤ a +ℤ pos 0 *ℤ b)
    second a b = omega (arith, ints)

pub above-by_parts : (o : Order) (f a b : ℤ) → sign_at o (f +ℤ neg_ℤ (pos 1000 *ℤ a)) (neg_ℤ (pos 1000 *ℤ b)) ≡ Greater → IsAbove o (number o a b) f
above-by_parts o f a b h = subst (λ x. (points_of o).real.sign x ≡ Greater) (rest-is o f a b) h

pub by_parts-above : (o : Order) (f a b : ℤ) → IsAbove o (number o a b) f → sign_at o (f +ℤ neg_ℤ (pos 1000 *ℤ a)) (neg_ℤ (pos 1000 *ℤ b)) ≡ Greater
by_parts-above o f a b h = subst (λ x. (points_of o).real.sign x ≡ Greater) (sym (rest-is o f a b)) h

-- ---- the quotient rounded down
pub div-at_most : (x : ℤ) (d : ℕ) → 0 < d → (int_div_euclid x (pos d) *ℤ pos d) ≤ℤ x
div-at_most (pos n) d h = let e = div-mul-le_self n d in omega (arith, ints)
div-at_most (negsuc n) d h = let e = lt-div-mul-add {a = n} {b = d} h in omega (arith, ints)

pub div-below_next : (x : ℤ) (d : ℕ) → 0 < d → x <ℤ (int_div_euclid x (pos d) *ℤ pos d +ℤ pos d)
div-below_next (pos n) d h = let e = lt-div-mul-add {a = n} {b = d} h in omega (arith, ints)
div-below_next (negsuc n) d h = let e = div-mul-le_self n d in omega (arith, ints)

-- ---- what is at least a number above is above
int_positive : (o : Order) (n : ℤ) → pos 0 <ℤ n → (points_of o).real.sign ((points_of o).real.ops.int n) ≡ Greater
int_positive Four n h = whole_greater n h
int_positive Six n h = whole_greater n h
int_positive Eight n h = grind (arith, ints)
int_positive Ten n h = grind (arith, ints)

above-greater : (o : Order) (r : RealOf o) (f g : ℤ) → f <ℤ g → IsAbove o r f → IsAbove o r g
above-greater o r f g h a =
    let K = (points_of o).real.ops in
    subst (λ x. (points_of o).real.sign x ≡ Greater)
    (ring K (laws_of o).of_real (K.int f ∷ (thousandfold o r ∷ (K.int (g -ℤ f) ∷ []))) ((var 0 ⊖ var 1) ⊕ var 2) ((var 0 ⊕ var 2) ⊖ var 1) refl
    ∙ ap (λ x. difference K x (thousandfold o r)) (sym ((laws_of o).of_real.int_add f (g -ℤ f)) ∙ ap K.int (rejoined f g)))
    ((laws_of o).of_order.sign-add (difference K (K.int f) (thousandfold o r)) (K.int (g -ℤ f)) a (int_positive o (g -ℤ f) (gap f g h)))
  where
    rejoined : (f g : ℤ) → f +ℤ (g -ℤ f) ≡ g
    rejoined f g = omega (arith, ints)

    gap : (f g : ℤ) → f <ℤ g → pos 0 <ℤ (g -ℤ f)
    gap f g h = omega (arith, ints)

-- ---- just one whole number is the floor
not_below : (o : Order) (r : RealOf o) (f g : ℤ) → IsFloorThousandths o r f → IsFloorThousandths o r g → f <ℤ g → ⊥
not_below o r f g a b h = at_gap (by_lt_z (f +ℤ pos 1) g
    (λ l. b.at_most (above-greater o r (f +ℤ pos 1) g l a.below_next))
    (λ l. b.at_most (subst (IsAbove o r) (touching f g h l) a.below_next)))
  where
    at_gap : ⊥ → ⊥
    at_gap x = x

    touching : (f g : ℤ) → f <ℤ g → g ≤ℤ (f +ℤ pos 1) → f +ℤ pos 1 ≡ g
    touching f g h l = omega (arith, ints)

pub one_floor : (o : Order) (r : RealOf o) (f g : ℤ) → IsFloorThousandths o r f → IsFloorThousandths o r g → f ≡ g
one_floor o r f g a b =
    by_lt_z f g (λ l. absurd (not_below o r f g a b l)) (λ l. by_lt_z g f (λ k. absurd (not_below o r g f b a k)) (λ k. between f g l k))
  where
    between : (f g : ℤ) → g ≤ℤ f → f ≤ℤ g → f ≡ g
    between f g l k = omega (arith, ints)
