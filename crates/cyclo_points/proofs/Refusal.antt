-- The test of four coefficients against the limit, and what it says of the point.
use Rattle.std.specs.Bool.{IsTrue}
use Rattle.std.proofs.Common.{◌≡◌, ◌↔◌, ℤ, pos, Bool, true, false, ◌||◌, nat_abs, nat_lt, ◌^◌, refl, ap₂, ◌∙◌, arith}
use Rattle.std.proofs.lemmas.Bool.Decides.{nat_tests}
use Rattle.theory_ring.proofs.Booleans.{decided}
use Rattle.cyclo_points.specs.declared.order.Order.{Order}
use Rattle.cyclo_points.specs.declared.order.Order.TheVariants.{Four, Six, Eight, Ten}
use Rattle.cyclo_points.specs.declared.point.Point.{Point}
use Rattle.cyclo_points.specs.Order.{is_refused}
use Rattle.cyclo_points.specs.Point.{coefficient, point_in, IsOf, Within, IsWithin}
use Rattle.cyclo_points.proofs.Sizes.{abs_within, within_abs}

-- whether a number is above the limit in absolute value
abbrev pub beyond : ℤ → Bool
beyond x = nat_lt (2 ^ 24) (nat_abs x)

within-not_beyond : (x : ℤ) → beyond x ≡ false → Within (2 ^ 24) x
within-not_beyond x e = abs_within (2 ^ 24) x (grind (arith, nat_tests))

not_beyond-within : (x : ℤ) → Within (2 ^ 24) x → beyond x ≡ false
not_beyond-within x h = let g = within_abs (2 ^ 24) x h in grind (arith, nat_tests)

-- whether a coefficient of the point is
abbrev pub some_beyond : Point → Bool
some_beyond p = beyond (coefficient p 0) || beyond (coefficient p 1) || beyond (coefficient p 2) || beyond (coefficient p 3)

neither : (a b : Bool) → a || b ≡ false → (a ≡ false) × (b ≡ false)
neither true b e = absurd (cc e)
neither false b e = (refl, e)

pub within-some_beyond : (p : Point) → some_beyond p ≡ false → IsWithin (2 ^ 24) p
within-some_beyond p e =
    let f = neither (beyond (coefficient p 0) || beyond (coefficient p 1) || beyond (coefficient p 2)) (beyond (coefficient p 3)) e in
    let g = neither (beyond (coefficient p 0) || beyond (coefficient p 1)) (beyond (coefficient p 2)) f.0 in
    let h = neither (beyond (coefficient p 0)) (beyond (coefficient p 1)) g.0 in
    record {
      at_0 = within-not_beyond _ h.0;
      at_1 = within-not_beyond _ h.1;
      at_2 = within-not_beyond _ g.1;
      at_3 = within-not_beyond _ f.1;
    }

some_beyond-within : (p : Point) → IsWithin (2 ^ 24) p → some_beyond p ≡ false
some_beyond-within p h =
    ap₂ (λ a b. a || b) (ap₂ (λ a b. a || b) (ap₂ (λ a b. a || b) (not_beyond-within _ h.at_0)
    (not_beyond-within _ h.at_1)) (not_beyond-within _ h.at_2)) (not_beyond-within _ h.at_3)

pub some_beyond-decides : (p : Point) → IsTrue (some_beyond p) ↔ (¬ IsWithin (2 ^ 24) p)
some_beyond-decides p = decided (some_beyond p) (IsWithin (2 ^ 24) p) (within-some_beyond p) (some_beyond-within p)

regrouped : (a b c d : Bool) → a || b || c || d ≡ (a || (b || (c || (d || false))))
regrouped true b c d = refl
regrouped false true c d = refl
regrouped false false true d = refl
regrouped false false false true = refl
regrouped false false false false = refl

pub some_beyond-refused : (o : Order) (p : Point) → IsOf o p → some_beyond p ≡ is_refused o (point_in o p)
some_beyond-refused Four p h =
    ap₂ (λ x y. beyond (coefficient p 0) || beyond (coefficient p 1) || beyond x || beyond y) h.0 h.1
    ∙ regrouped (beyond (coefficient p 0)) (beyond (coefficient p 1)) (beyond (pos 0)) (beyond (pos 0))
some_beyond-refused Six p h =
    ap₂ (λ x y. beyond (coefficient p 0) || beyond (coefficient p 1) || beyond x || beyond y) h.0 h.1
    ∙ regrouped (beyond (coefficient p 0)) (beyond (coefficient p 1)) (beyond (pos 0)) (beyond (pos 0))
some_beyond-refused Eight p h = regrouped (beyond (coefficient p 0)) (beyond (coefficient p 1)) (beyond (coefficient p 2)) (beyond (coefficient p 3))
some_beyond-refused Ten p h = regrouped (beyond (coefficient p 0)) (beyond (coefficient p 1)) (beyond (coefficient p 2)) (beyond (coefficient p 3))
