-- Points of an order are one exactly where their coefficients are the same.
use Rattle.std.specs.Prelude.{int_lt}
use Rattle.std.specs.declared.cmp.Ordering.TheVariants.{Less, Equal, Greater}
use Rattle.std.specs.Ordering.{ordering_reverse, ordering_then, int_cmp, is_gt}
use Rattle.std.specs.Cmp.{tied_itself}
use Rattle.std.specs.Cmp.Lexicographic.{slice_cmp}
use Rattle.std.proofs.lemmas.Cmp.{int_cmp_total}
use Rattle.std.proofs.Common.{◌≡◌, ℤ, Bool, true, false, cond, List, [], ◌∷◌, length, refl, sym, ap, ap₂, ◌∙◌}
use Rattle.cyclo_points.specs.declared.order.Order.{Order}
use Rattle.cyclo_points.specs.declared.order.Order.TheVariants.{Four, Six, Eight, Ten}
use Rattle.cyclo_points.specs.declared.point.Point.{Point}
use Rattle.cyclo_points.specs.Order.{NumberOf, coefficients}
use Rattle.cyclo_points.specs.Point.{coefficient, point_in, IsOf}
use Rattle.cyclo_points.proofs.Coefficients.{four, coefficients_of}

-- one number, so one list
pub same_coefficients : (o : Order) (p q : Point) → length p.c ≡ 4 → length q.c ≡ 4 → IsOf o p → IsOf o q → point_in o p ≡ point_in o q → p.c ≡ q.c
same_coefficients o p q l m f g e = coefficients_of o p l f ∙ ap (coefficients o) e ∙ sym (coefficients_of o q m g)

-- numbers with one list of coefficients are one
number_of : (o : Order) → List ℤ → NumberOf o
number_of o c = (let s : Point = record { c = c } in point_in o s)

read_back : (o : Order) (z : NumberOf o) → number_of o (coefficients o z) ≡ z
unfolding number_of
read_back Four z = refl
read_back Six z = refl
read_back Eight z = refl
read_back Ten z = refl

pub same_numbers : (o : Order) (z w : NumberOf o) → coefficients o z ≡ coefficients o w → z ≡ w
same_numbers o z w e = sym (read_back o z) ∙ ap (number_of o) e ∙ read_back o w

-- one list, so one number
pub same_number : (o : Order) (p q : Point) → p.c ≡ q.c → point_in o p ≡ point_in o q
same_number o p q e = ap (λ (c : List ℤ). (let s : Point = record { c = c } in point_in o s)) e

-- where the first three are the same, the last decides
gt-at : (b c : Bool) → cond b Less (cond c Greater Equal) ≡ ordering_reverse
    (cond c Less (cond b Greater Equal)) → is_gt
    (ordering_then (cond b Less (cond c Greater Equal)) Equal) ≡ c
gt-at true true h = absurd (cc h)
gt-at true false h = refl
gt-at false true h = refl
gt-at false false h = refl

last-two : (a b c x y : ℤ) → is_gt (slice_cmp int_cmp (a ∷ b ∷ c ∷ x ∷ []) (a ∷ b ∷ c ∷ y ∷ [])) ≡ int_lt y x
last-two a b c x y =
    ap (λ r. is_gt (ordering_then r (slice_cmp int_cmp (b ∷ c ∷ x ∷ []) (b ∷ c ∷ y ∷ [])))) (tied_itself int_cmp_total a)
    ∙ ap (λ r. is_gt (ordering_then r (slice_cmp int_cmp (c ∷ x ∷ []) (c ∷ y ∷ [])))) (tied_itself int_cmp_total b)
    ∙ ap (λ r. is_gt (ordering_then r (slice_cmp int_cmp (x ∷ []) (y ∷ [])))) (tied_itself int_cmp_total c)
    ∙ gt-at (int_lt x y) (int_lt y x) (int_cmp_total.antisymm x y)

pub last_decides : (p q : Point) → length p.c ≡ 4 → length q.c ≡ 4 → coefficient p 0 ≡ coefficient q 0
    → coefficient p 1 ≡ coefficient q 1 → coefficient p 2 ≡ coefficient q 2
    → is_gt (slice_cmp int_cmp p.c q.c) ≡ int_lt (coefficient q 3) (coefficient p 3)
last_decides p q l m e f g =
    ap₂ (λ xs ys. is_gt (slice_cmp int_cmp xs ys))
    (four p.c l ∙ ap₂ (λ a b. a ∷ (b ∷ (coefficient p 2 ∷ (coefficient p 3 ∷ [])))) e f
    ∙ ap (λ c. coefficient q 0 ∷ (coefficient q 1 ∷ (c ∷ (coefficient p 3 ∷ [])))) g) (four q.c m)
    ∙ last-two (coefficient q 0) (coefficient q 1) (coefficient q 2) (coefficient p 3) (coefficient q 3)
