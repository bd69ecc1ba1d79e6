-- A point of an order is its coefficients, and is printed as its number is; the line of a tile placed.
use Rattle.std.specs.Ordering.{int_eq}
use Rattle.std.specs.Cmp.Lexicographic.{pointwise}
use Rattle.std.proofs.Common.{◌≡◌, ℕ, ℤ, pos, Bool, true, false, ◌&&◌, List, [], ◌∷◌, ◌++◌, length, get_or, refl, sym, ap, ap₂, ◌∙◌, append_assoc}
use Rattle.cyclo_points.specs.declared.order.Order.{Order}
use Rattle.cyclo_points.specs.declared.order.Order.TheVariants.{Four, Six, Eight, Ten}
use Rattle.cyclo_points.specs.declared.point.Point.{Point}
use Rattle.cyclo_points.specs.Order.{coefficients}
use Rattle.cyclo_points.specs.Point.{point_in, coefficient, IsOf}
use Rattle.cyclo_points.specs.Text.{coefficients_text, number_text, point_text, blank, newline}

-- a point of an order is printed as its number is; in orders four and six the last two coefficients are 0
pub point_text-number : (o : Order) (p : Point) → IsOf o p → point_text p ≡ number_text o (point_in o p)
point_text-number Four p h = ap₂ (λ c d. coefficients_text (coefficient p 0 ∷ (coefficient p 1 ∷ (c ∷ (d ∷ []))))) h.0 h.1
point_text-number Six p h = ap₂ (λ c d. coefficients_text (coefficient p 0 ∷ (coefficient p 1 ∷ (c ∷ (d ∷ []))))) h.0 h.1
point_text-number Eight p h = refl
point_text-number Ten p h = refl

-- a list of four is that of its elements
pub four : (xs : List ℤ) → length xs ≡ 4 → xs ≡ get_or xs 0 (pos 0) ∷ get_or xs 1 (pos 0) ∷ get_or xs 2 (pos 0) ∷ get_or xs 3 (pos 0) ∷ []
four [] e = absurd (cc e)
four (a ∷ []) e = absurd (cc e)
four (a ∷ b ∷ []) e = absurd (cc e)
four (a ∷ b ∷ c ∷ []) e = absurd (cc e)
four (a ∷ b ∷ c ∷ d ∷ []) e = refl
four (a ∷ b ∷ c ∷ d ∷ x ∷ xs) e = absurd (cc e)

-- a point of an order is its coefficients
pub coefficients_of : (o : Order) (p : Point) → length p.c ≡ 4 → IsOf o p → p.c ≡ coefficients o (point_in o p)
coefficients_of Four p l h = four p.c l ∙ ap₂ (λ c d. coefficient p 0 ∷ (coefficient p 1 ∷ (c ∷ (d ∷ [])))) h.0 h.1
coefficients_of Six p l h = four p.c l ∙ ap₂ (λ c d. coefficient p 0 ∷ (coefficient p 1 ∷ (c ∷ (d ∷ [])))) h.0 h.1
coefficients_of Eight p l h = four p.c l
coefficients_of Ten p l h = four p.c l

regrouped : (a b c d : Bool) → (a && (b && (c && (d && true)))) ≡ a && b && c && d
regrouped false b c d = refl
regrouped true false c d = refl
regrouped true true false d = refl
regrouped true true true false = refl
regrouped true true true true = refl

-- coefficients are compared one by one
pub one_by_one : (p q : Point) → length p.c ≡ 4 → length q.c ≡ 4 → pointwise int_eq p.c q.c
    ≡ int_eq (coefficient p 0) (coefficient q 0) && int_eq (coefficient p 1) (coefficient q 1)
    && int_eq (coefficient p 2) (coefficient q 2) && int_eq (coefficient p 3) (coefficient q 3)
one_by_one p q l m =
    ap₂ (pointwise int_eq) (four p.c l) (four q.c m)
    ∙ regrouped (int_eq (coefficient p 0) (coefficient q 0)) (int_eq (coefficient p 1) (coefficient q 1))
    (int_eq (coefficient p 2) (coefficient q 2)) (int_eq (coefficient p 3) (coefficient q 3))

-- the pieces of the line of a tile placed, joined from the right, are the line
pub pieces_of_line : (kind turn shift number : List ℕ) → shift ≡ number
    → kind ++ (blank ∷ (turn ++ blank ∷ shift ++ (newline ∷ []))) ≡ kind ++ blank ∷ turn ++ blank ∷ number ++ newline ∷ []
pieces_of_line kind turn shift number e =
    ap (λ s. kind ++ (blank ∷ s)) (append_assoc turn (blank ∷ shift) (newline ∷ []))
    ∙ ap (λ s. kind ++ (blank ∷ (turn ++ (blank ∷ (s ++ (newline ∷ [])))))) e
    ∙ sym (append_assoc (kind ++ blank ∷ turn) (blank ∷ number) (newline ∷ []) ∙ append_assoc kind (blank ∷ turn) (blank ∷ (number ++ newline ∷ [])))
