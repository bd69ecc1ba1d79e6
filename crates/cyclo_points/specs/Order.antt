-- The points of each order, and which of its numbers are refused.
use Rattle.std.specs.Prelude.{ℤ, pos, ◌^◌, Bool, List, [], ◌∷◌, nat_abs, nat_lt}
use Rattle.std.specs.List.{list_any}
use Rattle.theory_substitution.specs.Points.{Points, PointLaws}
use Rattle.cyclo_points.specs.declared.order.Order.{Order}
use Rattle.cyclo_points.specs.declared.order.Order.TheVariants.{Four, Six, Eight, Ten}
use Rattle.cyclo_points.specs.Four.{points_four}
use Rattle.cyclo_points.specs.Six.{points_six}
use Rattle.cyclo_points.specs.Eight.{points_eight}
use Rattle.cyclo_points.specs.Ten.{points_ten}

abbrev pub points_of : Order → Points
points_of Four = points_four
points_of Six = points_six
points_of Eight = points_eight
points_of Ten = points_ten

-- a number of the ring Z[ζ] of an order
abbrev pub NumberOf : Order → Type 0
NumberOf o = (points_of o).ring.carrier

-- the four coefficients a0, a1, a2, a3 of a number; in orders four and six the last two are 0
abbrev pub coefficients : (o : Order) → NumberOf o → List ℤ
coefficients Four z = z.a ∷ (z.b ∷ (pos 0 ∷ (pos 0 ∷ [])))
coefficients Six z = z.a ∷ (z.b ∷ (pos 0 ∷ (pos 0 ∷ [])))
coefficients Eight z = z.a0 ∷ (z.a1 ∷ (z.a2 ∷ (z.a3 ∷ [])))
coefficients Ten z = z.a0 ∷ (z.a1 ∷ (z.a2 ∷ (z.a3 ∷ [])))

-- whether a number is refused: some coefficient is above 2^24 in absolute value
abbrev pub is_refused : (o : Order) → NumberOf o → Bool
is_refused o z = list_any (λ x. nat_lt (2 ^ 24) (nat_abs x)) (coefficients o z)

-- the points of an order meet the laws of points
abbrev pub PointsLaw : Order → Type 0
PointsLaw o = PointLaws (points_of o)
