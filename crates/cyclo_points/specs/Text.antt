-- How points and motions are printed, and points are read.
use Rattle.std.specs.Prelude.{ℕ, ℤ, List, [], ◌∷◌, ◌++◌, map, Option, None, option_map, option_and_then}
use Rattle.std.specs.List.{join_with_byte}
use Rattle.std.specs.Fmt.{decimal, signed_decimal}
use Rattle.cyclo_points.specs.declared.motion.Motion.{Motion}
use Rattle.cyclo_points.specs.declared.order.Order.{Order}
use Rattle.cyclo_points.specs.declared.point.Point.{Point}
use Rattle.cyclo_points.specs.Order.{NumberOf, coefficients}
use Rattle.cyclo_points.specs.Point.{coefficient}

-- a blank, and the end of a line
abbrev pub blank : ℕ
blank = 32

abbrev pub newline : ℕ
newline = 10

-- coefficients, decimal, joined by `,`, which is 44
abbrev pub coefficients_text : List ℤ → List ℕ
coefficients_text cs = join_with_byte 44 (map signed_decimal cs)

-- a point of the program: its four coefficients
abbrev pub point_text : Point → List ℕ
point_text p = coefficients_text (coefficient p 0 ∷ coefficient p 1 ∷ coefficient p 2 ∷ coefficient p 3 ∷ [])

-- a motion of the program: its turn and its shift
abbrev pub motion_text : Motion → List ℕ
motion_text m = decimal m.turn ++ blank ∷ point_text m.shift

-- a number of an order: its four coefficients
abbrev pub number_text : (o : Order) → NumberOf o → List ℕ
number_text o z = coefficients_text (coefficients o z)

-- the point of four coefficients, if there are all four
abbrev pub point_of_coefficients : Option ℤ → Option ℤ → Option ℤ → Option ℤ → Option Point
point_of_coefficients a b c d =
    option_and_then (λ x. option_and_then
    (λ y. option_and_then (λ z. option_map (λ w. record { c = x ∷ y ∷ z ∷ w ∷ [] }) d) c) b) a

-- the point that four texts are, by what each is read as
abbrev pub point_of_texts : (List ℕ → Option ℤ) → List (List ℕ) → Option Point
point_of_texts read (a ∷ b ∷ c ∷ d ∷ []) = point_of_coefficients (read a) (read b) (read c) (read d)
point_of_texts read _ = None
