-- The ranges of numbers, and what the numbers in range stand for.
use Rattle.std.specs.Prelude.{ℕ, ℤ, pos, List, drop, get_or, Option, Some, None, nat_abs, int_le, int_lt, ◌&&◌, if◌then◌else◌}
use Rattle.std.specs.Ordering.{int_eq}
use Rattle.theory_substitution.specs.Rule.{Child}
use Rattle.cyclo_points.specs.declared.order.Order.{Order}
use Rattle.cyclo_points.specs.declared.order.Order.TheVariants.{Four, Six, Eight, Ten}
use Rattle.cyclo_points.specs.declared.point.Point.{Point}
use Rattle.cyclo_points.specs.Order.{points_of}
use Rattle.rule_model.specs.declared.edition.Edition.{Edition}
use Rattle.rule_model.specs.declared.edition.Edition.TheVariants.{One, Two}
use Rattle.rule_model.specs.Small.{is_small}
use Rattle.rule_text.specs.Forms.{◌>>=◌}

-- a number from 0 up, below n
abbrev pub number_below : ℕ → ℤ → Option ℕ
number_below n z = if int_le (pos 0) z && int_lt z (pos n) then Some (nat_abs z) else None

-- a format: 1 or 2, each for one edition
abbrev pub format_of : ℤ → Option Edition
format_of z = if int_eq z (pos 1) then Some One else if int_eq z (pos 2) then Some Two else None

-- an order of both editions: 4, 8 or 10
abbrev pub shared_order_of : ℤ → Option Order
shared_order_of z = if int_eq z (pos 4) then Some Four else if int_eq z (pos 8) then Some Eight else if int_eq
    z (pos 10) then Some Ten else None

-- an order of the edition: 4, 8 or 10, and in edition two also 6
abbrev pub order_of : Edition → ℤ → Option Order
order_of One z = shared_order_of z
order_of Two z = if int_eq z (pos 6) then Some Six else shared_order_of z

-- a point of the order with these four coefficients, each from -64 to 64
abbrev pub file_point : Order → List ℤ → Option Point
file_point o zs = if is_small o (record { c = zs }) then Some (record { c = zs }) else None

-- a child: a kind below 16, a turn below the order, and the four coefficients of a shift
abbrev pub child_in_row : Order → List ℤ → Option (Child Point)
child_in_row o zs = do
  kind ← number_below 16 (get_or zs 0 (pos 0))
  turn ← number_below (points_of o).order (get_or zs 1 (pos 0))
  shift ← file_point o (drop 2 zs)
  Some (record { kind = kind; motion = record { turn = turn; shift = shift } })
