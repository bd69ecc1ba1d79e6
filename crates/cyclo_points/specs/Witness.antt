-- An integer that has the sign of a + bθ, if the parts are short.
use Rattle.std.specs.Prelude.{ℤ, pos, ◌+ℤ◌, ◌*ℤ◌}
use Rattle.cyclo_points.specs.declared.order.Order.{Order}
use Rattle.cyclo_points.specs.declared.order.Order.TheVariants.{Four, Six, Eight, Ten}

-- qa + pb, where p/q is a convergent of θ: 54608393/38613965 of √2, 165580141/102334155 of the golden ratio
abbrev pub witness_in : Order → ℤ → ℤ → ℤ
witness_in Four a b = a
witness_in Six a b = a
witness_in Eight a b = pos 38613965 *ℤ a +ℤ pos 54608393 *ℤ b
witness_in Ten a b = pos 102334155 *ℤ a +ℤ pos 165580141 *ℤ b
