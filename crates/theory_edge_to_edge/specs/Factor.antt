-- Inflation factors, by the edition of the rule.
use Rattle.std.specs.Prelude.{pos, Bool, not, ◌&&◌, nat_eq}
use Rattle.theory_ring.specs.Ring.{power}
use Rattle.theory_ring.specs.Sign.{less}
use Rattle.theory_substitution.specs.Points.{Points}
use Rattle.theory_substitution.specs.Plane.{twice_squared_length}
use Rattle.theory_addresses.specs.Search.{some_below}
use Rattle.theory_edge_to_edge.specs.Edition.{Edition, First, Second}

-- its own conjugate, and greater than 1: X(l) is 2 l
abbrev pub is_real_above_one : (P : Points) → P.ring.carrier → Bool
is_real_above_one P l = P.same (P.conj l) l && less P.real (P.real.ops.int (pos 2)) (P.x l)

-- of squared length above 1
abbrev pub is_above_one : (P : Points) → P.ring.carrier → Bool
is_above_one P l = less P.real (P.real.ops.int (pos 2)) (twice_squared_length P l)

-- what an edition takes
abbrev pub is_growing : (P : Points) → Edition → P.ring.carrier → Bool
is_growing P First l = not (nat_eq P.order 6) && is_real_above_one P l
is_growing P Second l = is_above_one P l

-- and one of its powers from 0 to 64 is a refused value, so that supertiles outgrow the limit of coordinates
-- by depth 64
abbrev pub is_inflation_factor : (P : Points) → Edition → (P.ring.carrier → Bool) → P.ring.carrier → Bool
is_inflation_factor P edition refused l = is_growing P edition l
    && some_below 65 (λ n. refused (power P.ring l n))
