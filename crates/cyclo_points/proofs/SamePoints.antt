-- Points with the same four coefficients are the same in each order.
use Rattle.std.proofs.Common.{◌≡◌, ℤ, List, ap}
use Rattle.theory_ring.specs.Surd.{Pair}
use Rattle.cyclo_points.specs.Quad.{Quad}
use Rattle.cyclo_points.specs.declared.order.Order.{Order}
use Rattle.cyclo_points.specs.declared.order.Order.TheVariants.{Four, Six, Eight, Ten}
use Rattle.cyclo_points.specs.declared.point.Point.{Point}
use Rattle.cyclo_points.specs.Point.{quad_of, point_in}

-- the first two coefficients
abbrev pair_within : Quad ℤ → Pair ℤ
pair_within z = record { a = z.a0; b = z.a1 }

pub point_in-exact : (o : Order) (p q : Point) → quad_of p ≡ quad_of q → point_in o p ≡ point_in o q
point_in-exact Four p q e = ap pair_within e
point_in-exact Six p q e = ap pair_within e
point_in-exact Eight p q e = e
point_in-exact Ten p q e = e

-- a point is its coefficients
pub same_point : (p q : Point) → p.c ≡ q.c → p ≡ q
same_point p q e = ap (λ (c : List ℤ). (let s : Point = record { c = c } in s)) e
