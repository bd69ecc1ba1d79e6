-- Products, and sums of four of them, closed to the tactics.
use Rattle.std.specs.Prelude.{ℤ, ◌+ℤ◌, ◌*ℤ◌}
use Rattle.cyclo_points.specs.Quad.{Quad}

-- the product x y
unfoldable pub product_of : ℤ → ℤ → ℤ
product_of x y = x *ℤ y

-- the sum of p's coefficients, each times one of the four numbers
unfoldable pub dot_of : Quad ℤ → ℤ → ℤ → ℤ → ℤ → ℤ
dot_of p v0 v1 v2 v3 = product_of p.a0 v0 +ℤ product_of p.a1 v1 +ℤ product_of p.a2 v2 +ℤ product_of p.a3 v3
