-- What the code's sums and differences are, as equations of quadruples and of pairs.
use Rattle.std.specs.Int.{w64}
use Rattle.std.proofs.Common.{◌≡◌, ℤ, pos, ◌+ℤ◌, ◌-ℤ◌, neg_ℤ, ◌^◌, [], ◌∷◌, to_z, of_z, arith}
use Rattle.std.proofs.lemmas.Int.{ints}
use Rattle.theory_ring.specs.Ring.{integers}
use Rattle.theory_ring.specs.Surd.{Pair}
use Rattle.cyclo_points.specs.declared.point.Point.{Point}
use Rattle.cyclo_points.specs.Quad.{add_quad, neg_quad}
use Rattle.cyclo_points.specs.Point.{coefficient, quad_of, pair_of, Within, IsWithin}
use Rattle.cyclo_points.proofs.Identities.{quad_path, pair_path}

-- a number as the code reads it
abbrev pub machine : ℤ → ℤ
machine x = to_z w64 (of_z w64 x)

abbrev pub point_of : ℤ → ℤ → ℤ → ℤ → Point
point_of x0 x1 x2 x3 = record { c = x0 ∷ (x1 ∷ (x2 ∷ (x3 ∷ []))) }

-- ---- sums
abbrev pub machine_sum : ℤ → ℤ → ℤ
machine_sum x y = machine (machine x +ℤ machine y)

pub machine_sum-is : (x y : ℤ) → Within (2 ^ 40) x → Within (2 ^ 40) y → machine_sum x y ≡ x +ℤ y
machine_sum-is x y f g = omega (arith, ints)

abbrev pub sum_point : Point → Point → Point
sum_point p q = point_of
    (machine_sum (coefficient p 0) (coefficient q 0)) (machine_sum (coefficient p 1) (coefficient q 1))
    (machine_sum (coefficient p 2) (coefficient q 2)) (machine_sum (coefficient p 3) (coefficient q 3))

pub sum_point-is : (p q : Point) → IsWithin (2 ^ 40) p → IsWithin (2 ^ 40) q → quad_of (sum_point p q) ≡ add_quad integers (quad_of p) (quad_of q)
sum_point-is p q f g =
    quad_path (quad_of (sum_point p q)) (add_quad integers (quad_of p) (quad_of q))
    (machine_sum-is _ _ f.at_0 g.at_0) (machine_sum-is _ _ f.at_1 g.at_1) (machine_sum-is _ _ f.at_2 g.at_2) (machine_sum-is _ _ f.at_3 g.at_3)

-- ---- differences
abbrev pub machine_difference : ℤ → ℤ → ℤ
machine_difference x y = machine (machine x -ℤ machine y)

pub machine_difference-is : (x y : ℤ) → Within (2 ^ 40) x → Within (2 ^ 40) y → machine_difference x y ≡ x +ℤ neg_ℤ y
machine_difference-is x y f g = omega (arith, ints)

abbrev pub difference_point : Point → Point → Point
difference_point p q = point_of
    (machine_difference (coefficient p 0) (coefficient q 0)) (machine_difference (coefficient p 1) (coefficient q 1))
    (machine_difference (coefficient p 2) (coefficient q 2)) (machine_difference (coefficient p 3) (coefficient q 3))

pub difference_point-is : (p q : Point) → IsWithin (2 ^ 40) p → IsWithin (2 ^ 40) q
    → quad_of (difference_point p q) ≡ add_quad integers (quad_of p) (neg_quad integers (quad_of q))
difference_point-is p q f g =
    quad_path (quad_of (difference_point p q)) (add_quad integers (quad_of p) (neg_quad integers (quad_of q)))
    (machine_difference-is _ _ f.at_0 g.at_0) (machine_difference-is _ _ f.at_1 g.at_1)
    (machine_difference-is _ _ f.at_2 g.at_2) (machine_difference-is _ _ f.at_3 g.at_3)

-- ---- negatives
abbrev pub machine_negative : ℤ → ℤ
machine_negative x = machine (pos 0 -ℤ machine x)

pub machine_negative-is : (x : ℤ) → Within (2 ^ 41) x → machine_negative x ≡ neg_ℤ x
machine_negative-is x f = omega (arith, ints)

abbrev pub negative_point : Point → Point
negative_point p = point_of
    (machine_negative (coefficient p 0)) (machine_negative (coefficient p 1))
    (machine_negative (coefficient p 2)) (machine_negative (coefficient p 3))

pub negative_point-is : (p : Point) → IsWithin (2 ^ 41) p → quad_of (negative_point p) ≡ neg_quad integers (quad_of p)
negative_point-is p f =
    quad_path (quad_of (negative_point p)) (neg_quad integers (quad_of p))
    (machine_negative-is _ f.at_0) (machine_negative-is _ f.at_1) (machine_negative-is _ f.at_2) (machine_negative-is _ f.at_3)

-- ---- the parts of a turned point
pub machine-is : (x : ℤ) → Within (2 ^ 40) x → machine x ≡ x
machine-is x f = omega (arith, ints)

pub machine_negative-small : (x : ℤ) → Within (2 ^ 40) x → machine_negative x ≡ neg_ℤ x
machine_negative-small x f = omega (arith, ints)

abbrev pub machine_negative_sum : ℤ → ℤ → ℤ
machine_negative_sum x y = machine (pos 0 -ℤ machine_sum x y)

pub machine_negative_sum-is : (x y : ℤ) → Within (2 ^ 40) x → Within (2 ^ 40) y → machine_negative_sum x y ≡ neg_ℤ (x +ℤ y)
machine_negative_sum-is x y f g = omega (arith, ints)

-- the first two coefficients
abbrev pub machine_pair : Point → Pair ℤ
machine_pair p = record { a = machine (coefficient p 0); b = machine (coefficient p 1) }

pub machine_pair-is : (p : Point) → IsWithin (2 ^ 40) p → machine_pair p ≡ pair_of p
machine_pair-is p h = pair_path (machine_pair p) (pair_of p) (machine-is _ h.at_0) (machine-is _ h.at_1)
