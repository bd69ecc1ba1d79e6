-- A polygon's count is the sum of the counts of the triangles of its fan.
use Rattle.std.proofs.Common.{◌≡◌, List, [], ◌∷◌, ℤ, pos, ◌+ℤ◌, neg_ℤ, refl, arith}
use Rattle.std.proofs.lemmas.Int.{ints}
use Rattle.theory_ring.specs.Ring.{Laws}
use Rattle.theory_ring.specs.Sign.{Signed, OrderLaws}
use Rattle.theory_plane.specs.Plane.{PlanePoint, TestPoint}
use Rattle.theory_plane.specs.Crossing.{crossing, count_from, count}
use Rattle.theory_plane.specs.Triangle.{fan_from, fan, counts}
use Rattle.theory_plane.proofs.Crossing.{crossing-turned}

-- one more triangle: x→y, y→z, the rest r from z, the fan's rest f, and z→x, x→z
one_more : (xy yz r f zx xz : ℤ) → xz ≡ neg_ℤ zx → xz +ℤ r ≡ f → xy +ℤ (yz +ℤ r) ≡ (xy +ℤ (yz +ℤ zx)) +ℤ f
one_more xy yz r f zx xz e g = omega (arith, ints)

both_ways : (x y : ℤ) → y ≡ neg_ℤ x → x +ℤ y ≡ pos 0
both_ways x y e = omega (arith, ints)

own_negative : (x : ℤ) → x ≡ neg_ℤ x → x ≡ pos 0
own_negative x e = omega (arith, ints)

module _ (S : Signed) (L : Laws S.ops) (O : OrderLaws S) (p : TestPoint S.ops.carrier) where
  around-fan : (first cur : PlanePoint S.ops.carrier) (vs : List (PlanePoint S.ops.carrier))
      → crossing S first cur p +ℤ count_from S p first cur vs ≡ counts S (fan_from first cur vs) p
  around-fan first cur [] = both_ways (crossing S first cur p) (crossing S cur first p) (crossing-turned S L O first cur p)
  around-fan first cur (v ∷ vs) =
      one_more (crossing S first cur p) (crossing S cur v p) (count_from S p first v vs)
      (counts S (fan_from first v vs) p) (crossing S v first p) (crossing S first v p)
      (crossing-turned S L O v first p) (around-fan first v vs)

  pub count-fan : (vs : List (PlanePoint S.ops.carrier)) → count S vs p ≡ counts S (fan vs) p
  count-fan [] = refl
  count-fan (a ∷ []) = own_negative (crossing S a a p) (crossing-turned S L O a a p)
  count-fan (a ∷ (b ∷ vs)) = around-fan a b vs
