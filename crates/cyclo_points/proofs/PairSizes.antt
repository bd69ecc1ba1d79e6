-- The sizes of a point's first two coefficients, where the last two are 0.
use Rattle.std.proofs.Common.{◌≡◌, ℕ, ℤ, pos, sym, subst}
use Rattle.theory_ring.specs.Surd.{Pair}
use Rattle.cyclo_points.specs.declared.point.Point.{Point}
use Rattle.cyclo_points.specs.Point.{coefficient, pair_of, Within, IsWithin}
use Rattle.cyclo_points.proofs.Within.{zero_within}

-- both coefficients are at most n in absolute value
pub record IsWithinPair (n : ℕ) (q : Pair ℤ) : Type 0 where
  pub at_0 : Within n q.a
  pub at_1 : Within n q.b

-- the last two coefficients are 0
pub within_pair : (n : ℕ) (r : Point) (q : Pair ℤ) → pair_of r ≡ q → coefficient r 2 ≡ pos 0
    → coefficient r 3 ≡ pos 0 → IsWithinPair n q → IsWithin n r
within_pair n r q e f g h =
    let k = subst (IsWithinPair n) (sym e) h in
    record { at_0 = k.at_0; at_1 = k.at_1; at_2 = subst (Within n) (sym f) (zero_within n); at_3 = subst (Within n) (sym g) (zero_within n) }
