-- A turn by half the order is the negative, so that a turn by k steps is one by k less half the order, negated.
use Rattle.std.proofs.Common.{◌≡◌, ℕ, pos, ◌+◌, ◌-◌, ◌/◌, ◌≤◌, [], ◌∷◌, refl, ap, sym, ◌∙◌, arith}
use Rattle.theory_ring.specs.Ring.{Ops, Laws, power}
use Rattle.theory_ring.proofs.Normaliser.{var, con, neg, ring, ◌⊗◌}
use Rattle.theory_substitution.proofs.Motions.{power-add}
use Rattle.cyclo_points.specs.declared.order.Order.{Order}
use Rattle.cyclo_points.specs.declared.order.Order.TheVariants.{Four, Six, Eight, Ten}
use Rattle.cyclo_points.specs.declared.point.Point.{Point}
use Rattle.cyclo_points.specs.Order.{points_of}
use Rattle.cyclo_points.specs.Point.{point_in}
use Rattle.cyclo_points.proofs.OrderLaws.{laws_of}

-- r is p turned by k steps
abbrev pub IsTurned : Order → ℕ → Point → Point → Type 0
IsTurned o k p r = point_in o r ≡ (points_of o).ring.mul (power (points_of o).ring (points_of o).zeta k) (point_in o p)

half_turn : (o : Order) → power (points_of o).ring (points_of o).zeta
    ((points_of o).order / 2) ≡ (points_of o).ring.neg ((points_of o).ring.int (pos 1))
half_turn Four = refl
half_turn Six = refl
half_turn Eight = refl
half_turn Ten = refl

negative_turn : (K : Ops) (L : Laws K) (z p : K.carrier) (half k : ℕ) → half ≤ k → power K z half ≡ K.neg (K.int (pos 1))
    → K.neg (K.mul (power K z (k - half)) p) ≡ K.mul (power K z k) p
negative_turn K L z p half k l e =
    ring K L (power K z (k - half) ∷ (p ∷ [])) (neg (var 0 ⊗ var 1)) ((neg (con (pos 1)) ⊗ var 0) ⊗ var 1) refl
    ∙ ap (λ u. K.mul (K.mul u (power K z (k - half))) p) (sym e)
    ∙ ap (λ u. K.mul u p) (sym (power-add K L z half (k - half)) ∙ ap (power K z) (rest half k l))
  where
    rest : (half k : ℕ) → half ≤ k → half + (k - half) ≡ k
    rest half k l = omega arith

pub turned-negative : (o : Order) (half k : ℕ) (p r s : Point) → half ≡ (points_of o).order / 2 → half ≤ k
    → IsTurned o (k - half) p s → point_in o r ≡ (points_of o).ring.neg (point_in o s) → IsTurned o k p r
turned-negative o half k p r s e l h g =
    g ∙ ap (points_of o).ring.neg h
    ∙ negative_turn (points_of o).ring (laws_of o).of_ring (points_of o).zeta (point_in o p) half k l
    (ap (power (points_of o).ring (points_of o).zeta) e ∙ half_turn o)
