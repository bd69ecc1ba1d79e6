-- The powers of a factor, one after another, and whether they are refused.
use Rattle.std.proofs.Common.{◌≡◌, ℕ, ◌+◌, pos, Bool, [], ◌∷◌, refl, ap, ◌∙◌, sym, add-one}
use Rattle.theory_ring.specs.Ring.{Ops, Laws, power}
use Rattle.cyclo_points.specs.declared.order.Order.{Order}
use Rattle.cyclo_points.specs.declared.order.Order.TheVariants.{Four, Six, Eight, Ten}
use Rattle.cyclo_points.specs.declared.point.Point.{Point}
use Rattle.cyclo_points.specs.Order.{points_of, is_refused}
use Rattle.cyclo_points.specs.Point.{point_in, IsOf}

-- whether power number n of the factor is refused
abbrev pub is_refused_at : Order → Point → ℕ → Bool
is_refused_at o factor n = is_refused o (power (points_of o).ring (point_in o factor) n)

-- the power by which a product with the factor goes on
pub power-next : (R : Ops) → Laws R → (factor z : R.carrier) (n : ℕ) → z ≡ power R factor n → R.mul z factor ≡ power R factor (n + 1)
power-next R L factor z n h = L.mul_comm z factor ∙ ap (R.mul factor) h ∙ sym (ap (power R factor) (add-one n))

abbrev pub one : Point
one = record { c = pos 1 ∷ pos 0 ∷ pos 0 ∷ pos 0 ∷ [] }

pub one-in : (o : Order) → point_in o one ≡ (points_of o).ring.int (pos 1)
one-in Four = refl
one-in Six = refl
one-in Eight = refl
one-in Ten = refl

pub one-of : (o : Order) → IsOf o one
one-of Four = (refl, refl)
one-of Six = (refl, refl)
one-of Eight = tt
one-of Ten = tt

-- the test of a point that is that power
pub refused-at : (o : Order) (factor p : Point) (n : ℕ) (b : Bool)
    → point_in o p ≡ power (points_of o).ring (point_in o factor) n → b ≡ is_refused o (point_in o p)
    → is_refused_at o factor n ≡ b
refused-at o factor p n b h k = sym (k ∙ ap (is_refused o) h)
