-- The motion that Horner's scheme begins with moves nothing, in each order.
use Rattle.std.proofs.Common.{◌≡◌, ℕ, ℤ, pos, ◌+◌, ◌%◌, ◌<◌, ◌^◌, false, [], ◌∷◌, refl, sym, ap, ◌∙◌, arith, zero-add, mod-eq_of_lt}
use Rattle.std.proofs.lemmas.Bool.{false_from_ne_true}
use Rattle.std.proofs.lemmas.Int.{ints}
use Rattle.theory_ring.proofs.Normaliser.{var, con, ring, ◌⊕◌, ◌⊗◌}
use Rattle.theory_substitution.specs.Placement.{finer}
use Rattle.theory_substitution.specs.Points.{Points, PointLaws}
use Rattle.theory_substitution.specs.Rule.{Rule}
use Rattle.theory_substitution.specs.Motion.{Motion as TheMotion, still}
use Rattle.cyclo_points.specs.declared.order.Order.{Order}
use Rattle.cyclo_points.specs.declared.order.Order.TheVariants.{Four, Six, Eight, Ten}
use Rattle.cyclo_points.specs.declared.motion.Motion.{Motion}
use Rattle.cyclo_points.specs.declared.point.Point.{Point}
use Rattle.cyclo_points.specs.Order.{points_of, is_refused}
use Rattle.cyclo_points.specs.Point.{coefficient, point_in, IsOf, Within, IsWithin}
use Rattle.cyclo_points.specs.Motion.{motion_in}
use Rattle.cyclo_points.proofs.Refusal.{some_beyond, some_beyond-decides, some_beyond-refused}

-- each coefficient is 0
pub record IsOrigin (p : Point) : Type 0 where
  pub at_0 : coefficient p 0 ≡ pos 0
  pub at_1 : coefficient p 1 ≡ pos 0
  pub at_2 : coefficient p 2 ≡ pos 0
  pub at_3 : coefficient p 3 ≡ pos 0

pub start-still : (o : Order) (m : Motion) → m.turn ≡ 0 → IsOrigin m.shift → motion_in o m ≡ still (points_of o)
start-still Four m t h = rw (t, h.at_0, h.at_1) refl
start-still Six m t h = rw (t, h.at_0, h.at_1) refl
start-still Eight m t h = rw (t, h.at_0, h.at_1, h.at_2, h.at_3) refl
start-still Ten m t h = rw (t, h.at_0, h.at_1, h.at_2, h.at_3) refl

pub start-turn : (o : Order) (m : Motion) → m.turn ≡ 0 → m.turn < (points_of o).order
start-turn Four m t = omega arith
start-turn Six m t = omega arith
start-turn Eight m t = omega arith
start-turn Ten m t = omega arith

pub start-in_order : (o : Order) (p : Point) → IsOrigin p → IsOf o p
start-in_order Four p h = (h.at_2, h.at_3)
start-in_order Six p h = (h.at_2, h.at_3)
start-in_order Eight p h = tt
start-in_order Ten p h = tt

within-zero : (n : ℕ) (x : ℤ) → x ≡ pos 0 → Within n x
within-zero n x h = record { low = omega (arith, ints); high = omega (arith, ints) }

pub start-within : (n : ℕ) (p : Point) → IsOrigin p → IsWithin n p
start-within n p h = record {
  at_0 = within-zero n _ h.at_0;
  at_1 = within-zero n _ h.at_1;
  at_2 = within-zero n _ h.at_2;
  at_3 = within-zero n _ h.at_3;
}

-- one level finer than the motion that moves nothing is the child's own motion
pub from_still : (P : Points) → PointLaws P → (r : Rule P.ring.carrier) (c : TheMotion P.ring.carrier) → c.turn < P.order → c ≡ finer P r (still P) c
from_still P W r c below =
    let turn : c.turn ≡ (0 + c.turn) % P.order = small_mod c.turn P.order below in
    let shift : P.ring.add (P.ring.mul r.factor (P.ring.int (pos 0))) (P.ring.mul (P.ring.int (pos 1)) c.shift) ≡ c.shift =
    ring P.ring W.of_ring (r.factor ∷ (c.shift ∷ [])) (var 0 ⊗ con (pos 0) ⊕ con (pos 1) ⊗ var 1) (var 1) refl in
    λ i. record { turn = turn i; shift = sym shift i }
  where
    small_mod : (a n : ℕ) → a < n → a ≡ (0 + a) % n
    small_mod a n h = sym (ap (λ x. x % n) (zero-add a) ∙ mod-eq_of_lt h)

-- a point with small coefficients is not refused
pub near-unrefused : (o : Order) (p : Point) → IsOf o p → IsWithin (2 ^ 24) p → is_refused o (point_in o p) ≡ false
near-unrefused o p of within = sym (some_beyond-refused o p of) ∙ false_from_ne_true (some_beyond p) (λ e. (some_beyond-decides p).0 e within)
