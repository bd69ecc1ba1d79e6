-- A motion is undone by the one that turns the rest of the way round and has its shift turned so, and negated.
use Rattle.std.proofs.Common.{◌≡◌, ℕ, pos, ◌+◌, ◌-◌, ◌%◌, ◌<◌, [], ◌∷◌, refl, ap, sym, ◌∙◌, arith, add_comm}
use Rattle.theory_ring.specs.Ring.{power}
use Rattle.theory_ring.proofs.Normaliser.{var, con, neg, ring, ring_by, ◌⊕◌, ◌⊗◌}
use Rattle.theory_substitution.specs.Points.{Points, PointLaws}
use Rattle.theory_substitution.specs.Motion.{Motion, moved, followed, still}
use Rattle.theory_substitution.proofs.Motions.{power-add, power-mod, moved-followed}
use Rattle.cyclo_points.specs.declared.order.Order.{Order}
use Rattle.cyclo_points.specs.declared.order.Order.TheVariants.{Four, Six, Eight, Ten}
use Rattle.cyclo_points.specs.Order.{points_of}

pub motion_path : {A : Type 0} (m g : Motion A) → m.turn ≡ g.turn → m.shift ≡ g.shift → m ≡ g
motion_path m g e f = λ i. record { turn = e i; shift = f i }

-- a turn and the rest of the way round
pub turns_round : (o : Order) (k : ℕ) → k < (points_of o).order → (((points_of o).order - k) % (points_of o).order + k) % (points_of o).order ≡ 0
turns_round Four k h = omega arith
turns_round Six k h = omega arith
turns_round Eight k h = omega arith
turns_round Ten k h = omega arith

module _ (P : Points) (W : PointLaws P) (m : Motion P.ring.carrier) (k : ℕ) (round : (k + m.turn) % P.order ≡ 0) where
  -- the motion back, which turns by k
  abbrev pub back : Motion P.ring.carrier
  back = record { turn = k; shift = P.ring.neg (P.ring.mul (power P.ring P.zeta k) m.shift) }

  round_other : (m.turn + k) % P.order ≡ 0
  round_other = ap (λ n. n % P.order) (add_comm m.turn k) ∙ round

  powers : P.ring.mul (power P.ring P.zeta m.turn) (power P.ring P.zeta k) ≡ P.ring.int (pos 1)
  powers =
      sym (power-add P.ring W.of_ring P.zeta m.turn k) ∙ sym (power-mod P.ring W.of_ring P.zeta P.order W.round (m.turn + k))
      ∙ ap (power P.ring P.zeta) round_other

  pub followed-back : followed P m back ≡ still P
  followed-back = motion_path _ _ round (W.of_ring.add_neg (P.ring.mul (power P.ring P.zeta k) m.shift))

  pub back-followed : followed P back m ≡ still P
  back-followed =
      motion_path _ _ round_other
      (ring_by P.ring W.of_ring (power P.ring P.zeta m.turn ∷ (power P.ring P.zeta k ∷ (m.shift ∷ [])))
      (var 0 ⊗ neg (var 1 ⊗ var 2) ⊕ var 2) (con (pos 0)) (neg (var 2)) (var 0 ⊗ var 1) (con (pos 1)) powers refl)

  still-moves : (z : P.ring.carrier) → moved P (still P) z ≡ z
  still-moves z = ring P.ring W.of_ring (z ∷ []) (con (pos 1) ⊗ var 0 ⊕ con (pos 0)) (var 0) refl

  pub back-moved : (z : P.ring.carrier) → moved P back (moved P m z) ≡ z
  back-moved z = sym (moved-followed P W m back z) ∙ ap (λ g. moved P g z) followed-back ∙ still-moves z

  pub moved-back : (z : P.ring.carrier) → moved P m (moved P back z) ≡ z
  moved-back z = sym (moved-followed P W back m z) ∙ ap (λ g. moved P g z) back-followed ∙ still-moves z
