-- Motions whose turns are below the order are a group: one after another is associative, the motion that
-- moves nothing is neutral, and each has a motion back.
use Rattle.std.proofs.Common.{◌≡◌, ℕ, ◌+◌, ◌-◌, ◌%◌, ◌<◌, [], ◌∷◌, pos, refl, sym, ap, ◌∙◌, arith, add_assoc, add-zero, zero-add, mod-lt, mod-eq_of_lt}
use Rattle.std.proofs.Math.Nat.{add-mod-mod, mod-add-mod, mod_self}
use Rattle.theory_ring.specs.Ring.{power}
use Rattle.theory_ring.proofs.Normaliser.{var, con, ring, ◌⊕◌, ◌⊗◌}
use Rattle.theory_substitution.specs.Points.{Points, PointLaws}
use Rattle.theory_substitution.specs.Motion.{Motion, followed, still}
use Rattle.theory_substitution.proofs.Motions.{moved-followed}
use Rattle.cyclo_points.proofs.Undoing as undoing
use Rattle.cyclo_points.proofs.Undoing.{motion_path}
use Rattle.theory_frames.specs.Back.{rest_of_turn, back}

-- a turn and the rest of the way round
pub turns_round : (n k : ℕ) → k < n → (rest_of_turn n k + k) % n ≡ 0
turns_round n k h = mod-add-mod (n - k) n k ∙ ap (λ m. m % n) whole ∙ mod_self n
  where
    whole : (n - k) + k ≡ n
    whole = omega arith

module _ (P : Points) (W : PointLaws P) where
  pub followed-assoc : (m g h : Motion P.ring.carrier) → followed P (followed P m g) h ≡ followed P m (followed P g h)
  followed-assoc m g h = motion_path _ _ turns (sym (moved-followed P W g h m.shift))
    where
      turns : (h.turn + (g.turn + m.turn) % P.order) % P.order ≡ ((h.turn + g.turn) % P.order + m.turn) % P.order
      turns =
          add-mod-mod h.turn (g.turn + m.turn) P.order ∙ ap (λ n. n % P.order) (sym (add_assoc h.turn g.turn m.turn))
          ∙ sym (mod-add-mod (h.turn + g.turn) P.order m.turn)

  pub followed-still : (m : Motion P.ring.carrier) → m.turn < P.order → followed P m (still P) ≡ m
  followed-still m h =
      motion_path _ _ (ap (λ n. n % P.order) (zero-add m.turn) ∙ mod-eq_of_lt h)
      (ring P.ring W.of_ring (m.shift ∷ []) (con (pos 1) ⊗ var 0 ⊕ con (pos 0)) (var 0) refl)

  pub still-followed : (m : Motion P.ring.carrier) → m.turn < P.order → followed P (still P) m ≡ m
  still-followed m h =
      motion_path _ _ (ap (λ n. n % P.order) (add-zero m.turn) ∙ mod-eq_of_lt h)
      (ring P.ring W.of_ring (m.shift ∷ (power P.ring P.zeta m.turn ∷ [])) (var 1 ⊗ con (pos 0) ⊕ var 0) (var 0) refl)

  pub followed-turn : (m g : Motion P.ring.carrier) → 0 < P.order → (followed P m g).turn < P.order
  followed-turn m g h = mod-lt (g.turn + m.turn) h

  pub back-turn : (m : Motion P.ring.carrier) → 0 < P.order → (back P m).turn < P.order
  back-turn m h = mod-lt (P.order - m.turn) h

  pub followed-back : (m : Motion P.ring.carrier) → m.turn < P.order → followed P m (back P m) ≡ still P
  followed-back m h = undoing.followed-back P W m (rest_of_turn P.order m.turn) (turns_round P.order m.turn h)

  pub back-followed : (m : Motion P.ring.carrier) → m.turn < P.order → followed P (back P m) m ≡ still P
  back-followed m h = undoing.back-followed P W m (rest_of_turn P.order m.turn) (turns_round P.order m.turn h)

  -- what undoes m on the one side is the motion back
  pub back_only : (m g : Motion P.ring.carrier) → m.turn < P.order → g.turn < P.order → followed P m g ≡ still P → g ≡ back P m
  back_only m g h k e =
      sym (still-followed g k) ∙ ap (λ x. followed P x g) (sym (back-followed m h))
      ∙ followed-assoc (back P m) m g ∙ ap (followed P (back P m)) e ∙ followed-still (back P m) (back-turn m (omega arith))

  -- the motion back of one motion after another
  pub back-of-followed : (m g : Motion P.ring.carrier) → m.turn < P.order → followed P g (back P (followed P m g)) ≡ back P m
  back-of-followed m g h =
      back_only m (followed P g (back P (followed P m g))) h (followed-turn g (back P (followed P m g)) (omega arith))
      (sym (followed-assoc m g (back P (followed P m g))) ∙ followed-back (followed P m g) (followed-turn m g (omega arith)))
