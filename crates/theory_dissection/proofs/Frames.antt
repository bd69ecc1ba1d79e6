-- One level of Horner's scheme in the plane: a tile's points are those of its parent's inflated prototile, put by the parent's frame.
use Rattle.std.proofs.Common.{◌≡◌, ◌+◌, List, [], ◌∷◌, refl, ap, ◌∙◌}
use Rattle.theory_ring.specs.Ring.{Ops, power}
use Rattle.theory_ring.proofs.Normaliser.{var, ring, ◌⊕◌, ◌⊗◌}
use Rattle.theory_substitution.specs.Points.{Points, PointLaws}
use Rattle.theory_substitution.specs.Motion.{Motion, moved}
use Rattle.theory_addresses.specs.Address.{Step}
use Rattle.theory_substitution.specs.Rule.{Rule}
use Rattle.theory_substitution.specs.RuleParts.{child_of}
use Rattle.theory_substitution.specs.Placement.{placement}
use Rattle.theory_substitution.proofs.Motions.{power-add, power-mod}

module _ (P : Points) (W : PointLaws P) (r : Rule P.ring.carrier) where
  abbrev K : Ops
  K = P.ring

  -- the motion that puts the inflated prototile of a tile with these digits
  abbrev pub frame : List Step → Motion K.carrier
  frame ds = record { turn = (placement P r ds).turn; shift = K.mul r.factor (placement P r ds).shift }

  pub finer-moves : (s : Step) (ds : List Step) (z : K.carrier)
      → moved P (placement P r (s ∷ ds)) z ≡ moved P (frame ds)
      (moved P (child_of P r s.parent s.child).motion z)
  finer-moves s ds z =
      let m = placement P r ds in
      let c = (child_of P r s.parent s.child).motion in
      ap (λ u. K.add (K.mul u z) (K.add (K.mul r.factor m.shift) (K.mul (power K P.zeta m.turn) c.shift)))
      (power-mod K W.of_ring P.zeta P.order W.round (m.turn + c.turn) ∙ power-add K W.of_ring P.zeta m.turn c.turn)
      ∙ ring K W.of_ring (power K P.zeta m.turn ∷ (power K P.zeta c.turn ∷ (z ∷ (r.factor ∷ (m.shift ∷ (c.shift ∷ []))))))
      ((var 0 ⊗ var 1) ⊗ var 2 ⊕ (var 3 ⊗ var 4 ⊕ var 0 ⊗ var 5)) (var 0 ⊗ (var 1 ⊗ var 2 ⊕ var 5) ⊕ var 3 ⊗ var 4) refl

  pub frame-moves : (ds : List Step) (z : K.carrier) → moved P (frame ds) (K.mul z r.factor) ≡ K.mul r.factor (moved P (placement P r ds) z)
  frame-moves ds z =
      let m = placement P r ds in
      ring K W.of_ring (power K P.zeta m.turn ∷ (z ∷ (r.factor ∷ (m.shift ∷ []))))
      (var 0 ⊗ (var 1 ⊗ var 2) ⊕ var 2 ⊗ var 3) (var 2 ⊗ (var 0 ⊗ var 1 ⊕ var 3)) refl
