-- Horner's scheme gives the motion that the supertile's list has beside the address.
use Rattle.std.proofs.Common.{◌≡◌, ℕ, zero, suc, ◌+◌, ◌%◌, List, [], ◌∷◌, ◌++◌, length, pos, refl, sym, ap, ap₂, ◌∙◌, arith, zero-add, add-zero, add_assoc, length-append}
use Rattle.std.proofs.Math.Nat.{add-mod-mod, mod-add-mod}
use Rattle.std.specs.List.{enumerate_from, AllByRecursion}
use Rattle.theory_ring.specs.Ring.{Ops, power}
use Rattle.theory_ring.proofs.Normaliser.{var, con, ring, ◌⊕◌, ◌⊗◌}
use Rattle.theory_substitution.specs.Points.{Points, PointLaws}
use Rattle.theory_substitution.specs.Motion.{Motion, followed}
use Rattle.theory_addresses.specs.Address.{Step}
use Rattle.theory_substitution.specs.Rule.{Child, Rule, children_of}
use Rattle.theory_substitution.specs.Supertile.{Placed, inflated, lifted, supertile}
use Rattle.theory_addresses.specs.Search.{IsAmong}
use Rattle.theory_substitution.specs.Placement.{placement}
use Rattle.theory_substitution.specs.RuleParts.{child_of}
use Rattle.theory_substitution.proofs.Motions.{power-add, power-mod}
use Rattle.theory_addresses.proofs.Lists.{AllByRecursion-from, AllByRecursion-map, AllByRecursion-flat_map, AllByRecursion-each, get_or-enumerated}

module _ (P : Points) (W : PointLaws P) (r : Rule P.ring.carrier) where
  abbrev K : Ops
  K = P.ring

  abbrev motion : ℕ → K.carrier → Motion K.carrier
  motion t v = record { turn = t; shift = v }

  -- a coarse digit more
  pub placement-append : (ds : List Step) (d : Step)
      → placement P r (ds ++ d ∷ []) ≡ followed P (placement P r ds)
      (inflated P r (length ds) (child_of P r d.parent d.child).motion)
  placement-append [] d =
      ap₂ motion (ap (λ n. n % P.order) (zero-add (child_of P r d.parent d.child).motion.turn
      ∙ sym (add-zero (child_of P r d.parent d.child).motion.turn)))
      (ring K W.of_ring (r.factor ∷ ((child_of P r d.parent d.child).motion.shift
      ∷ (power K P.zeta (child_of P r d.parent d.child).motion.turn ∷ [])))
      (var 0 ⊗ con (pos 0) ⊕ con (pos 1) ⊗ var 1) (var 2 ⊗ con (pos 0) ⊕ con (pos 1) ⊗ var 1) refl)
  placement-append (e ∷ ds) d = ap (λ m. stepped m) (placement-append ds d) ∙ ap₂ motion turns shifts
    where
      c : Motion K.carrier
      c = (child_of P r d.parent d.child).motion

      f : Motion K.carrier
      f = (child_of P r e.parent e.child).motion

      m : Motion K.carrier
      m = placement P r ds

      stepped : Motion K.carrier → Motion K.carrier
      stepped g = motion ((g.turn + f.turn) % P.order) (K.add (K.mul r.factor g.shift) (K.mul (power K P.zeta g.turn) f.shift))

      turns : ((c.turn + m.turn) % P.order + f.turn) % P.order ≡ (c.turn + (m.turn + f.turn) % P.order) % P.order
      turns = mod-add-mod (c.turn + m.turn) P.order f.turn
          ∙ ap (λ n. n % P.order) (add_assoc c.turn m.turn f.turn)
          ∙ sym (add-mod-mod c.turn (m.turn + f.turn) P.order)

      shifts : K.add (K.mul r.factor (K.add (K.mul (power K P.zeta c.turn) m.shift)
          (K.mul (power K r.factor (length ds)) c.shift)))
          (K.mul (power K P.zeta ((c.turn + m.turn) % P.order)) f.shift)
          ≡ K.add (K.mul (power K P.zeta c.turn) (K.add (K.mul r.factor m.shift)
          (K.mul (power K P.zeta m.turn) f.shift)))
          (K.mul (K.mul r.factor (power K r.factor (length ds))) c.shift)
      shifts =
          ap (λ z. K.add (K.mul r.factor (K.add (K.mul (power K P.zeta c.turn) m.shift)
          (K.mul (power K r.factor (length ds)) c.shift))) (K.mul z f.shift))
          (power-mod K W.of_ring P.zeta P.order W.round (c.turn + m.turn) ∙ power-add K W.of_ring P.zeta c.turn m.turn)
          ∙ ring K W.of_ring (r.factor ∷ (power K P.zeta c.turn
          ∷ (m.shift ∷ (power K r.factor (length ds)
          ∷ (c.shift ∷ (power K P.zeta m.turn ∷ (f.shift ∷ [])))))))
          (var 0 ⊗ (var 1 ⊗ var 2 ⊕ var 3 ⊗ var 4) ⊕ (var 1 ⊗ var 5) ⊗ var 6) (var 1 ⊗ (var 0 ⊗ var 2 ⊕ var 5 ⊗ var 6) ⊕ (var 0 ⊗ var 3) ⊗ var 4) refl

  -- the tile has as many digits as the supertile has levels, and its motion is that of its digits
  pub record IsPlaced (n : ℕ) (t : Placed K.carrier) : Type 0 where
    pub depth : length t.address.digits ≡ n
    pub motion_is : t.motion ≡ placement P r t.address.digits

  pub supertile-placed : (k n : ℕ) → AllByRecursion (IsPlaced n) (supertile P r k n)
  supertile-placed k zero = (record { depth = refl; motion_is = refl }, tt)
  supertile-placed k (suc n) =
      AllByRecursion-flat_map _ _ (enumerate_from 0 (children_of r k)) (AllByRecursion-from _ (enumerate_from 0 (children_of r k)) (λ c i.
      AllByRecursion-map _ (lifted P r k n c.0 c.1) (supertile P r c.1.kind n)
      (AllByRecursion-each (IsPlaced n) _ (supertile P r c.1.kind n) (λ t h. one_more c i t h)
      (supertile-placed c.1.kind n))))
    where
      one_more : (c : ℕ × Child K.carrier) → IsAmong c (enumerate_from 0 (children_of r k))
          → (t : Placed K.carrier) → IsPlaced n t → IsPlaced (suc n) (lifted P r k n c.0 c.1 t)
      one_more c i t h = record {
        depth = length-append t.address.digits (record { child = c.0; parent = k } ∷ []) ∙ ap (λ m. m + 1) h.depth ∙ plus_one n;
        motion_is =
            ap₂ (λ m l. followed P m (inflated P r l c.1.motion)) h.motion_is (sym h.depth)
            ∙ ap (λ x. followed P (placement P r t.address.digits)
            (inflated P r (length t.address.digits) x.motion))
            (sym (get_or-enumerated _ (children_of r k) c i))
            ∙ sym (placement-append t.address.digits (record { child = c.0; parent = k }));
      }
        where
          plus_one : (m : ℕ) → m + 1 ≡ suc m
          plus_one m = omega arith
