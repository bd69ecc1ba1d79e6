-- The motions of the base's ancestors, from level to level, are the motions back of the base.
use Rattle.std.proofs.Common.{◌≡◌, ◌⊎◌, inl, inr, ℕ, suc, ◌+◌, ◌<◌, ◌≤◌, get_or, subst, List, [], ◌∷◌, ◌++◌, length, refl, sym, ap, ap₂, ◌∙◌, arith, add-zero, zero-add, length-append, append_assoc}
use Rattle.std.proofs.lemmas.Bool.{cases_lt}
use Rattle.std.proofs.lemmas.List.{append-nil}
use Rattle.theory_ring.specs.Ring.{power}
use Rattle.theory_ring.proofs.Normaliser.{var, neg, ring, ◌⊕◌, ◌⊗◌, ◌⊖◌}
use Rattle.theory_substitution.specs.Points.{Points, PointLaws}
use Rattle.theory_substitution.specs.Motion.{Motion, followed, still}
use Rattle.theory_addresses.specs.Address.{Step}
use Rattle.theory_substitution.specs.Rule.{Child, Kind, Rule, children_of}
use Rattle.theory_addresses.proofs.Ranges.{get_or-past}
use Rattle.theory_substitution.specs.Supertile.{inflated}
use Rattle.theory_substitution.specs.RuleParts.{child_of}
use Rattle.theory_substitution.specs.Placement.{placement}
use Rattle.theory_substitution.proofs.Motions.{power-add, power-mod}
use Rattle.theory_substitution.proofs.Placement.{placement-append}
use Rattle.theory_frames.specs.Back.{rest_of_turn, back}
use Rattle.theory_frames.specs.Outward.{one_out, outward_from, outward, HasTurnsBelow}
use Rattle.cyclo_points.proofs.Undoing.{motion_path}
use Rattle.theory_frames.proofs.Group.{followed-assoc, followed-still, still-followed, followed-turn, back-turn, followed-back, back_only}
use Rattle.theory_frames.proofs.Frames.{placement-turn}

-- one digit more at the coarse end is one level more
pub outward_from-append : (P : Points) (r : Rule P.ring.carrier) (n : ℕ) (m : Motion P.ring.carrier) (ds : List Step) (d : Step)
    → outward_from P r n m (ds ++ d ∷ []) ≡ one_out P r (n + length ds) (outward_from P r n m ds) (child_of P r d.parent d.child).motion
outward_from-append P r n m [] d = ap (λ l. one_out P r l m (child_of P r d.parent d.child).motion) (sym (add-zero n))
outward_from-append P r n m (e ∷ ds) d =
    outward_from-append P r (suc n) (one_out P r n m (child_of P r e.parent e.child).motion) ds d
    ∙ ap (λ l. one_out P r l (outward_from P r (suc n)
    (one_out P r n m (child_of P r e.parent e.child).motion) ds) (child_of P r d.parent d.child).motion)
    next
  where
    next : suc n + length ds ≡ n + suc (length ds)
    next = omega arith

pub outward-next : (P : Points) (r : Rule P.ring.carrier) (ds : List Step) (d : Step)
    → outward P r (ds ++ d ∷ []) ≡ one_out P r (length ds) (outward P r ds)
    (child_of P r d.parent d.child).motion
outward-next P r ds d = outward_from-append P r 0 (still P) ds d
    ∙ ap (λ l. one_out P r l (outward P r ds) (child_of P r d.parent d.child).motion) (zero-add (length ds))

-- where the turn of each child of each kind is below the order, each child's is, also of a digit that names none
pub turns_below : (P : Points) (r : Rule P.ring.carrier) → 0 < P.order
    → ((k c : ℕ) → k < length r.kinds → c < length (children_of r k) → (child_of P r k c).motion.turn < P.order) → HasTurnsBelow P r
turns_below P r some each d = by_kind (cases_lt d.parent (length r.kinds)) (cases_lt d.child (length (children_of r d.parent)))
  where
    nothing : Child P.ring.carrier
    nothing = record { kind = 0; motion = still P }

    by_kind : (d.parent < length r.kinds) ⊎ (length r.kinds ≤ d.parent)
        → (d.child < length (children_of r d.parent)) ⊎ (length (children_of r d.parent) ≤ d.child)
        → (child_of P r d.parent d.child).motion.turn < P.order
    by_kind (inl h) (inl k) = each d.parent d.child h k
    by_kind (inl h) (inr k) = subst (λ (c : Child P.ring.carrier). c.motion.turn < P.order)
        (sym (get_or-past (children_of r d.parent) d.child nothing k)) some
    by_kind (inr h) k =
        subst (λ (xs : List (Child P.ring.carrier)). (get_or xs d.child nothing).motion.turn < P.order)
        (sym (ap (λ (k : Kind P.ring.carrier). k.children)
        (get_or-past r.kinds d.parent (record { vertices = []; edges = []; children = [] }) h))) some

module _ (P : Points) (W : PointLaws P) (some : 0 < P.order) where
  -- the motion back of one motion after another is the second's motion back, and then the first's
  pub back-followed_by : (m g : Motion P.ring.carrier) → m.turn < P.order → g.turn < P.order
      → back P (followed P m g) ≡ followed P (back P g) (back P m)
  back-followed_by m g h k =
      sym (back_only P W (followed P m g) (followed P (back P g) (back P m)) (followed-turn P W m g some)
      (followed-turn P W (back P g) (back P m) some)
      (followed-assoc P W m g (followed P (back P g) (back P m))
      ∙ ap (followed P m) (sym (followed-assoc P W g (back P g) (back P m))
      ∙ ap (λ x. followed P x (back P m)) (followed-back P W g k)
      ∙ still-followed P W (back P m) (back-turn P W m some))
      ∙ followed-back P W m h))

  back-still : back P (still P) ≡ still P
  back-still = sym (back_only P W (still P) (still P) some some (followed-still P W (still P) some))

  module _ (r : Rule P.ring.carrier) (below : HasTurnsBelow P r) where
    -- a level out: the motion back of the child's inflated motion, and then the ancestor's motion
    one_out-followed : (n : ℕ) (m c : Motion P.ring.carrier) → one_out P r n m c ≡ followed P (back P (inflated P r n c)) m
    one_out-followed n m c =
        motion_path _ _ refl
        (ap (λ z. P.ring.add m.shift (P.ring.neg (P.ring.mul z (P.ring.mul (power P.ring r.factor n) c.shift))))
        (power-mod P.ring W.of_ring P.zeta P.order W.round (m.turn + rest_of_turn P.order c.turn)
        ∙ power-add P.ring W.of_ring P.zeta m.turn (rest_of_turn P.order c.turn))
        ∙ ring P.ring W.of_ring (m.shift ∷ (power P.ring P.zeta m.turn
        ∷ (power P.ring P.zeta (rest_of_turn P.order c.turn)
        ∷ (P.ring.mul (power P.ring r.factor n) c.shift ∷ []))))
        (var 0 ⊖ (var 1 ⊗ var 2) ⊗ var 3) (var 1 ⊗ neg (var 2 ⊗ var 3) ⊕ var 0) refl)

    one_out-back : (ds : List Step) (d : Step)
        → one_out P r (length ds) (back P (placement P r ds)) (child_of P r d.parent d.child).motion ≡ back P
        (placement P r (ds ++ d ∷ []))
    one_out-back ds d =
        one_out-followed (length ds) (back P (placement P r ds)) (child_of P r d.parent d.child).motion
        ∙ sym (back-followed_by (placement P r ds)
        (inflated P r (length ds) (child_of P r d.parent d.child).motion) (placement-turn P W some r ds)
        (below d))
        ∙ ap (back P) (sym (placement-append P W r ds d))

    outward_from-back : (ds es : List Step) → outward_from P r (length ds) (back P (placement P r ds)) es ≡ back P (placement P r (ds ++ es))
    outward_from-back ds [] = ap (λ xs. back P (placement P r xs)) (sym (append-nil ds))
    outward_from-back ds (e ∷ es) =
        ap₂ (λ n m. outward_from P r n m es) longer (one_out-back ds e)
        ∙ outward_from-back (ds ++ e ∷ []) es
        ∙ ap (λ xs. back P (placement P r xs)) (append_assoc ds (e ∷ []) es)
      where
        longer : suc (length ds) ≡ length (ds ++ e ∷ [])
        longer = omega (arith, length-append ds (e ∷ []))

    -- the motion of the base's ancestor above these digits
    pub outward-back : (ds : List Step) → outward P r ds ≡ back P (placement P r ds)
    outward-back ds = ap (λ m. outward_from P r 0 m ds) (sym back-still) ∙ outward_from-back [] ds

    -- one digit more at the coarse end is one level more
    pub outward-append : (ds : List Step) (d : Step)
        → outward P r (ds ++ d ∷ []) ≡ one_out P r (length ds) (outward P r ds)
        (child_of P r d.parent d.child).motion
    outward-append ds d =
        outward-back (ds ++ d ∷ []) ∙ sym (one_out-back ds d)
        ∙ ap (λ m. one_out P r (length ds) m (child_of P r d.parent d.child).motion) (sym (outward-back ds))
