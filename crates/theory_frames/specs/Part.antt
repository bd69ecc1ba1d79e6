-- The parts of a supertile: the supertiles of its children. All children of one supertile are scaled alike.
use Rattle.std.specs.Prelude.{◌≡◌, ℕ, suc, ◌+◌, true, cond, List, [], ◌∷◌, None, Some}
use Rattle.std.specs.declared.option.Option.{Option}
use Rattle.theory_ring.specs.Ring.{power}
use Rattle.theory_substitution.specs.Points.{Points}
use Rattle.theory_substitution.specs.Motion.{Motion, followed}
use Rattle.theory_substitution.specs.Rule.{Child, Rule, children_of}
use Rattle.theory_frames.specs.Outline.{outline, holds_point, supertile_holds}

-- the motion of a child, its shift scaled, of a supertile with the motion m
abbrev pub child_motion : (P : Points) → Rule P.ring.carrier → P.ring.carrier → Motion P.ring.carrier
    → Child P.ring.carrier → Motion P.ring.carrier
child_motion P r scale m c =
    followed P (record { turn = c.motion.turn; shift = P.ring.mul scale c.motion.shift }) m

-- a part: the number of the child, its kind and its motion
pub record Part (A : Type 0) : Type 0 where
  pub child : ℕ
  pub kind : ℕ
  pub motion : Motion A

-- child number i as a part of a supertile with the motion m
abbrev pub child_part : (P : Points) → Rule P.ring.carrier → P.ring.carrier → Motion P.ring.carrier → ℕ
    → Child P.ring.carrier → Part P.ring.carrier
child_part P r scale m i c = record { child = i; kind = c.kind; motion = child_motion P r scale m c }

-- of these children, the first of them number i, the first that holds a point
abbrev pub holder : (P : Points) → Rule P.ring.carrier → P.ring.carrier → Motion P.ring.carrier
    → P.ring.carrier → ℕ → List (Child P.ring.carrier) → Option (Part P.ring.carrier)
holder P r scale m p i [] = None
holder P r scale m p i (c ∷ cs) =
    cond (holds_point P (outline P r c.kind scale (child_motion P r scale m c)) p)
    (Some (child_part P r scale m i c)) (holder P r scale m p (i + 1) cs)

-- the part that holds a point, of the supertile of kind k and depth n + 1 moved by m
abbrev pub holder_of : (P : Points) → Rule P.ring.carrier → ℕ → ℕ → Motion P.ring.carrier → P.ring.carrier
    → Option (Part P.ring.carrier)
holder_of P r k n m p = holder P r (power P.ring r.factor n) m p 0 (children_of r k)

-- each supertile that holds a point has a part that holds it, as dissections promise
abbrev pub HasHolders : (P : Points) → Rule P.ring.carrier → Type 0
HasHolders P r =
    (k n : ℕ) (m : Motion P.ring.carrier) (p : P.ring.carrier) → supertile_holds P r k (suc n) m p ≡ true
    → (c : Part P.ring.carrier) × (holder_of P r k n m p ≡ Some c)
