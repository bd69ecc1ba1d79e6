-- The values that are looked at, in order, on the way to the tile that holds a point.
use Rattle.std.specs.Prelude.{ℕ, zero, suc, ◌+◌, cond, List, [], ◌∷◌, ◌++◌, None, Some}
use Rattle.theory_ring.specs.Ring.{power}
use Rattle.theory_substitution.specs.Points.{Points}
use Rattle.theory_substitution.specs.Motion.{Motion}
use Rattle.theory_substitution.specs.Rule.{Child, Rule, children_of}
use Rattle.theory_frames.specs.Outline.{outline, supertile_holds}
use Rattle.theory_frames.specs.Part.{child_motion, holder_of}

-- the powers of λ from λ^i on, this number of them
abbrev pub powers_from : (P : Points) → P.ring.carrier → ℕ → ℕ → List P.ring.carrier
powers_from P l i zero = []
powers_from P l i (suc n) = power P.ring l i ∷ powers_from P l (i + 1) n

-- of a child, its shift and then its vertices
abbrev pub values_of_child : (P : Points) → Rule P.ring.carrier → P.ring.carrier → Motion P.ring.carrier
    → Child P.ring.carrier → List P.ring.carrier
values_of_child P r scale m c =
    (child_motion P r scale m c).shift ∷ outline P r c.kind scale (child_motion P r scale m c)

-- those of each of these children
abbrev pub values_of_children : (P : Points) → Rule P.ring.carrier → P.ring.carrier → Motion P.ring.carrier
    → List (Child P.ring.carrier) → List P.ring.carrier
values_of_children P r scale m [] = []
values_of_children P r scale m (c ∷ cs) = values_of_child P r scale m c ++ values_of_children P r scale m cs

-- the values on the way of the descent: those of all children of each supertile of depth at least 1 that
-- holds the point
abbrev pub values_below : (P : Points) → Rule P.ring.carrier → ℕ → ℕ → Motion P.ring.carrier → P.ring.carrier
    → List P.ring.carrier
values_below P r k zero m p = []
values_below P r k (suc n) m p =
    values_of_children P r (power P.ring r.factor n) m (children_of r k)
    ++ elim (holder_of P r k n m p) [ None ↦ [] | Some c ↦ values_below P r c.kind n c.motion p ]

-- The values on the way to a point in the supertile of kind k and depth n, moved by m. They are λ^0 to λ^n,
-- its vertices, and, if it holds the point, those of the descent.
abbrev pub values_looked_at : (P : Points) → Rule P.ring.carrier → ℕ → ℕ → Motion P.ring.carrier
    → P.ring.carrier → List P.ring.carrier
values_looked_at P r k n m p =
    powers_from P r.factor 0 (suc n)
    ++ (outline P r k (power P.ring r.factor n) m
    ++ cond (supertile_holds P r k n m p) (values_below P r k n m p) [])
