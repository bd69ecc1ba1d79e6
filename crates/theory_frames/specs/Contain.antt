-- The values on the way to the least supertile around the base that holds a point, in the base's frame.
use Rattle.std.specs.Prelude.{ℕ, zero, suc, ◌+◌, Bool, cond, List, [], ◌∷◌, ◌++◌}
use Rattle.theory_ring.specs.Ring.{power}
use Rattle.theory_substitution.specs.Points.{Points}
use Rattle.theory_substitution.specs.Motion.{Motion}
use Rattle.theory_addresses.specs.Address.{Address, top_kind}
use Rattle.theory_substitution.specs.Rule.{Rule}
use Rattle.theory_frames.specs.Frame.{at_level}
use Rattle.theory_frames.specs.Outward.{outward}
use Rattle.theory_frames.specs.Outline.{outline, supertile_holds}
use Rattle.theory_frames.specs.Looked.{values_looked_at}

-- the motion of the base's ancestor at a level, in the base's frame
abbrev pub ancestor_motion : (P : Points) → Rule P.ring.carrier → Address → ℕ → Motion P.ring.carrier
ancestor_motion P r f level = outward P r (at_level f level).digits

-- that ancestor holds a point
abbrev pub ancestor_holds : (P : Points) → Rule P.ring.carrier → Address → ℕ → P.ring.carrier → Bool
ancestor_holds P r f level p =
    supertile_holds P r (top_kind (at_level f level)) level (ancestor_motion P r f level) p

-- The values on the way to a point, from a level on and for at most this number of levels. At each level they
-- are its power of λ, the ancestor's shift and its vertices, up to the first level whose ancestor holds the
-- point. Then come those of the search in that ancestor.
abbrev pub values_outward : (P : Points) → Rule P.ring.carrier → Address → P.ring.carrier → ℕ → ℕ
    → List P.ring.carrier
values_outward P r f p level zero = []
values_outward P r f p level (suc most) =
    power P.ring r.factor level ∷ ((ancestor_motion P r f level).shift
    ∷ (outline P r (top_kind (at_level f level)) (power P.ring r.factor level) (ancestor_motion P r f level)
    ++ cond (ancestor_holds P r f level p)
    (values_looked_at P r (top_kind (at_level f level)) level (ancestor_motion P r f level) p)
    (values_outward P r f p (level + 1) most)))
