-- The laws of frames, over the points of an order, of every rule.
use Rattle.std.specs.Prelude.{◌≡◌, ◌≤◌, ℕ, ◌+◌, List, ◌++◌, Some}
use Rattle.theory_addresses.specs.Address.{Step, Address, depth, top_from, top_kind, Fits}
use Rattle.theory_substitution.specs.Points.{Points}
use Rattle.theory_substitution.specs.Motion.{Motion}
use Rattle.theory_substitution.specs.Rule.{Rule, child_kinds}
use Rattle.theory_substitution.specs.Supertile.{Placed}
use Rattle.theory_substitution.specs.Placement.{placement}
use Rattle.theory_frames.specs.Back.{back}
use Rattle.theory_frames.specs.Frame.{at_level, HasChildKinds, StandsInFrame, IsTileOf, lifted_in}
use Rattle.theory_frames.specs.Growth.{grown_from}
use Rattle.theory_frames.specs.Outward.{outward, HasTurnsBelow}
use Rattle.theory_frames.specs.Descent.{tile_holding}
use Rattle.theory_frames.specs.Contain.{ancestor_motion}

-- a longer coarse end moves no tile: the motion listed with a tile in the frame of its own depth is listed
-- with the lifted tile in the whole frame
abbrev pub CoarseEndLaw : Points → Type 0
CoarseEndLaw P =
    (r : Rule P.ring.carrier) (f a : Address) (m : Motion P.ring.carrier) → Fits (child_kinds r) f
    → IsTileOf (child_kinds r) f a
    → StandsInFrame P r (at_level f (depth a)) a m → StandsInFrame P r f (lifted_in f a) m

-- the motion of the base's ancestor, found from level to level, is the motion back of the base in that
-- ancestor
abbrev pub AncestorLaw : Points → Type 0
AncestorLaw P = (r : Rule P.ring.carrier) (digits : List Step) → HasTurnsBelow P r
    → outward P r digits ≡ back P (placement P r digits)

-- the tile that is found to hold a point, in an ancestor of the base, is in that ancestor's frame, and lifted
-- it is in the whole frame
abbrev pub FoundTileLaw : Points → Type 0
FoundTileLaw P =
    (r : Rule P.ring.carrier) (f : Address) (level : ℕ) (p : P.ring.carrier) (t : Placed P.ring.carrier)
    → HasTurnsBelow P r → HasChildKinds P r → Fits (child_kinds r) f → level ≤ depth f
    → tile_holding P r (top_kind (at_level f level)) level (ancestor_motion P r f level) p ≡ Some t
    → StandsInFrame P r (at_level f level) t.address t.motion
    × StandsInFrame P r f (lifted_in f t.address) t.motion

-- however growth is divided, the digits are the same
abbrev pub GrowthLaw : Type 0
GrowthLaw =
    (uses : ℕ → List Step) (word : ℕ → ℕ) (j top m n : ℕ)
    → grown_from uses word j top (m + n)
    ≡ grown_from uses word j top m
    ++ grown_from uses word (j + m) (top_from top (grown_from uses word j top m)) n
