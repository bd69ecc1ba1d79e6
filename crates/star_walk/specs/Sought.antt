-- The search for the star of a vertex of the base: what it finds, and how it ends.
use Rattle.std.specs.Prelude.{ℕ, ◌≤◌, List, length, map, Result, IsOk, IfErr}
use Rattle.rule_model.specs.Tiling.{Tiling}
use Rattle.theory_walks.specs.Frames.{FrameValue, GrowsTo}
use Rattle.star_walk.specs.declared.corner.Corner.{Corner}
use Rattle.star_walk.specs.declared.star_fault.StarFault.{StarFault}
use Rattle.star_walk.specs.Causes.{HasStarCause, IsStarWithinLimits}
use Rattle.star_walk.specs.Corners.{corner_in}
use Rattle.star_walk.specs.Round.{AreRound, AreInTurn, AreInPlace, IsLeastForVertex}

-- The corners are the star of vertex i: exactly the tiles of the frame g that have the vertex, each exactly
-- once and in its place, in turning order from the base. The frame has grown from f to the least depth that
-- is enough for the vertex, and the vertex is within the limits.
pub record IsStarFound (t : Tiling) (f g : FrameValue) (i : ℕ) (corners : List Corner) : Type 0 where
  pub round : AreRound t g i (map (corner_in t.order) corners)
  pub turning : AreInTurn t g i (map (corner_in t.order) corners)
  pub stand : AreInPlace t g corners
  pub least : IsLeastForVertex t f i (length g.digits)
  pub within : IsStarWithinLimits t f i

-- The search ends with a frame that has grown from f to g, no deeper than is enough for vertex i. It succeeds
-- if the vertex is within the limits. Each fault comes only for its cause.
pub record EndsStarSearch {A : Type 0} (t : Tiling) (f g : FrameValue) (i : ℕ)
    (answer : Result A StarFault) : Type 0 where
  pub frame : GrowsTo t f g
  pub not_beyond : (n : ℕ) → IsLeastForVertex t f i n → length g.digits ≤ n
  pub cause : IfErr answer (λ fault. HasStarCause t g i fault)
  pub answered : IsStarWithinLimits t f i → IsOk answer
