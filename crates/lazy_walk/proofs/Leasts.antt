-- Frames of lesser depths don't hold the point.
use Rattle.std.proofs.Common.{◌≡◌, ℕ, ◌<◌, ◌≤◌, max, false, length, sym, ◌∙◌, arith}
use Rattle.theory_addresses.specs.Address.{top_kind}
use Rattle.cyclo_points.specs.Order.{NumberOf, points_of}
use Rattle.theory_frames.specs.Outline.{supertile_holds}
use Rattle.theory_frames.specs.Contain.{ancestor_holds}
use Rattle.theory_frames.specs.Laws.{AncestorLaw}
use Rattle.theory_frames.specs.Outward.{HasTurnsBelow}
use Rattle.rule_model.specs.Tiling.{Tiling}
use Rattle.theory_walks.specs.Ancestors.{full}
use Rattle.theory_walks.specs.Containing.{FrameHolds, frame_motion}
use Rattle.theory_walks.specs.Frames.{FrameValue, whole, at_depth, IsFrameOf}
use Rattle.theory_walks.proofs.Walks.{at_depth-depth}
use Rattle.theory_walks.proofs.Ancestors.{level-at, frame-holds}

-- where no ancestor below a level holds the point, no frame that is shallower than that level does
pub not_before : (t : Tiling) (old new : FrameValue) → IsFrameOf t old → AncestorLaw (points_of t.order)
    → HasTurnsBelow (points_of t.order) t.rule → (p : NumberOf t.order) (level : ℕ)
    → length new.digits ≤ max (length old.digits) level → level ≤ 64
    → ((j : ℕ) → j < level → ancestor_holds (points_of t.order) t.rule (full t old) j p ≡ false)
    → (n : ℕ) → length old.digits ≤ n → n < length new.digits → ¬ FrameHolds t (at_depth t n old) p
not_before t old new is ancestors below p level deep few first n l k holds = absurd (cc (sym (first n lower) ∙ there ∙ holds))
  where
    lower : n < level
    lower = omega (arith, l, k, deep)

    there : ancestor_holds (points_of t.order) t.rule (full t old) n p ≡ supertile_holds (points_of t.order)
        t.rule (top_kind (whole (at_depth t n old))) (length (at_depth t n old).digits)
        (frame_motion t (at_depth t n old)) p
    there = frame-holds t (full t old) n (at_depth t n old) p
        (level-at t old is n l (omega (arith, lower, few)))
        (at_depth-depth t old n (omega (arith, l, is.holds_base)))
        (ancestors t.rule (at_depth t n old).digits below)
