-- The laws of the descent, of every accepted rule over the points of P.
use Rattle.std.specs.Prelude.{◌≡◌, ℕ, suc, ◌<◌, ◌≤◌, [], map, length}
use Rattle.std.specs.List.{flat_map, enumerate_from}
use Rattle.theory_ring.specs.Ring.{power}
use Rattle.theory_plane.specs.Box.{OpenBox}
use Rattle.theory_addresses.specs.Address.{Address, depth, top_kind}
use Rattle.theory_substitution.specs.Points.{Points}
use Rattle.theory_substitution.specs.Motion.{Motion}
use Rattle.theory_substitution.specs.Rule.{Child, children_of}
use Rattle.theory_substitution.specs.Supertile.{Placed}
use Rattle.theory_dissection.specs.Accepted.{AcceptedRule, NamesTile}
use Rattle.theory_frames.specs.Contain.{ancestor_motion}
use Rattle.theory_frames.specs.Descent.{of_whole}
use Rattle.theory_frames.specs.Frame.{at_level, frame_tiles}
use Rattle.theory_frames.specs.Part.{child_motion}
use Rattle.theory_windows.specs.FramePatch.{frame_patch}
use Rattle.theory_windows.specs.FrameWindow.{AreAllThatMeet, IsLeastDepth}
use Rattle.theory_windows.specs.GrownPolygon.{HoldsWindow}
use Rattle.theory_windows.specs.Patch.{Covers}
use Rattle.theory_descents.specs.Insets.{IsBeyondBox, IsWithinBox, BeyondMeetsNot, WithinIn}
use Rattle.theory_descents.specs.MeetingTest.{MeetsByTest, HasPoint}
use Rattle.theory_descents.specs.Parts.{digit, tiles_below, part_polygon, drawn_below}
use Rattle.theory_descents.specs.Climb.{HoldsByTest, ancestor_polygon, IsFirstHolding}
use Rattle.theory_descents.specs.Descent.{PartTests, AreRightTests, descended}

-- ---- of the plane
abbrev pub BeyondLaw : Points → Type 0
BeyondLaw P = BeyondMeetsNot P.real

abbrev pub InsideLaw : Points → Type 0
InsideLaw P = WithinIn P.real

abbrev pub TestLaw : Points → Type 0
TestLaw P = MeetsByTest P.real

abbrev pub PointLaw : Points → Type 0
PointLaw P = HasPoint P.real

-- ---- of parts
-- no tile of a part beyond a side of the box meets it
abbrev pub PrunedLaw : Points → Type 0
PrunedLaw P =
    (T : AcceptedRule P) (box : OpenBox P.real.ops.carrier) → 0 < box.w → 0 < box.h
    → (k n : ℕ) (m : Motion P.ring.carrier) → k < length T.rule.kinds
    → m.turn < P.order → IsBeyondBox P.real box (part_polygon P T.rule k n m)
    → drawn_below P T.rule box k n m ≡ []

-- each tile of a part within the box does
abbrev pub TakenLaw : Points → Type 0
TakenLaw P =
    (T : AcceptedRule P) (box : OpenBox P.real.ops.carrier) → 0 < box.w → 0 < box.h
    → (k n : ℕ) (m : Motion P.ring.carrier) → k < length T.rule.kinds
    → m.turn < P.order → IsWithinBox P.real box (part_polygon P T.rule k n m)
    → drawn_below P T.rule box k n m ≡ tiles_below P T.rule k n m

-- and those of any other are those of its own parts
abbrev pub PartsLaw : Points → Type 0
PartsLaw P =
    (T : AcceptedRule P) (box : OpenBox P.real.ops.carrier) (k n : ℕ) (m : Motion P.ring.carrier)
    → drawn_below P T.rule box k (suc n) m
    ≡ flat_map (λ (c : ℕ × Child P.ring.carrier). map (of_whole (digit c.0 k))
    (drawn_below P T.rule box c.1.kind n (child_motion P T.rule (power P.ring T.rule.factor n) m c.1)))
    (enumerate_from 0 (children_of T.rule k))

-- so the descent finds, by any right tests, in the order of the list of all tiles, those that meet the box
abbrev pub DescentLaw : Points → Type 0
DescentLaw P =
    (T : AcceptedRule P) (box : OpenBox P.real.ops.carrier) → 0 < box.w → 0 < box.h
    → (tests : PartTests P.ring.carrier) → AreRightTests P T.rule box tests
    → (k n : ℕ) (m : Motion P.ring.carrier) → k < length T.rule.kinds → m.turn < P.order
    → descended P T.rule box tests k n m ≡ drawn_below P T.rule box k n m

-- ---- of frames
-- the tiles of the frame of the base's ancestor at a level are those below it, moved as it is
abbrev pub FrameBelowLaw : Points → Type 0
FrameBelowLaw P =
    (T : AcceptedRule P) (f : Address) → NamesTile P T.rule f → (n : ℕ) → n ≤ depth f
    → frame_tiles P T.rule (at_level f n) ≡ tiles_below P T.rule (top_kind (at_level f n)) n
    (ancestor_motion P T.rule f n)

-- and the descent finds those that meet the window, each exactly once
abbrev pub FrameDescentLaw : Points → Type 0
FrameDescentLaw P =
    (T : AcceptedRule P) (f : Address) → NamesTile P T.rule f → (n : ℕ) → n ≤ depth f
    → (box : OpenBox P.real.ops.carrier) → 0 < box.w → 0 < box.h
    → AreAllThatMeet P.real (Placed P.ring.carrier) (frame_patch P T.rule (at_level f n)) box
    (drawn_below P T.rule box (top_kind (at_level f n)) n (ancestor_motion P T.rule f n))

-- ---- of the climb
abbrev pub HoldsLaw : Points → Type 0
HoldsLaw P = HoldsByTest P.real

-- the first level whose ancestor's polygon passes is the least depth, from m on, that is enough for the
-- window
abbrev pub ClimbLaw : Points → Type 0
ClimbLaw P =
    (T : AcceptedRule P) (f : Address) (box : OpenBox P.real.ops.carrier) (m n : ℕ)
    → IsFirstHolding P T.rule f box m n → IsLeastDepth P T.rule f box m n

-- and there the tiles that meet the window cover it
abbrev pub FrameCoversLaw : Points → Type 0
FrameCoversLaw P =
    (T : AcceptedRule P) (f : Address) → NamesTile P T.rule f → (n : ℕ) → n ≤ depth f
    → (box : OpenBox P.real.ops.carrier) → 0 < box.w → 0 < box.h
    → HoldsWindow P.real box (ancestor_polygon P T.rule f n)
    → Covers P.real (Placed P.ring.carrier) (frame_patch P T.rule (at_level f n)) box
    (drawn_below P T.rule box (top_kind (at_level f n)) n (ancestor_motion P T.rule f n))
