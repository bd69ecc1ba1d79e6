-- The walk through a listing in the frame of an accepted rule over the points of P: how it begins, goes on
-- and ends, and why it stops.
use Rattle.std.specs.Prelude.{◌≡◌, ℕ, ◌<◌, ◌≤◌, Bool, false, List, [], ◌∷◌, ◌++◌, map, length, IsTrue}
use Rattle.std.specs.List.{AllByRecursion}
use Rattle.theory_plane.specs.Plane.{test_point}
use Rattle.theory_plane.specs.Crossing.{member}
use Rattle.theory_plane.specs.Box.{OpenBox}
use Rattle.theory_addresses.specs.Address.{Address, depth}
use Rattle.theory_addresses.specs.Search.{IsAmong}
use Rattle.theory_substitution.specs.Points.{Points}
use Rattle.theory_substitution.specs.Motion.{Motion}
use Rattle.theory_substitution.specs.Rule.{Rule}
use Rattle.theory_substitution.specs.RuleParts.{edge_count}
use Rattle.theory_substitution.specs.Supertile.{Placed}
use Rattle.theory_dissection.specs.Accepted.{AcceptedRule}
use Rattle.theory_dissection.specs.Polygons.{tile_polygon}
use Rattle.theory_frames.specs.Frame.{at_level, frame_tiles, lifted_in}
use Rattle.theory_windows.specs.Distinct.{AreDistinct}
use Rattle.theory_windows.specs.Outlines.{MeetsBox}
use Rattle.theory_windows.specs.Patch.{HasAcross, HasAll}
use Rattle.theory_windows.specs.PatchWindow.{LiesAcross}
use Rattle.theory_windows.specs.Refusals.{IsDepthLimit}
use Rattle.theory_windows.specs.FramePatch.{frame_patch, level_in, growing_frame, tile_of_ancestor, in_frame, line_of}
use Rattle.theory_windows.specs.FrameLaws.{IsEdgeInFrame}
use Rattle.theory_windows.specs.FrameCover.{IsWindowOn}
use Rattle.theory_listings.specs.Lines.{ListLine, named_tiles, IsFirstLine, IsListed}
use Rattle.theory_listings.specs.Walk.{MeetsIn, IsWalk, WalkFault, HasWalkCause}
use Rattle.theory_listings.specs.FrameListing.{deepest_listed, AreOfFrame, IsRightListing, AreUnrefused, AreAllListed, NamesMeeting, IsStray, IsNotOfFrame, IsDouble}

-- a line names the tile of its address in the whole frame
abbrev pub line_named : (P : Points) → Rule P.ring.carrier → Address → Placed P.ring.carrier
    → ListLine (Placed P.ring.carrier) (Motion P.ring.carrier)
line_named P r f x = record { tile = in_frame P r f x.address; digits = depth x.address; motion = x.motion }

abbrev pub lines_named : (P : Points) → Rule P.ring.carrier → Address → List (Placed P.ring.carrier)
    → List (ListLine (Placed P.ring.carrier) (Motion P.ring.carrier))
lines_named P r f listing = map (line_named P r f) listing

-- a line names this tile of the whole frame, with its motion
abbrev pub IsListedIn : (P : Points) → Rule P.ring.carrier → Address → List (Placed P.ring.carrier)
    → Placed P.ring.carrier → Type 0
IsListedIn P r f listing t = IsListed (λ (x : Placed P.ring.carrier). x.motion) (lines_named P r f listing) t

-- these tiles of the whole frame are found on a walk
abbrev pub IsWalkOn : (P : Points) → (P.ring.carrier → Bool) → Rule P.ring.carrier → Address
    → OpenBox P.real.ops.carrier → List (Placed P.ring.carrier)
    → List (Placed P.ring.carrier) → Type 0
IsWalkOn P refused r f box listing found =
    IsWalk P.real (Placed P.ring.carrier) (Motion P.ring.carrier) (growing_frame P refused r f) box
    (λ (x : Placed P.ring.carrier). x.motion) (lines_named P r f listing) found

-- a listing whose lines are of the frame at the depth to which they grow it, and of which no two have the
-- same address
pub record IsListingOn (P : Points) (T : AcceptedRule P) (f : Address) (box : OpenBox P.real.ops.carrier)
    (m : ℕ) (listing : List (Placed P.ring.carrier)) : Type 0 where
  pub window : IsWindowOn P T f box
  pub within : deepest_listed m listing ≤ depth f
  pub of_frame : AreOfFrame P T.rule (at_level f (deepest_listed m listing)) listing
  pub distinct : AreDistinct
      (map (λ (x : Placed P.ring.carrier). lifted_in (at_level f (deepest_listed m listing)) x.address)
      listing)

-- the walk comes to u, which meets the window; and it goes on with u if it is new, listed and not refused
pub record ComesOnIn (P : Points) (refused : P.ring.carrier → Bool) (T : AcceptedRule P) (f : Address)
    (box : OpenBox P.real.ops.carrier)
    (listing : List (Placed P.ring.carrier)) (found : List (Placed P.ring.carrier))
    (u : Placed P.ring.carrier) : Type 0 where
  pub meets : MeetsIn P.real (Placed P.ring.carrier) (frame_patch P T.rule f) box u
  pub onward : ¬ IsAmong u found → refused u.motion.shift ≡ false → IsListedIn P T.rule f listing u
      → IsWalkOn P refused T.rule f box listing (found ++ u ∷ [])

-- it begins with the tile that holds the centre, at whatever depth
abbrev pub FrameWalkStartLaw : Points → Type 0
FrameWalkStartLaw P =
    (T : AcceptedRule P) (f : Address) (refused : P.ring.carrier → Bool) (box : OpenBox P.real.ops.carrier)
    (m : ℕ) (listing : List (Placed P.ring.carrier))
    → IsListingOn P T f box m listing → (n : ℕ) → n ≤ depth f → (t : Placed P.ring.carrier)
    → IsAmong t (frame_tiles P T.rule (at_level f n))
    → IsTrue (member P.real (tile_polygon P T.rule (λ z. z) t) (test_point P.real.ops box.centre))
    → ComesOnIn P refused T f box listing [] (tile_of_ancestor f t)

-- an edge of a tile found that meets the window
pub record IsEdgeOfWalkOn (P : Points) (refused : P.ring.carrier → Bool) (T : AcceptedRule P) (f : Address)
    (box : OpenBox P.real.ops.carrier)
    (listing : List (Placed P.ring.carrier)) (found : List (Placed P.ring.carrier)) (a : Address)
    (e : ℕ) : Type 0 where
  pub walk : IsWalkOn P refused T.rule f box listing found
  pub edge : IsEdgeInFrame P T f a e
  pub among : IsAmong (in_frame P T.rule f a) found
  pub edge_meets : MeetsBox P.real box (line_of P T.rule (in_frame P T.rule f a) e)

-- it goes on with the tile across such an edge
abbrev pub FrameWalkStepLaw : Points → Type 0
FrameWalkStepLaw P =
    (T : AcceptedRule P) (f : Address) (refused : P.ring.carrier → Bool) (box : OpenBox P.real.ops.carrier)
    (m : ℕ) (listing : List (Placed P.ring.carrier))
    → IsListingOn P T f box m listing → (found : List (Placed P.ring.carrier)) (a : Address) (e : ℕ)
    → IsEdgeOfWalkOn P refused T f box listing found a e
    → (u : Placed P.ring.carrier)
    → LiesAcross P.real (Placed P.ring.carrier) (growing_frame P refused T.rule f)
    (line_of P T.rule (in_frame P T.rule f a) e) u
    → ComesOnIn P refused T f box listing found u

-- so fewer lines than there are have been found
abbrev pub FrameWalkRoomLaw : Points → Type 0
FrameWalkRoomLaw P =
    (T : AcceptedRule P) (f : Address) (refused : P.ring.carrier → Bool) (box : OpenBox P.real.ops.carrier)
    (m : ℕ) (listing : List (Placed P.ring.carrier))
    → IsListingOn P T f box m listing → (found : List (Placed P.ring.carrier))
    → IsWalkOn P refused T.rule f box listing found
    → (u : Placed P.ring.carrier) → ¬ IsAmong u found → IsListedIn P T.rule f listing u
    → length found < length listing

-- a tile beyond the depth to which the lines grow the frame has no line
abbrev pub FrameBeyondLaw : Points → Type 0
FrameBeyondLaw P =
    (T : AcceptedRule P) (f : Address) (box : OpenBox P.real.ops.carrier) (m : ℕ)
    (listing : List (Placed P.ring.carrier)) → IsListingOn P T f box m listing
    → (u : Placed P.ring.carrier) → deepest_listed m listing < level_in f u.address
    → ¬ IsAmong u (named_tiles (lines_named P T.rule f listing))

-- if no tile at all lies across an edge that meets the window, no depth is enough
abbrev pub FrameWalkStopLaw : Points → Type 0
FrameWalkStopLaw P =
    (T : AcceptedRule P) (f : Address) (refused : P.ring.carrier → Bool) (box : OpenBox P.real.ops.carrier)
    (m : ℕ) (listing : List (Placed P.ring.carrier))
    → IsListingOn P T f box m listing → (found : List (Placed P.ring.carrier)) (a : Address) (e : ℕ)
    → IsEdgeOfWalkOn P refused T f box listing found a e
    → ((u : Placed P.ring.carrier)
    → ¬ LiesAcross P.real (Placed P.ring.carrier) (growing_frame P refused T.rule f)
    (line_of P T.rule (in_frame P T.rule f a) e) u)
    → IsDepthLimit P.real (Placed P.ring.carrier) (growing_frame P refused T.rule f) box
    (line_of P T.rule (in_frame P T.rule f a) e) (in_frame P T.rule f a)

-- if an edge of a line's tile that is found meets the window, a tile found lies across it
abbrev pub AreAllCrossed : (P : Points) → AcceptedRule P → Address → OpenBox P.real.ops.carrier
    → List (Placed P.ring.carrier) → List (Placed P.ring.carrier) → Type 0
AreAllCrossed P T f box listing found =
    (x : Placed P.ring.carrier) → IsAmong x listing → IsAmong (in_frame P T.rule f x.address) found → (e : ℕ)
    → e < edge_count T.rule x.address.kind
    → MeetsBox P.real box (line_of P T.rule (in_frame P T.rule f x.address) e)
    → HasAcross P.real (Placed P.ring.carrier) (frame_patch P T.rule f) found
    (line_of P T.rule (in_frame P T.rule f x.address) e)

-- Then all tiles that meet the window are found, so all are listed. The listing is right if each line's tile
-- is found; otherwise the first line whose tile is not found is stray.
pub record IsWalkEnd (P : Points) (refused : P.ring.carrier → Bool) (T : AcceptedRule P) (f : Address)
    (box : OpenBox P.real.ops.carrier) (m : ℕ)
    (listing : List (Placed P.ring.carrier)) (found : List (Placed P.ring.carrier)) : Type 0 where
  pub all_found : HasAll P.real (Placed P.ring.carrier) (frame_patch P T.rule f) box found
  pub all_listed : AreAllListed P refused T.rule f box m listing
  pub right : AllByRecursion (λ x. IsAmong (in_frame P T.rule f x.address) found) listing
      → IsRightListing P T.rule f box m listing × AreUnrefused refused listing
  pub stray : (i : ℕ) → IsFirstLine (λ x. ¬ IsAmong (in_frame P T.rule f x.address) found) listing i
      → IsStray P refused T.rule f box m listing i

abbrev pub FrameWalkEndLaw : Points → Type 0
FrameWalkEndLaw P =
    (T : AcceptedRule P) (f : Address) (refused : P.ring.carrier → Bool) (box : OpenBox P.real.ops.carrier)
    (m : ℕ) (listing : List (Placed P.ring.carrier))
    → IsListingOn P T f box m listing → (found : List (Placed P.ring.carrier))
    → IsWalkOn P refused T.rule f box listing found → AreAllCrossed P T f box listing found
    → IsWalkEnd P refused T f box m listing found

-- if all are listed, no fault of the walk has a cause
abbrev pub FrameNoFaultLaw : Points → Type 0
FrameNoFaultLaw P =
    (T : AcceptedRule P) (f : Address) (refused : P.ring.carrier → Bool) (box : OpenBox P.real.ops.carrier)
    (m : ℕ) (listing : List (Placed P.ring.carrier))
    → IsListingOn P T f box m listing → AreAllListed P refused T.rule f box m listing
    → (a : WalkFault P.real (Placed P.ring.carrier) (Motion P.ring.carrier))
    → ¬ HasWalkCause P.real (Placed P.ring.carrier) (Motion P.ring.carrier) (growing_frame P refused T.rule f)
    box (λ (x : Placed P.ring.carrier). x.motion) (lines_named P T.rule f listing) a

-- The depth of a right listing is the one to which its lines grow the frame. Its lines are of the frame, and
-- no two have one address. If none is refused, all are listed. None is stray.
pub record IsRightInFrame (P : Points) (refused : P.ring.carrier → Bool) (T : AcceptedRule P) (f : Address)
    (box : OpenBox P.real.ops.carrier) (m : ℕ)
    (listing : List (Placed P.ring.carrier)) (n : ℕ) : Type 0 where
  pub depth : n ≡ deepest_listed m listing
  pub listing_on : IsListingOn P T f box m listing
  pub all_listed : AreUnrefused refused listing → AreAllListed P refused T.rule f box m listing
  pub each_meets : AllByRecursion (λ x. NamesMeeting P T.rule f box x.address) listing

abbrev pub FrameRightLaw : Points → Type 0
FrameRightLaw P =
    (T : AcceptedRule P) (f : Address) (refused : P.ring.carrier → Bool) (box : OpenBox P.real.ops.carrier)
    → IsWindowOn P T f box
    → (m : ℕ) (listing : List (Placed P.ring.carrier)) → (r : IsRightListing P T.rule f box m listing)
    → IsRightInFrame P refused T f box m listing r.depth

-- so such a listing has none of the faults that come before the walk, nor a stray line
pub record HasNoListFault (P : Points) (refused : P.ring.carrier → Bool) (T : AcceptedRule P) (f : Address)
    (box : OpenBox P.real.ops.carrier) (m : ℕ)
    (listing : List (Placed P.ring.carrier)) : Type 0 where
  pub all_of_frame : (i : ℕ) → ¬ IsNotOfFrame P T.rule (at_level f (deepest_listed m listing)) listing i
  pub no_double : (i : ℕ) → ¬ IsDouble (at_level f (deepest_listed m listing)) listing i
  pub none_stray : (i : ℕ) → ¬ IsStray P refused T.rule f box m listing i

abbrev pub FrameNoListFaultLaw : Points → Type 0
FrameNoListFaultLaw P =
    (T : AcceptedRule P) (f : Address) (refused : P.ring.carrier → Bool) (box : OpenBox P.real.ops.carrier)
    → IsWindowOn P T f box
    → (m : ℕ) (listing : List (Placed P.ring.carrier)) → IsRightListing P T.rule f box m listing
    → HasNoListFault P refused T f box m listing
