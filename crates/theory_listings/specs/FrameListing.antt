-- Listings by addresses, in the frame of a rule over the points of P. A line is an address of any depth and a
-- motion: a tile as it is listed.
use Rattle.std.specs.Prelude.{◌≡◌, ℕ, ◌<◌, max, Bool, false, List, [], ◌∷◌, map}
use Rattle.std.specs.List.{AllByRecursion}
use Rattle.theory_plane.specs.Box.{OpenBox}
use Rattle.theory_addresses.specs.Address.{Address, depth}
use Rattle.theory_addresses.specs.Search.{IsAmong}
use Rattle.theory_addresses.specs.Tables.{child_kinds}
use Rattle.theory_substitution.specs.Points.{Points}
use Rattle.theory_substitution.specs.Rule.{Rule}
use Rattle.theory_substitution.specs.Supertile.{Placed}
use Rattle.theory_edge_to_edge.specs.Contacts.{tables_of}
use Rattle.theory_dissection.specs.Polygons.{tile_polygon}
use Rattle.theory_frames.specs.Frame.{at_level, frame_tiles, IsTileOf, lifted_in}
use Rattle.theory_windows.specs.Meeting.{PolygonMeetsBox}
use Rattle.theory_windows.specs.FramePatch.{frame_patch, tile_of_ancestor, in_frame}
use Rattle.theory_windows.specs.FrameWindow.{AreAllThatMeet, IsLeastDepth}
use Rattle.theory_listings.specs.Lines.{IsLineAt, IsFirstLine}

-- the greater of a depth and the greatest listed one
abbrev pub deepest_listed : {A : Type 0} → ℕ → List (Placed A) → ℕ
deepest_listed m [] = m
deepest_listed m (x ∷ listing) = max (depth x.address) (deepest_listed m listing)

-- the address of each line is of the frame
abbrev pub AreOfFrame : (P : Points) → Rule P.ring.carrier → Address → List (Placed P.ring.carrier) → Type 0
AreOfFrame P r f listing =
    AllByRecursion (λ (x : Placed P.ring.carrier). IsTileOf (child_kinds (tables_of P r)) f x.address) listing

-- Let n be the least depth that is enough for the window, and not below m or a listed one. The listing is
-- right if there is such a depth, the address of each line is of the frame at depth n, and the lines, lifted
-- to depth n, are exactly the tiles there that meet the window. Each comes exactly once, with its motion.
pub record IsRightListing (P : Points) (r : Rule P.ring.carrier) (f : Address)
    (box : OpenBox P.real.ops.carrier) (m : ℕ) (listing : List (Placed P.ring.carrier)) : Type 0 where
  pub depth : ℕ
  pub least : IsLeastDepth P r f box (deepest_listed m listing) depth
  pub of_frame : AreOfFrame P r (at_level f depth) listing
  pub all_that_meet : AreAllThatMeet P.real (Placed P.ring.carrier) (frame_patch P r (at_level f depth)) box
      (map (tile_of_ancestor (at_level f depth)) listing)

-- no line has a refused shift
abbrev pub AreUnrefused : {A : Type 0} → (A → Bool) → List (Placed A) → Type 0
AreUnrefused {A} refused listing = AllByRecursion (λ (x : Placed A). refused x.motion.shift ≡ false) listing

-- there is such a depth, and each tile there that meets the window has a line with its motion, and no refused
-- shift
pub record AreAllListed (P : Points) (refused : P.ring.carrier → Bool) (r : Rule P.ring.carrier) (f : Address)
    (box : OpenBox P.real.ops.carrier) (m : ℕ)
    (listing : List (Placed P.ring.carrier)) : Type 0 where
  pub depth : ℕ
  pub least : IsLeastDepth P r f box (deepest_listed m listing) depth
  pub each_listed : (x : Placed P.ring.carrier) → IsAmong x (frame_tiles P r (at_level f depth))
      → PolygonMeetsBox P.real box (tile_polygon P r (λ z. z) x)
      → IsAmong x (map (tile_of_ancestor (at_level f depth)) listing)
  pub none_refused : (x : Placed P.ring.carrier) → IsAmong x (frame_tiles P r (at_level f depth))
      → PolygonMeetsBox P.real box (tile_polygon P r (λ z. z) x) → refused x.motion.shift ≡ false

-- the tile that an address names meets the window
abbrev pub NamesMeeting : (P : Points) → Rule P.ring.carrier → Address → OpenBox P.real.ops.carrier → Address
    → Type 0
NamesMeeting P r f box a = PolygonMeetsBox P.real box (tile_polygon P r (λ z. z) (in_frame P r f a))

-- all are listed, and line i, counted from 0, is the first whose tile does not meet the window
pub record IsStray (P : Points) (refused : P.ring.carrier → Bool) (r : Rule P.ring.carrier) (f : Address)
    (box : OpenBox P.real.ops.carrier) (m : ℕ)
    (listing : List (Placed P.ring.carrier)) (i : ℕ) : Type 0 where
  pub all_listed : AreAllListed P refused r f box m listing
  pub first : IsFirstLine (λ x. ¬ NamesMeeting P r f box x.address) listing i

-- line i, counted from 0, is the first whose address is not of the frame
abbrev pub IsNotOfFrame : (P : Points) → Rule P.ring.carrier → Address → List (Placed P.ring.carrier) → ℕ
    → Type 0
IsNotOfFrame P r f listing i =
    IsFirstLine (λ (x : Placed P.ring.carrier). ¬ IsTileOf (child_kinds (tables_of P r)) f x.address) listing
    i

-- an earlier line than number i has the same address, lifted in the frame
abbrev pub HasEarlier : {A : Type 0} → Address → List (Placed A) → ℕ → Placed A → Type 0
HasEarlier {A} f listing i x = (j : ℕ) × (y : Placed A) × (j < i) × IsLineAt listing j y
    × (lifted_in f y.address ≡ lifted_in f x.address)

-- line i, from 0, is the first that has the lifted address of an earlier one
pub record IsDouble {A : Type 0} (f : Address) (listing : List (Placed A)) (i : ℕ) : Type 0 where
  pub line : Placed A
  pub is_line : IsLineAt listing i line
  pub earlier : HasEarlier f listing i line
  pub first : (j : ℕ) (y : Placed A) → j < i → IsLineAt listing j y → ¬ HasEarlier f listing j y
