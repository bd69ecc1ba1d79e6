-- A listing whose addresses are lifted to the depth to which its lines grow the frame says the same.
use Rattle.std.specs.Prelude.{◌≡◌, ◌↔◌, ℕ, ◌≤◌, Bool, List, map}
use Rattle.theory_plane.specs.Box.{OpenBox}
use Rattle.theory_addresses.specs.Address.{Address, depth}
use Rattle.theory_substitution.specs.Points.{Points}
use Rattle.theory_substitution.specs.Rule.{Rule}
use Rattle.theory_substitution.specs.Supertile.{Placed}
use Rattle.theory_dissection.specs.Accepted.{AcceptedRule, NamesTile}
use Rattle.theory_frames.specs.Frame.{at_level}
use Rattle.theory_windows.specs.FramePatch.{tile_of_ancestor}
use Rattle.theory_listings.specs.FrameListing.{deepest_listed, AreOfFrame, IsRightListing, AreUnrefused, AreAllListed, IsStray}

-- both listings grow the frame to one depth, and are right together, with all listed, or with a stray line
pub record SayTheSame (P : Points) (refused : P.ring.carrier → Bool) (r : Rule P.ring.carrier) (f : Address)
    (box : OpenBox P.real.ops.carrier) (m : ℕ)
    (listing others : List (Placed P.ring.carrier)) : Type 0 where
  pub deepest : deepest_listed m others ≡ deepest_listed m listing
  pub right : IsRightListing P r f box m others ↔ IsRightListing P r f box m listing
  pub unrefused : AreUnrefused refused others ↔ AreUnrefused refused listing
  pub all_listed : AreAllListed P refused r f box m others ↔ AreAllListed P refused r f box m listing
  pub stray : (i : ℕ) → IsStray P refused r f box m others i ↔ IsStray P refused r f box m listing i

abbrev pub LiftedListingLaw : Points → Type 0
LiftedListingLaw P =
    (T : AcceptedRule P) (f : Address) → NamesTile P T.rule f
    → (refused : P.ring.carrier → Bool) (box : OpenBox P.real.ops.carrier) (m : ℕ)
    (listing : List (Placed P.ring.carrier)) → deepest_listed m listing ≤ depth f
    → AreOfFrame P T.rule (at_level f (deepest_listed m listing)) listing
    → SayTheSame P refused T.rule f box m listing
    (map (tile_of_ancestor (at_level f (deepest_listed m listing))) listing)
