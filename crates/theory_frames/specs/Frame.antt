-- Frames: the tiles of a supertile, moved so that one tile of it, the base, is in the position of its
-- prototile. A frame is named by the base's address in the supertile: the base's own digits, followed by the
-- grown ones.
use Rattle.std.specs.Prelude.{◌≡◌, ℕ, ◌<◌, ◌≤◌, List, ◌++◌, length, map, take, drop}
use Rattle.theory_substitution.specs.Points.{Points}
use Rattle.theory_substitution.specs.Motion.{Motion, followed}
use Rattle.theory_addresses.specs.Address.{Step, Address, depth, top_kind, kind_at, Fits}
use Rattle.theory_substitution.specs.Rule.{Rule, children_of}
use Rattle.theory_substitution.specs.RuleParts.{child_of}
use Rattle.theory_addresses.specs.Search.{IsAmong}
use Rattle.theory_substitution.specs.Supertile.{Placed, supertile}
use Rattle.theory_substitution.specs.Placement.{placement}
use Rattle.theory_frames.specs.Back.{back}

-- the frame of the base's ancestor at a level
abbrev pub at_level : Address → ℕ → Address
at_level f level = record { kind = f.kind; digits = take level f.digits }

-- The motion, in the frame of a base with these digits, of a tile of the same supertile with the same number
-- of digits. It is its motion there, followed by the motion back of the base.
abbrev pub motion_beside : (P : Points) → Rule P.ring.carrier → List Step → List Step → Motion P.ring.carrier
motion_beside P r base tile = followed P (placement P r tile) (back P (placement P r base))

-- the tiles of a frame: those of the supertile, each motion followed by the motion back of the base
abbrev pub frame_tiles : (P : Points) → Rule P.ring.carrier → Address → List (Placed P.ring.carrier)
frame_tiles P r f =
    map (λ (t : Placed P.ring.carrier). record
    { address = t.address; motion = followed P t.motion (back P (placement P r f.digits)) })
    (supertile P r (top_kind f) (depth f))

-- the motion is listed with the address among the tiles of the frame, and no other is
pub record StandsInFrame (P : Points) (r : Rule P.ring.carrier) (f a : Address)
    (m : Motion P.ring.carrier) : Type 0 where
  pub among : IsAmong (record { address = a; motion = m }) (frame_tiles P r f)
  pub alone : (g : Motion P.ring.carrier) → IsAmong (record { address = a; motion = g }) (frame_tiles P r f)
      → g ≡ m

-- The tile is of the frame. Its address fits, it is no deeper than the frame, and its kind at the level of
-- its depth is the frame's there. So it names a tile of the frame's ancestor of that depth.
pub record IsTileOf (children : List (List ℕ)) (f a : Address) : Type 0 where
  pub fits : Fits children a
  pub no_deeper : depth a ≤ depth f
  pub same_kind : kind_at a (depth a) ≡ kind_at f (depth a)

-- the tile as one of the whole frame: its own digits, followed by the frame's digits from the tile's depth up
abbrev pub lifted_in : Address → Address → Address
lifted_in f a = record { kind = a.kind; digits = a.digits ++ drop (depth a) f.digits }

-- the kind of each child of each kind is a kind of the rule
abbrev pub HasChildKinds : (P : Points) → Rule P.ring.carrier → Type 0
HasChildKinds P r = (k c : ℕ) → k < length r.kinds → c < length (children_of r k)
    → (child_of P r k c).kind < length r.kinds
