-- An edge that is cut into parts meets an open box if and only if one of the parts does.
use Rattle.std.specs.Prelude.{◌⊎◌, ◌↔◌, List, [], ◌∷◌, IsTrue}
use Rattle.theory_ring.specs.Sign.{Signed}
use Rattle.theory_plane.specs.Plane.{PlanePoint}
use Rattle.theory_plane.specs.Segment.{on_segment}
use Rattle.theory_plane.specs.Box.{OpenBox, EdgeMeetsBox}

-- a point c of the edge a→b cuts it in two
abbrev pub CutMeets : Signed → Type 0
CutMeets S =
    (box : OpenBox S.ops.carrier) (a b c : PlanePoint S.ops.carrier) → IsTrue (on_segment S a b c)
    → EdgeMeetsBox S a b box ↔ (EdgeMeetsBox S a c box ⊎ EdgeMeetsBox S c b box)

-- of the points from cur on, each is on the segment from a to the next
abbrev pub AreCuts : (S : Signed) → PlanePoint S.ops.carrier → PlanePoint S.ops.carrier
    → List (PlanePoint S.ops.carrier) → Type 0
AreCuts S a cur [] = Unit {0}
AreCuts S a cur (v ∷ vs) = IsTrue (on_segment S a v cur) × AreCuts S a v vs

-- the last of the points from cur on
abbrev pub last_from : {A : Type 0} → A → List A → A
last_from cur [] = cur
last_from cur (v ∷ vs) = last_from v vs

-- one of the parts from cur on meets the box
abbrev pub PartMeets : (S : Signed) → OpenBox S.ops.carrier → PlanePoint S.ops.carrier
    → List (PlanePoint S.ops.carrier) → Type 0
PartMeets S box cur [] = ⊥
PartMeets S box cur (v ∷ vs) = EdgeMeetsBox S cur v box ⊎ PartMeets S box v vs

-- points of it, in order, cut the edge from a to the last of them
abbrev pub CutsMeet : Signed → Type 0
CutsMeet S =
    (box : OpenBox S.ops.carrier) (a v : PlanePoint S.ops.carrier) (vs : List (PlanePoint S.ops.carrier))
    → AreCuts S a v vs
    → EdgeMeetsBox S a (last_from v vs) box ↔ PartMeets S box a (v ∷ vs)
