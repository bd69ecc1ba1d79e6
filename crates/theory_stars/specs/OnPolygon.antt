-- A depth is enough for a point if and only if the point is on no edge of the frame's polygon there.
use Rattle.std.specs.Prelude.{◌≡◌, ◌↔◌, ℕ, ◌≤◌, Bool, false}
use Rattle.std.specs.List.{AllByRecursion}
use Rattle.theory_ring.specs.Sign.{Signed}
use Rattle.theory_plane.specs.Plane.{PlanePoint}
use Rattle.theory_plane.specs.Segment.{on_segment}
use Rattle.theory_addresses.specs.Address.{Address, depth}
use Rattle.theory_substitution.specs.Points.{Points}
use Rattle.theory_substitution.specs.Rule.{Rule}
use Rattle.theory_substitution.specs.Supertile.{Placed}
use Rattle.theory_dissection.specs.Accepted.{AcceptedRule, NamesTile}
use Rattle.theory_windows.specs.FramePatch.{growing_frame, frame_polygon}
use Rattle.theory_windows.specs.Outlines.{Polygon, edges}
use Rattle.theory_stars.specs.EnoughAt.{IsEnoughAt, IsLeastEnoughAt}

-- v is on no edge of the polygon
abbrev pub IsOffEdges : (S : Signed) → PlanePoint S.ops.carrier → Polygon S → Type 0
IsOffEdges S v polygon = AllByRecursion (λ w. on_segment S w.from w.to v ≡ false) (edges polygon)

-- v is on no edge of the frame's polygon at depth n
abbrev pub IsOffFrame : (P : Points) → Rule P.ring.carrier → Address → PlanePoint P.real.ops.carrier → ℕ
    → Type 0
IsOffFrame P r f v n = IsOffEdges P.real v (frame_polygon P r f n)

-- n is the least depth of the frame, from m on, at which v is on no edge of its polygon
pub record IsLeastOff (P : Points) (r : Rule P.ring.carrier) (f : Address) (v : PlanePoint P.real.ops.carrier)
    (m n : ℕ) : Type 0 where
  pub not_below : m ≤ n
  pub within : n ≤ depth f
  pub off : IsOffFrame P r f v n
  pub least : (k : ℕ) → m ≤ k → k ≤ depth f → IsOffFrame P r f v k → n ≤ k

-- this holds if and only if no tile at that depth has an edge that contains v and is on the boundary
abbrev pub FrameOffLaw : Points → Type 0
FrameOffLaw P =
    (T : AcceptedRule P) (f : Address) → NamesTile P T.rule f
    → (refused : P.ring.carrier → Bool) (v : PlanePoint P.real.ops.carrier) (n : ℕ) → n ≤ depth f
    → IsEnoughAt P.real (Placed P.ring.carrier) (growing_frame P refused T.rule f) v n
    ↔ IsOffFrame P T.rule f v n

-- so the least enough depth is the least such one
abbrev pub FrameLeastLaw : Points → Type 0
FrameLeastLaw P =
    (T : AcceptedRule P) (f : Address) → NamesTile P T.rule f
    → (refused : P.ring.carrier → Bool) (v : PlanePoint P.real.ops.carrier) (m n : ℕ) → n ≤ depth f
    → IsLeastEnoughAt P.real (Placed P.ring.carrier) (growing_frame P refused T.rule f) v m n
    → IsLeastOff P T.rule f v m n
