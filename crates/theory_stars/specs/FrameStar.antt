-- The turn around a vertex in the frame of an accepted rule over the points of P, from tile to tile while the
-- frame grows, and at the depth that it has at the end.
use Rattle.std.specs.Prelude.{◌≡◌, ◌↔◌, ℕ, ◌<◌, ◌≤◌, max, Bool, List, ◌∷◌, map, length}
use Rattle.std.specs.List.{AllByRecursion}
use Rattle.theory_plane.specs.Plane.{PlanePoint}
use Rattle.theory_addresses.specs.Address.{Address, depth}
use Rattle.theory_substitution.specs.Plane.{plane_point}
use Rattle.theory_substitution.specs.Points.{Points}
use Rattle.theory_substitution.specs.Rule.{Rule}
use Rattle.theory_substitution.specs.RuleParts.{edge_count, vertex}
use Rattle.theory_substitution.specs.Supertile.{Placed}
use Rattle.theory_dissection.specs.Accepted.{AcceptedRule, NamesTile}
use Rattle.theory_dissection.specs.OnBoundary.{IsOnBoundary}
use Rattle.theory_dissection.specs.TileEdges.{tile_at}
use Rattle.theory_frames.specs.Frame.{at_level, lifted_in}
use Rattle.theory_windows.specs.Distinct.{AreDistinct}
use Rattle.theory_windows.specs.FramePatch.{frame_patch, growing_frame, level_in, tile_of_ancestor, in_frame}
use Rattle.theory_windows.specs.FrameLaws.{IsEdgeInFrame}
use Rattle.theory_windows.specs.FrameSearch.{IsGrownCrossing}
use Rattle.theory_stars.specs.Corners.{Corner, IsCornerAt, edge_into, IsNext, IsTurn, corner_tiles}
use Rattle.theory_stars.specs.EnoughAt.{IsEnoughAt}
use Rattle.theory_stars.specs.GrownStar.{IsCornerOfDepth, IsStar}
use Rattle.theory_stars.specs.Round.{IsSimplyDissected, IsRound}

-- the tiles of a frame are a dissection into simple polygons
abbrev pub SimpleFrameLaw : Points → Type 0
SimpleFrameLaw P = (T : AcceptedRule P) (f : Address) → NamesTile P T.rule f
    → IsSimplyDissected P.real (Placed P.ring.carrier) (frame_patch P T.rule f)

-- the corner with vertex number i of the tile that an address names in the frame
abbrev pub corner_named : (P : Points) → Rule P.ring.carrier → Address → Address → ℕ
    → Corner (Placed P.ring.carrier)
corner_named P r f a i = record { tile = in_frame P r f a; vertex = i }

-- a corner of a tile of the base's ancestor's frame, as one of the whole frame
abbrev pub lifted_corner : {A : Type 0} → Address → Corner (Placed A) → Corner (Placed A)
lifted_corner f c = record { tile = tile_of_ancestor f c.tile; vertex = c.vertex }

-- If the edge that ends at a tile's vertex is crossed, the tile across is the next one, with the vertex at
-- which its edge starts. The frame grows to its level, unless it is already that deep.
abbrev pub FrameNextLaw : Points → Type 0
FrameNextLaw P =
    (T : AcceptedRule P) (f : Address) (m n : ℕ) (a : Address) (i : ℕ) (b : Address) (g : ℕ)
    → IsGrownCrossing P T f m n a (edge_into (edge_count T.rule a.kind) i) b g
    → IsNext P.real (Placed P.ring.carrier) (frame_patch P T.rule f) (corner_named P T.rule f a i)
    (corner_named P T.rule f b g)
    × (max m (level_in f (lifted_in f b)) ≡ n)

-- the tiles of these corners have n digits
abbrev pub AreOfDepth : {A : Type 0} → ℕ → List (Corner (Placed A)) → Type 0
AreOfDepth {A} n corners = AllByRecursion (λ (c : Corner (Placed A)). depth c.tile.address ≡ n) corners

-- at the depth that the frame has: exactly its tiles that have v as a vertex, in turning order from the base
pub record IsFrameStar (P : Points) (r : Rule P.ring.carrier) (f : Address)
    (v : PlanePoint P.real.ops.carrier) (base : Corner (Placed P.ring.carrier))
    (others : List (Corner (Placed P.ring.carrier))) : Type 0 where
  pub round : IsRound P.real (Placed P.ring.carrier) (frame_patch P r f) v (base ∷ others)
  pub turn : IsTurn P.real (Placed P.ring.carrier) (frame_patch P r f) base others

-- a star of the whole frame at depth n, with its turn, is one of the frame of that depth
abbrev pub FrameStarLaw : Points → Type 0
FrameStarLaw P =
    (T : AcceptedRule P) (f : Address) → NamesTile P T.rule f
    → (refused : P.ring.carrier → Bool) (v : PlanePoint P.real.ops.carrier) (m n : ℕ) → n ≤ depth f
    → (base : Corner (Placed P.ring.carrier)) (others : List (Corner (Placed P.ring.carrier)))
    → AreOfDepth n (base ∷ others)
    → IsStar P.real (Placed P.ring.carrier) (growing_frame P refused T.rule f) v m n
    (map (lifted_corner f) (base ∷ others))
    → IsTurn P.real (Placed P.ring.carrier) (frame_patch P T.rule f) (lifted_corner f base)
    (map (lifted_corner f) others)
    → IsFrameStar P T.rule (at_level f n) v base others

-- distinct tiles of a frame, each with v as this vertex
pub record AreAtVertex (P : Points) (r : Rule P.ring.carrier) (f : Address)
    (v : PlanePoint P.real.ops.carrier) (corners : List (Corner (Placed P.ring.carrier))) : Type 0 where
  pub distinct : AreDistinct (corner_tiles corners)
  pub each : AllByRecursion (IsCornerAt P.real (Placed P.ring.carrier) (frame_patch P r f) v) corners

-- for distinct tiles at depth n that have v as a vertex there are equally many in the frame of that depth
abbrev pub FrameCornersLaw : Points → Type 0
FrameCornersLaw P =
    (T : AcceptedRule P) (f : Address) → NamesTile P T.rule f
    → (refused : P.ring.carrier → Bool) (v : PlanePoint P.real.ops.carrier) (n : ℕ) → n ≤ depth f
    → (corners : List (Corner (Placed P.ring.carrier))) → AreDistinct (corner_tiles corners)
    → AllByRecursion (IsCornerOfDepth P.real (Placed P.ring.carrier) (growing_frame P refused T.rule f) v n)
    corners
    → (fine : List (Corner (Placed P.ring.carrier))) × (length fine ≡ length corners)
    × AreAtVertex P T.rule (at_level f n) v fine

-- ---- the base, and what stops the turn
-- The base is in the position of its prototile. If it names a tile of a frame, its vertex number i is in the
-- position of the prototile's, from the base's own depth on.
abbrev pub FrameBaseLaw : Points → Type 0
FrameBaseLaw P =
    (T : AcceptedRule P) (f : Address) → NamesTile P T.rule f → (refused : P.ring.carrier → Bool) (n : ℕ)
    → n ≤ depth f → (i : ℕ) → i < edge_count T.rule f.kind
    → IsCornerOfDepth P.real (Placed P.ring.carrier) (growing_frame P refused T.rule f)
    (plane_point P (vertex P T.rule f.kind i)) n
    (corner_named P T.rule f (at_level f n) i)

-- a tile of the frame at depth n that has v as a vertex is the base if and only if its address is the base's
abbrev pub FrameBackLaw : Points → Type 0
FrameBackLaw P =
    (T : AcceptedRule P) (f : Address) → NamesTile P T.rule f → (v : PlanePoint P.real.ops.carrier) (m n : ℕ)
    → m ≤ depth f → n ≤ depth f → (b : Address) (g i : ℕ)
    → depth b ≡ n → IsCornerAt P.real (Placed P.ring.carrier) (frame_patch P T.rule f) v
    (corner_named P T.rule f b g)
    → IsCornerAt P.real (Placed P.ring.carrier) (frame_patch P T.rule f) v
    (corner_named P T.rule f (at_level f m) i)
    → (b ≡ at_level f n) ↔ (corner_named P T.rule f b g ≡ corner_named P T.rule f (at_level f m) i)

-- if the edge that ends at v is on the boundary at the frame's own depth, that depth is not enough for v
abbrev pub TurnStopLaw : Points → Type 0
TurnStopLaw P =
    (T : AcceptedRule P) (f : Address) (refused : P.ring.carrier → Bool) (v : PlanePoint P.real.ops.carrier)
    (a : Address) (i : ℕ)
    → IsEdgeInFrame P T f a (edge_into (edge_count T.rule a.kind) i)
    → IsCornerAt P.real (Placed P.ring.carrier) (frame_patch P T.rule f) v (corner_named P T.rule f a i)
    → (own part : ℕ) → IsOnBoundary P T.rule (tile_at P T.rule (lifted_in f a))
    (edge_into (edge_count T.rule a.kind) i) own part
    → ¬ IsEnoughAt P.real (Placed P.ring.carrier) (growing_frame P refused T.rule f) v (depth f)
