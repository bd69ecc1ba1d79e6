-- What holds of every frame of an accepted rule over the points of P: its tiles are a dissected patch, which
-- grows as the frame does.
use Rattle.std.specs.Prelude.{◌≡◌, ◌↔◌, ℕ, ◌<◌, ◌≤◌, Bool, Some, slice_get, length, IsTrue}
use Rattle.theory_plane.specs.Box.{OpenBox}
use Rattle.theory_addresses.specs.Search.{IsAmong, below}
use Rattle.theory_addresses.specs.Address.{Address, depth}
use Rattle.theory_addresses.specs.Tables.{child_kinds}
use Rattle.theory_substitution.specs.Points.{Points}
use Rattle.theory_substitution.specs.RuleParts.{edge_count}
use Rattle.theory_substitution.specs.Supertile.{Placed}
use Rattle.theory_edge_to_edge.specs.Contacts.{tables_of}
use Rattle.theory_edge_to_edge.specs.Edges.{Edge, runs_back}
use Rattle.theory_dissection.specs.Accepted.{AcceptedRule, NamesTile}
use Rattle.theory_dissection.specs.Across.{IsTileAcross}
use Rattle.theory_dissection.specs.OnBoundary.{IsOnBoundary}
use Rattle.theory_dissection.specs.Polygons.{tile_polygon}
use Rattle.theory_dissection.specs.TileEdges.{tile_at}
use Rattle.theory_frames.specs.Frame.{at_level, frame_tiles, IsTileOf}
use Rattle.theory_windows.specs.Outlines.{edges, is_reverse}
use Rattle.theory_windows.specs.OpenEdges.{edges_of_tile}
use Rattle.theory_windows.specs.Patch.{IsDissected}
use Rattle.theory_windows.specs.GrowingPatch.{IsOfDepth, IsInner}
use Rattle.theory_windows.specs.EnoughDepth.{IsEnough}
use Rattle.theory_windows.specs.GrownPolygon.{IsWholeOf, HoldsWindow}
use Rattle.theory_windows.specs.FramePatch.{frame_patch, growing_frame, frame_polygon, tile_of_ancestor, in_frame, plane_edge, line_of}

-- the tiles of a frame are a dissected patch
abbrev pub FramePatchLaw : Points → Type 0
FramePatchLaw P = (T : AcceptedRule P) (f : Address) → NamesTile P T.rule f
    → IsDissected P.real (Placed P.ring.carrier) (frame_patch P T.rule f)

-- at depth n they are the tiles of the frame of the base's ancestor at level n, lifted
abbrev pub LiftLaw : Points → Type 0
LiftLaw P =
    (T : AcceptedRule P) (f : Address) → NamesTile P T.rule f → (refused : P.ring.carrier → Bool) (n : ℕ)
    → n ≤ depth f → (t : Placed P.ring.carrier)
    → IsOfDepth P.real (Placed P.ring.carrier) (growing_frame P refused T.rule f) n t
    ↔ ((fine : Placed P.ring.carrier) × IsAmong fine (frame_tiles P T.rule (at_level f n))
    × (t ≡ tile_of_ancestor f fine))

-- so they are those that addresses of depth n name
abbrev pub NamedLaw : Points → Type 0
NamedLaw P =
    (T : AcceptedRule P) (f : Address) → NamesTile P T.rule f → (refused : P.ring.carrier → Bool) (n : ℕ)
    → n ≤ depth f → (t : Placed P.ring.carrier)
    → IsOfDepth P.real (Placed P.ring.carrier) (growing_frame P refused T.rule f) n t
    ↔ ((a : Address) × IsTileOf (child_kinds (tables_of P T.rule)) f a × (depth a ≡ n)
    × (t ≡ in_frame P T.rule f a))

-- the edges of a tile's outline are its edges, by their numbers
abbrev pub LinesLaw : Points → Type 0
LinesLaw P =
    (T : AcceptedRule P) (t : Placed P.ring.carrier) → t.address.kind < length T.rule.kinds → (e : ℕ)
    → e < edge_count T.rule t.address.kind
    → slice_get (edges (tile_polygon P T.rule (λ z. z) t)) e ≡ Some (line_of P T.rule t e)

abbrev pub NumberedLaw : Points → Type 0
NumberedLaw P =
    (T : AcceptedRule P) (t : Placed P.ring.carrier) → t.address.kind < length T.rule.kinds → (i : ℕ)
    → edges_of_tile P.real i (tile_polygon P T.rule (λ z. z) t)
    ≡ below (λ e. record { tile = i; edge = e; line = line_of P T.rule t e })
    (edge_count T.rule t.address.kind)

-- whether one edge is the reverse of another is seen by the points between which they run
abbrev pub ReverseTestLaw : Points → Type 0
ReverseTestLaw P = (e f : Edge P.ring.carrier)
    → is_reverse P.real (plane_edge P e) (plane_edge P f) ≡ runs_back P e f

-- a tile of the frame, by the address that it has at its own depth, with one of its edges
pub record IsEdgeInFrame (P : Points) (T : AcceptedRule P) (f a : Address) (e : ℕ) : Type 0 where
  pub frame : NamesTile P T.rule f
  pub tile : IsTileOf (child_kinds (tables_of P T.rule)) f a
  pub edge_exists : e < edge_count T.rule a.kind

-- if a tile is across the edge in their common supertile, its edge is the reverse in the frame
abbrev pub ReverseLaw : Points → Type 0
ReverseLaw P =
    (T : AcceptedRule P) (f a : Address) (e : ℕ) → IsEdgeInFrame P T f a e → (b : Address) (g : ℕ)
    → IsTileAcross P T.rule (tile_at P T.rule a) e (tile_at P T.rule b) g
    → IsTrue (is_reverse P.real (line_of P T.rule (in_frame P T.rule f a) e)
    (line_of P T.rule (in_frame P T.rule f b) g))

-- at the tile's depth the edge is inner if and only if a tile is across it in their common supertile
abbrev pub InnerLaw : Points → Type 0
InnerLaw P =
    (T : AcceptedRule P) (f a : Address) (e : ℕ) → IsEdgeInFrame P T f a e → (refused : P.ring.carrier → Bool)
    → IsInner P.real (Placed P.ring.carrier) (growing_frame P refused T.rule f) (depth a)
    (line_of P T.rule (in_frame P T.rule f a) e)
    ↔ ((b : Placed P.ring.carrier) × (g : ℕ) × IsTileAcross P T.rule (tile_at P T.rule a) e b g)

-- and it is not inner if and only if the edge lies on the supertile's boundary
abbrev pub OutsideLaw : Points → Type 0
OutsideLaw P =
    (T : AcceptedRule P) (f a : Address) (e : ℕ) → IsEdgeInFrame P T f a e → (refused : P.ring.carrier → Bool)
    → (¬ IsInner P.real (Placed P.ring.carrier) (growing_frame P refused T.rule f) (depth a)
    (line_of P T.rule (in_frame P T.rule f a) e))
    ↔ ((own : ℕ) × (part : ℕ) × IsOnBoundary P T.rule (tile_at P T.rule a) e own part)

-- the polygon of the frame at a depth is that of the patch
abbrev pub FramePolygonLaw : Points → Type 0
FramePolygonLaw P =
    (T : AcceptedRule P) (f : Address) → NamesTile P T.rule f → (refused : P.ring.carrier → Bool) (n : ℕ)
    → n ≤ depth f
    → IsWholeOf P.real (Placed P.ring.carrier) (growing_frame P refused T.rule f) n
    (frame_polygon P T.rule f n)

-- so a depth is enough if and only if the frame's polygon holds the centre and none of its edges meets the
-- window
abbrev pub FrameEnoughLaw : Points → Type 0
FrameEnoughLaw P =
    (T : AcceptedRule P) (f : Address) → NamesTile P T.rule f → (refused : P.ring.carrier → Bool) (n : ℕ)
    → n ≤ depth f → (box : OpenBox P.real.ops.carrier)
    → IsEnough P.real (Placed P.ring.carrier) (growing_frame P refused T.rule f) box n
    ↔ HoldsWindow P.real box (frame_polygon P T.rule f n)
