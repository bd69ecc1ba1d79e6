-- What a search for the tiles of a window uses of the frame in which it goes on: names that growth does not
-- change, crossings that grow the frame, and the least ancestor that holds a point.
use Rattle.std.specs.Prelude.{◌≡◌, ◌↔◌, ℕ, ◌+◌, ◌<◌, ◌≤◌, max, Bool, true, List, IsTrue}
use Rattle.theory_plane.specs.Plane.{test_point}
use Rattle.theory_plane.specs.Crossing.{member}
use Rattle.theory_addresses.specs.Address.{Step, Address, depth}
use Rattle.theory_addresses.specs.Search.{IsAmong}
use Rattle.theory_addresses.specs.Tables.{child_kinds}
use Rattle.theory_substitution.specs.Points.{Points}
use Rattle.theory_substitution.specs.Plane.{plane_point}
use Rattle.theory_substitution.specs.Motion.{Motion, followed}
use Rattle.theory_substitution.specs.RuleParts.{edge_count}
use Rattle.theory_substitution.specs.Supertile.{Placed}
use Rattle.theory_edge_to_edge.specs.Contacts.{tables_of}
use Rattle.theory_dissection.specs.Accepted.{AcceptedRule, NamesTile}
use Rattle.theory_dissection.specs.Across.{IsTileAcross}
use Rattle.theory_dissection.specs.Glue.{IsGlueMotion}
use Rattle.theory_dissection.specs.OnBoundary.{IsOnBoundary}
use Rattle.theory_dissection.specs.Polygons.{tile_polygon}
use Rattle.theory_dissection.specs.TileEdges.{tile_at}
use Rattle.theory_frames.specs.Contain.{ancestor_holds}
use Rattle.theory_frames.specs.Frame.{at_level, frame_tiles, IsTileOf, lifted_in}
use Rattle.theory_frames.specs.Growth.{grown_by}
use Rattle.theory_windows.specs.PatchWindow.{LiesAcross}
use Rattle.theory_windows.specs.FramePatch.{frame_holds, level_in, growing_frame, in_frame, line_of}
use Rattle.theory_windows.specs.FrameLaws.{IsEdgeInFrame}

-- ---- names
-- the frame of the base's ancestor at a level is the frame before it grew beyond
abbrev pub GrownLevelLaw : Type 0
GrownLevelLaw =
    (uses : ℕ → List Step) (word : ℕ → ℕ) (m n : ℕ) (base : Address)
    → at_level (grown_by uses word (m + n) base) (depth base + m) ≡ grown_by uses word m base

-- a tile that is lifted in the frame before it grew has the same name
abbrev pub RenamedLaw : Points → Type 0
RenamedLaw P =
    (T : AcceptedRule P) (f : Address) → NamesTile P T.rule f → (n : ℕ) → n ≤ depth f → (a : Address)
    → IsTileOf (child_kinds (tables_of P T.rule)) (at_level f n) a
    → IsTileOf (child_kinds (tables_of P T.rule)) f (lifted_in (at_level f n) a)
    × (in_frame P T.rule f (lifted_in (at_level f n) a) ≡ in_frame P T.rule f a)

-- all tiles of the frame are there at its own depth
abbrev pub AtDepthLaw : Points → Type 0
AtDepthLaw P = (T : AcceptedRule P) (f : Address) → NamesTile P T.rule f → (t : Placed P.ring.carrier)
    → IsAmong t (frame_tiles P T.rule f) → level_in f t.address ≤ depth f

-- a tile is known by its kind and its motion
abbrev pub KnownLaw : Points → Type 0
KnownLaw P =
    (T : AcceptedRule P) (f : Address) → NamesTile P T.rule f → (t u : Placed P.ring.carrier)
    → IsAmong t (frame_tiles P T.rule f) → IsAmong u (frame_tiles P T.rule f)
    → t.address.kind ≡ u.address.kind → t.motion ≡ u.motion → t ≡ u

-- ---- crossings
-- the tile across an edge in the supertile lies across it in the frame
abbrev pub FrameAcrossLaw : Points → Type 0
FrameAcrossLaw P =
    (T : AcceptedRule P) (f a : Address) (e : ℕ) → IsEdgeInFrame P T f a e → (b : Address) (g : ℕ)
    → IsTileAcross P T.rule (tile_at P T.rule a) e (tile_at P T.rule b) g
    → (refused : P.ring.carrier → Bool)
    → LiesAcross P.real (Placed P.ring.carrier) (growing_frame P refused T.rule f)
    (line_of P T.rule (in_frame P T.rule f a) e) (in_frame P T.rule f b)

-- edge e of the tile a, of the frame at depth m, is crossed at depth n to edge g of the tile b; at each
-- lesser depth from m on it is on the boundary
pub record IsGrownCrossing (P : Points) (T : AcceptedRule P) (f : Address) (m n : ℕ) (a : Address) (e : ℕ)
    (b : Address) (g : ℕ) : Type 0 where
  pub frame : NamesTile P T.rule f
  pub not_below : m ≤ n
  pub within : n ≤ depth f
  pub tile : IsTileOf (child_kinds (tables_of P T.rule)) (at_level f m) a
  pub edge_exists : e < edge_count T.rule a.kind
  pub across : IsTileAcross P T.rule (tile_at P T.rule (lifted_in (at_level f n) a)) e (tile_at P T.rule b) g
  pub least : (k : ℕ) → m ≤ k → k < n
      → (own : ℕ) × (part : ℕ)
      × IsOnBoundary P T.rule (tile_at P T.rule (lifted_in (at_level f k) a)) e own part

-- so the frame grows to the level of the tile across, unless it is as deep already
abbrev pub GrownCrossingLaw : Points → Type 0
GrownCrossingLaw P =
    (T : AcceptedRule P) (f : Address) (m n : ℕ) (a : Address) (e : ℕ) (b : Address) (g : ℕ)
    → IsGrownCrossing P T f m n a e b g → (refused : P.ring.carrier → Bool)
    → LiesAcross P.real (Placed P.ring.carrier) (growing_frame P refused T.rule f)
    (line_of P T.rule (in_frame P T.rule f a) e) (in_frame P T.rule f b)
    × (max m (level_in f (lifted_in f b)) ≡ n)

-- and the motion of the tile across is the one that glues the two edges, followed by that of the edge's own
-- tile
abbrev pub GluedCrossingLaw : Points → Type 0
GluedCrossingLaw P =
    (T : AcceptedRule P) (f : Address) (m n : ℕ) (a : Address) (e : ℕ) (b : Address) (g : ℕ)
    → IsGrownCrossing P T f m n a e b g
    → (k : Motion P.ring.carrier) → IsGlueMotion P T.rule a.kind e b.kind g k
    → (in_frame P T.rule f b).motion ≡ followed P k (in_frame P T.rule f a).motion

-- if the edge is on the boundary at the frame's own depth, no tile at all lies across it
abbrev pub LastBoundaryLaw : Points → Type 0
LastBoundaryLaw P =
    (T : AcceptedRule P) (f a : Address) (e : ℕ) → IsEdgeInFrame P T f a e → (own part : ℕ)
    → IsOnBoundary P T.rule (tile_at P T.rule (lifted_in f a)) e own part
    → (refused : P.ring.carrier → Bool) (u : Placed P.ring.carrier)
    → ¬ LiesAcross P.real (Placed P.ring.carrier) (growing_frame P refused T.rule f)
    (line_of P T.rule (in_frame P T.rule f a) e) u

-- ---- the tile that holds a point
-- the frame holds it at the depths from the tile's level on
abbrev pub HolderLevelLaw : Points → Type 0
HolderLevelLaw P =
    (T : AcceptedRule P) (f : Address) → NamesTile P T.rule f → (t : Placed P.ring.carrier)
    → IsAmong t (frame_tiles P T.rule f)
    → (p : P.ring.carrier)
    → IsTrue (member P.real (tile_polygon P T.rule (λ z. z) t) (test_point P.real.ops (plane_point P p)))
    → (n : ℕ) → n ≤ depth f → (frame_holds P T.rule f n p ≡ true) ↔ (level_in f t.address ≤ n)

-- and these are the levels at which the base's ancestor, found from level to level, holds it
abbrev pub AncestorHoldsLaw : Points → Type 0
AncestorHoldsLaw P = (T : AcceptedRule P) (f : Address) (n : ℕ) (p : P.ring.carrier)
    → ancestor_holds P T.rule f n p ≡ frame_holds P T.rule f n p
