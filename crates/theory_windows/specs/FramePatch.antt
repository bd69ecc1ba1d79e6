-- The tiles of a frame as a patch that grows: the frames of the base's ancestors, level by level.
use Rattle.std.specs.Prelude.{ℕ, Bool, ◌&&◌, nat_eq}
use Rattle.theory_addresses.specs.Address.{Step, Address, depth, top_kind}
use Rattle.theory_substitution.specs.Points.{Points}
use Rattle.theory_substitution.specs.Plane.{plane_point}
use Rattle.theory_substitution.specs.Motion.{moved}
use Rattle.theory_substitution.specs.Rule.{Rule}
use Rattle.theory_substitution.specs.Supertile.{Placed}
use Rattle.theory_substitution.specs.Placement.{placement}
use Rattle.theory_edge_to_edge.specs.Edges.{Edge}
use Rattle.theory_dissection.specs.Polygons.{tile_polygon, supertile_polygon}
use Rattle.theory_dissection.specs.TileEdges.{edge_of}
use Rattle.theory_frames.specs.Back.{back}
use Rattle.theory_frames.specs.Frame.{at_level, motion_beside, frame_tiles, lifted_in}
use Rattle.theory_frames.specs.Outline.{supertile_holds}
use Rattle.theory_windows.specs.Outlines.{Polygon, PlaneEdge}
use Rattle.theory_windows.specs.Patch.{Patch}
use Rattle.theory_windows.specs.GrowingPatch.{GrowingPatch}
use Rattle.theory_windows.specs.Level.{level_of}

abbrev pub is_same_step : Step → Step → Bool
is_same_step d e = nat_eq d.child e.child && nat_eq d.parent e.parent

-- the least level at which the base's ancestor has the tile: from that number on the tile's digits are the
-- frame's
abbrev pub level_in : Address → Address → ℕ
level_in f a = level_of is_same_step a.digits f.digits

-- the tiles of a frame with their outlines
abbrev pub frame_patch : (P : Points) → Rule P.ring.carrier → Address → Patch P.real (Placed P.ring.carrier)
frame_patch P r f = record { tiles = frame_tiles P r f; outline = tile_polygon P r (λ z. z) }

-- with the level of each, and whether its shift is refused
abbrev pub growing_frame : (P : Points) → (P.ring.carrier → Bool) → Rule P.ring.carrier → Address
    → GrowingPatch P.real (Placed P.ring.carrier)
growing_frame P refused r f = record {
  patch = frame_patch P r f;
  level = λ t. level_in f t.address;
  refused = λ t. refused t.motion.shift;
}

-- the polygon of the frame of the base's ancestor at a level: the supertile's, moved back as its tiles are
abbrev pub frame_polygon : (P : Points) → Rule P.ring.carrier → Address → ℕ → Polygon P.real
frame_polygon P r f n =
    supertile_polygon P r (moved P (back P (placement P r (at_level f n).digits))) (top_kind (at_level f n)) n

-- the frame of the base's ancestor at a level holds a point
abbrev pub frame_holds : (P : Points) → Rule P.ring.carrier → Address → ℕ → P.ring.carrier → Bool
frame_holds P r f n p =
    supertile_holds P r (top_kind (at_level f n)) n (back P (placement P r (at_level f n).digits)) p

-- a tile of the frame of the base's ancestor, as one of the whole frame: its address is lifted, and its place
-- stays the same
abbrev pub tile_of_ancestor : {A : Type 0} → Address → Placed A → Placed A
tile_of_ancestor f t = record { address = lifted_in f t.address; motion = t.motion }

-- the tile that an address names in the frame of the base's ancestor of the same depth, lifted
abbrev pub in_frame : (P : Points) → Rule P.ring.carrier → Address → Address → Placed P.ring.carrier
in_frame P r f a = record {
  address = lifted_in f a;
  motion = motion_beside P r (at_level f (depth a)).digits a.digits;
}

-- where an edge between two points lies, and edge number e of a tile
abbrev pub plane_edge : (P : Points) → Edge P.ring.carrier → PlaneEdge P.real
plane_edge P e = record { from = plane_point P e.from; to = plane_point P e.to }

abbrev pub line_of : (P : Points) → Rule P.ring.carrier → Placed P.ring.carrier → ℕ → PlaneEdge P.real
line_of P r t e = plane_edge P (edge_of P r t e)
