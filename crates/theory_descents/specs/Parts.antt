-- The tiles of a supertile that is moved, by its parts: the tiles of each part, with one digit more; the
-- polygon of a part; and the tiles of a part that meet a box.
use Rattle.std.specs.Prelude.{ℕ, zero, suc, Bool, List, [], ◌∷◌, map}
use Rattle.std.specs.List.{flat_map, filter, enumerate_from}
use Rattle.theory_ring.specs.Ring.{power}
use Rattle.theory_plane.specs.Box.{OpenBox}
use Rattle.theory_addresses.specs.Address.{Step}
use Rattle.theory_substitution.specs.Points.{Points}
use Rattle.theory_substitution.specs.Plane.{plane_point}
use Rattle.theory_substitution.specs.Motion.{Motion}
use Rattle.theory_substitution.specs.Rule.{Child, Rule, children_of}
use Rattle.theory_substitution.specs.Supertile.{Placed}
use Rattle.theory_dissection.specs.Polygons.{tile_polygon}
use Rattle.theory_frames.specs.Descent.{of_whole}
use Rattle.theory_frames.specs.Outline.{outline}
use Rattle.theory_frames.specs.Part.{child_motion}
use Rattle.theory_windows.specs.Outlines.{Polygon}
use Rattle.theory_descents.specs.MeetingTest.{polygon_meets}

-- the digit of child number i of kind k
abbrev pub digit : ℕ → ℕ → List Step
digit i k = record { child = i; parent = k } ∷ []

-- the tile of kind k, moved by m
abbrev pub one_tile : {A : Type 0} → ℕ → Motion A → Placed A
one_tile k m = record { address = record { kind = k; digits = [] }; motion = m }

-- the tiles of the supertile of kind k and depth n, moved by m
abbrev pub tiles_below : (P : Points) → Rule P.ring.carrier → ℕ → ℕ → Motion P.ring.carrier
    → List (Placed P.ring.carrier)
tiles_below P r k zero m = one_tile k m ∷ []
tiles_below P r k (suc n) m =
    flat_map (λ (c : ℕ × Child P.ring.carrier). map (of_whole (digit c.0 k))
    (tiles_below P r c.1.kind n (child_motion P r (power P.ring r.factor n) m c.1)))
    (enumerate_from 0 (children_of r k))

-- the polygon of that supertile
abbrev pub part_polygon : (P : Points) → Rule P.ring.carrier → ℕ → ℕ → Motion P.ring.carrier → Polygon P.real
part_polygon P r k n m = map (plane_point P) (outline P r k (power P.ring r.factor n) m)

-- whether a tile meets the box
abbrev pub tile_meets : (P : Points) → Rule P.ring.carrier → OpenBox P.real.ops.carrier
    → Placed P.ring.carrier → Bool
tile_meets P r box t = polygon_meets P.real box (tile_polygon P r (λ z. z) t)

-- the tiles that do
abbrev pub drawn_below : (P : Points) → Rule P.ring.carrier → OpenBox P.real.ops.carrier → ℕ → ℕ
    → Motion P.ring.carrier → List (Placed P.ring.carrier)
drawn_below P r box k n m = filter (tile_meets P r box) (tiles_below P r k n m)
