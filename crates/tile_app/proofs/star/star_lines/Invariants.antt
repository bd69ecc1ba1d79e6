use Rattle.std.proofs.Common.{◌≡◌, All, map, take}
use Rattle.std.specs.List.{flat_map}
use Rattle.theory_walks.specs.Frames.{FrameValue}
use Rattle.lazy_walk.specs.Standing.{Stands}
use Rattle.rule_model.specs.Tiling.{Tiling}
use Rattle.star_walk.specs.declared.corner.Corner.{Corner}
use Rattle.star_walk.specs.Corners.{corner_in}
use Rattle.tile_app.specs.Star.{corner_line}
use Rattle.tile_app.proofs.star.star_lines.Given as goal

-- the text has the lines of the corners so far
abbrev pub invariant-loop-corner : goal.invariant-loop-corner
invariant-loop-corner l = (t : Tiling) (f : FrameValue) → All (λ (c : Corner). Stands t f c.tile) l.corners
    → l.text.items ≡ flat_map (corner_line t) (map (corner_in t.order) (take l.corner-index l.corners))
