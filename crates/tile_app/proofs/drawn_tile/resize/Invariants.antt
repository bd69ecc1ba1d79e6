use Rattle.std.proofs.Common.{◌-◌, ◌≤◌, length}
use Rattle.tile_app.proofs.drawn_tile.resize.Given as goal

-- there are never too many points
abbrev pub invariant-loop-outline : goal.invariant-loop-outline
invariant-loop-outline l = record { at_most : length l.outline.items ≤ l.count }

abbrev pub decreases-loop-outline : goal.decreases-loop-outline
decreases-loop-outline l = l.count - length l.outline.items
