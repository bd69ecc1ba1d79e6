use Rattle.std.proofs.Common.{ℕ, ◌<◌, ◌^◌, get_or}
use Rattle.cyclo_points.specs.Point.{IsWithin}
use Rattle.tile_place.specs.declared.placed_tile.PlacedTile.{PlacedTile}
use Rattle.trial_tiles.proofs.window_wholes.none_of_them_refused.Given as goal

-- none of those before is refused
abbrev pub invariant-loop-number : goal.invariant-loop-number
invariant-loop-number l = (k : ℕ) (d : PlacedTile) → k < l.number → IsWithin (2 ^ 24) (get_or l.tiles k d).motion.shift
