use Rattle.std.proofs.Common.{◌≡◌, map, drop, find}
use Rattle.cyclo_points.specs.Order.{is_refused}
use Rattle.tile_place.proofs.Corners.{corner_of}
use Rattle.tile_place.proofs.machine.Machine.look_round.Given as goal

-- no vertex behind is refused
abbrev pub invariant-loop-i : goal.invariant-loop-i
invariant-loop-i l = record {
  refused : find (is_refused l.order) (map (corner_of l.order l.tile.scale.now l.tile.at.now) (drop l.i l.vertices)) ≡ find
      (is_refused l.order) (map (corner_of l.order l.tile.scale.now l.tile.at.now) l.vertices);
}
