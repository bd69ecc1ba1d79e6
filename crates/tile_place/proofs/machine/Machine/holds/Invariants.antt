use Rattle.std.proofs.Common.{◌≡◌, ◌^◌, ◌+ℤ◌, map, drop, find}
use Rattle.theory_ring.specs.Sign.{less}
use Rattle.theory_plane.specs.Crossing.{count_from, count}
use Rattle.plane_geom.specs.Spots.{reals_of, spot_of, test_of}
use Rattle.cyclo_points.specs.Order.{is_refused}
use Rattle.cyclo_points.specs.Point.{Within, IsWithin}
use Rattle.tile_place.proofs.Corners.{corner_of, corner_spot}
use Rattle.tile_place.proofs.machine.Machine.holds.Given as goal

-- what is counted, and the count of what is left, make up the whole
abbrev pub invariant-loop-i : goal.invariant-loop-i
invariant-loop-i l = record {
  counted : l.total +ℤ count_from (reals_of l.order) (test_of l.order l.point) (spot_of l.order l.first)
      (spot_of l.order l.from) (map (corner_spot l.order l.tile.scale.now l.tile.at.now) (drop l.i l.vertices))
      ≡ count (reals_of l.order) (map (corner_spot l.order l.tile.scale.now l.tile.at.now) l.vertices) (test_of l.order l.point);
  refused : find (is_refused l.order) (map (corner_of l.order l.tile.scale.now l.tile.at.now) (drop l.i l.vertices)) ≡ find
      (is_refused l.order) (map (corner_of l.order l.tile.scale.now l.tile.at.now) l.vertices);
  from_within : IsWithin (2 ^ 24) l.from;
  height : l.above ≡ less (reals_of l.order) (spot_of l.order l.point).y (spot_of l.order l.from).y;
  bounded : Within l.i l.total;
}
