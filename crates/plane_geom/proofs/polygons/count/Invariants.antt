use Rattle.std.proofs.Common.{◌≡◌, ◌^◌, ◌+ℤ◌, drop}
use Rattle.cyclo_points.specs.Point.{Within, IsWithin}
use Rattle.theory_ring.specs.Sign.{less}
use Rattle.theory_plane.specs.Crossing.{count_from, count}
use Rattle.plane_geom.specs.Spots.{reals_of}
use Rattle.plane_geom.specs.Spots.{spot_of, spots_of, test_of}
use Rattle.plane_geom.proofs.polygons.count.Given as goal

-- what is counted, and the count of what is left, make up the whole
abbrev pub invariant-loop-i : goal.invariant-loop-i
invariant-loop-i l = record {
  counted : l.total +ℤ count_from (reals_of l.order) (test_of l.order l.p) (spot_of l.order l.first)
      (spot_of l.order l.from) (spots_of l.order (drop l.i l.poly))
      ≡ count (reals_of l.order) (spots_of l.order l.poly) (test_of l.order l.p);
  from_within : IsWithin (2 ^ 25) l.from;
  height : l.above ≡ less (reals_of l.order) (spot_of l.order l.p).y (spot_of l.order l.from).y;
  bounded : Within l.i l.total;
}
