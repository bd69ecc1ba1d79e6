use Rattle.std.proofs.Common.{◌≡◌, ◌+◌, ◌-◌, ◌++◌, ◌^◌, All, length, map, find}
use Rattle.theory_ring.specs.Ring.{power}
use Rattle.theory_frames.specs.Looked.{powers_from}
use Rattle.cyclo_points.specs.Order.{points_of, is_refused}
use Rattle.cyclo_points.specs.Point.{point_in, IsWithin}
use Rattle.tile_place.proofs.machine.Machine.powers.Given as goal

abbrev pub invariant-loop-i : goal.invariant-loop-i
invariant-loop-i l = record {
  last : point_in l.order l.power ≡ power (points_of l.order).ring (point_in l.order l.factor) l.i;
  seen : map (point_in l.order) l.powers.items ++ powers_from (points_of l.order) (point_in l.order l.factor) (l.i + 1) (l.depth - l.i)
      ≡ powers_from (points_of l.order) (point_in l.order l.factor) 0 (l.depth + 1);
  first : find (is_refused l.order) (powers_from (points_of l.order) (point_in l.order l.factor) (l.i + 1) (l.depth - l.i))
      ≡ find (is_refused l.order) (powers_from (points_of l.order) (point_in l.order l.factor) 0 (l.depth + 1));
  within : All (IsWithin (2 ^ 24)) l.powers.items;
  small : IsWithin (2 ^ 24) l.power;
  count : length l.powers.items ≡ l.i + 1;
}
