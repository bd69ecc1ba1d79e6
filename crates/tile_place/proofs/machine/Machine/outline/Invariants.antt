use Rattle.std.proofs.Common.{◌≡◌, ◌++◌, ◌^◌, All, length, map, drop, find}
use Rattle.cyclo_points.specs.Order.{is_refused}
use Rattle.cyclo_points.specs.Point.{point_in, IsOf, IsWithin}
use Rattle.tile_place.proofs.Corners.{corner_of}
use Rattle.tile_place.proofs.machine.Machine.outline.Given as goal

abbrev pub invariant-loop-vertex : goal.invariant-loop-vertex
invariant-loop-vertex l = record {
  seen : map (point_in l.order) l.corners.items
      ++ map (corner_of l.order l.scale l.at) (drop l.vertex-index l.vertices) ≡ map
      (corner_of l.order l.scale l.at) l.vertices;
  first : find (is_refused l.order) (map (corner_of l.order l.scale l.at) (drop l.vertex-index l.vertices))
      ≡ find (is_refused l.order) (map (corner_of l.order l.scale l.at) l.vertices);
  within : All (IsWithin (2 ^ 24)) l.corners.items;
  in_order : All (IsOf l.order) l.corners.items;
  count : length l.corners.items ≡ l.vertex-index;
}
