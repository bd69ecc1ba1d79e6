-- What the program keeps of an edge in a half plane.
use Rattle.std.specs.Prelude.{◌≡◌, ◌^◌}
use Rattle.std.specs.Ordering.{is_gt}
use Rattle.cyclo_points.specs.declared.order.Order.{Order}
use Rattle.cyclo_points.specs.Order.{points_of}
use Rattle.cyclo_points.specs.Real.{RealOf, real_in, IsRealWithin}
use Rattle.plane_geom.specs.declared.half_plane.Measured.{Measured}
use Rattle.theory_plane.specs.BoxTest.{Depths}

-- how far the two ends are inside the half plane
abbrev pub depths_in : (o : Order) → Measured → Depths (RealOf o)
depths_in o f = record { at_start = real_in o f.start; at_end = real_in o f.end }

-- the depths are small, and the two tests say which are positive
pub record IsMeasured (o : Order) (f : Measured) : Type 0 where
  pub start_within : IsRealWithin (2 ^ 29) f.start
  pub end_within : IsRealWithin (2 ^ 29) f.end
  pub at_start : f.starts_inside ≡ is_gt ((points_of o).real.sign (real_in o f.start))
  pub at_end : f.ends_inside ≡ is_gt ((points_of o).real.sign (real_in o f.end))
