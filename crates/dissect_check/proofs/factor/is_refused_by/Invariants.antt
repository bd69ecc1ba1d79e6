use Rattle.std.proofs.Common.{◌≡◌, false}
use Rattle.theory_ring.specs.Ring.{power}
use Rattle.theory_addresses.specs.Search.{some_below}
use Rattle.cyclo_points.specs.Order.{points_of}
use Rattle.cyclo_points.specs.Point.{point_in, IsOf}
use Rattle.dissect_check.proofs.Powers.{is_refused_at}
use Rattle.dissect_check.proofs.factor.is_refused_by.Given as goal

abbrev pub invariant-loop-exponent : goal.invariant-loop-exponent
invariant-loop-exponent l = record {
  none_refused : some_below l._exponent (is_refused_at l.order l.factor) ≡ false;
  value : point_in l.order l.power ≡ power (points_of l.order).ring (point_in l.order l.factor) l._exponent;
  in_order : IsOf l.order l.power;
}
