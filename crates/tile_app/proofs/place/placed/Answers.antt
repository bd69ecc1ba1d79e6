use Rattle.std.proofs.Common.{◌≡◌, length, arith}
use Rattle.std.proofs.lemmas.Result.{err_from_is_err_and}
use Rattle.cyclo_points.specs.Motion.{motion_in}
use Rattle.cyclo_points.specs.Point.{point_in}
use Rattle.cyclo_points.proofs.Coefficients.{coefficients_of}
use Rattle.tile_app.proofs.place.placed.Goals as goal

pub returns-in_err-motion-clause-refused : goal.returns-in_err-motion-clause-refused
returns-in_err-motion-clause-refused c =
    let p = err_from_is_err_and c.from_residual.result c.from_residual.ensures.1 in
    let l : length c.in_err-motion.field-0.0.value.c ≡ 4 = omega arith in
    rw (p.1, p.2) (record {
      number = point_in c.args.checked.now.order c.in_err-motion.field-0.0.value;
      first = c.in_err-motion.ensures.limit;
      is_value = coefficients_of c.args.checked.now.order c.in_err-motion.field-0.0.value l c.in_err-motion.ensures.limit_in_order;
    })

pub returns-clause-printed : goal.returns-clause-printed
returns-clause-printed c = record {
  within = c.in_ok-motion.ensures.within;
  motion = motion_in c.args.checked.now.order c.in_ok-motion.motion;
  placed = c.in_ok-motion.ensures.beside;
  line = c.in_ok-place_line.ensures c.args.checked.now.order c.in_ok-motion.ensures.in_order;
}
