use Rattle.std.proofs.Common.{◌≡◌, ◌++◌, ◌∷◌, length, decimal, refl, sym, ap, ◌∙◌, subst, arith}
use Rattle.cyclo_points.specs.Motion.{motion_in}
use Rattle.cyclo_points.specs.Point.{point_in}
use Rattle.cyclo_points.specs.Text.{blank, motion_text, point_text, number_text, newline}
use Rattle.cyclo_points.proofs.Coefficients.{point_text-number, coefficients_of, pieces_of_line}
use Rattle.rule_model.specs.Tiling.{tiling_of}
use Rattle.tile_shape.specs.Views.{address_of}
use Rattle.addr_calc.specs.Calculation.{AllFit}
use Rattle.addr_calc.specs.Printed.{letter, line_of_place}
use Rattle.addr_calc.proofs.calculation.Calculation.place.Goals as goal

pub place-requires : goal.place-requires
place-requires c = record { fits = c.requires.all_fit c.args.name.number (address_of c.in-Some.address.now) (sym c.in-Some.ensures) }

pub returns-in_ok-print-in-Ok-clause-done : goal.returns-in_ok-print-in-Ok-clause-done
returns-in_ok-print-in-Ok-clause-done c =
    let t = tiling_of c.args.machine.now in
    let o = c.args.machine.now.order in
    let a = address_of c.in-Some.address.now in
    let m = c.in-Ok.motion in
    let n = c.args.name.number in
    record {
      printed = line_of_place o n a.kind (motion_in o m);
      does = record {
        address = a;
        bound = sym c.in-Some.ensures;
        within = c.in-Ok.ensures.within;
        motion = motion_in o m;
        placed = c.in-Ok.ensures.beside;
        keeps = c.in_ok-print-in-Ok.ensures.names;
        line = refl;
      };
      text = c.in_ok-print-in-Ok.ensures.printed
          ∙ ap (λ line. c.args.self.now.text.items ++ letter n ∷ blank ∷ line)
          (c.put_small.ensures.number
          ∙ ap (λ line. decimal a.kind ++ line) (c.put-in-Ok.ensures
          ∙ ap (λ line. blank ∷ line) (c.put_motion.ensures.motion
          ∙ ap (λ line. motion_text m ++ line) (c.put.ensures
          ∙ ap (λ line. newline ∷ line) c.clear.ensures)))
          ∙ pieces_of_line (decimal a.kind) (decimal m.turn) (point_text m.shift)
          (number_text o (point_in o m.shift)) (point_text-number o m.shift c.in-Ok.ensures.in_order));
      number = c.in_ok-print-in-Ok.ensures.number;
      all_fit = λ fit. subst (AllFit t) (sym c.in_ok-print-in-Ok.ensures.names) fit;
    }

pub returns-in-Err-clause-refused : goal.returns-in-Err-clause-refused
returns-in-Err-clause-refused c =
    let o = c.args.machine.now.order in
    let l : length c.in-Err.limit.value.c ≡ 4 = omega arith in (
      refl,
      record {
        address = address_of c.in-Some.address.now;
        bound = sym c.in-Some.ensures;
        number = point_in o c.in-Err.limit.value;
        first = c.in-Err.ensures.limit;
        is_value = coefficients_of o c.in-Err.limit.value l c.in-Err.ensures.limit_in_order;
      },
    )
