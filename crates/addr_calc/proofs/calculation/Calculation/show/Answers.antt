use Rattle.std.proofs.Common.{◌++◌, ◌∷◌, refl, sym, ap, ◌∙◌, subst}
use Rattle.cyclo_points.specs.Text.{blank, newline}
use Rattle.tile_shape.specs.Text.{address_text}
use Rattle.tile_shape.specs.Views.{address_of}
use Rattle.addr_calc.specs.Calculation.{AllFit}
use Rattle.addr_calc.specs.Printed.{letter, show_line}
use Rattle.addr_calc.proofs.calculation.Calculation.show.Goals as goal

pub returns-clause-done : goal.returns-clause-done
returns-clause-done c = λ t.
    let a = address_of c.in-Some.address.now in
    let n = c.args.name.number in
    record {
      printed = show_line n a;
      does = record { address = a; bound = sym c.in-Some.ensures; keeps = c.in_ok-print.ensures.names; line = refl };
      text = c.in_ok-print.ensures.printed
          ∙ ap (λ line. c.args.self.now.text.items ++ letter n ∷ blank ∷ line)
          (c.put_address.ensures.address ∙ ap (λ line. address_text a ++ line) (c.put.ensures ∙ ap (λ line. newline ∷ line) c.clear.ensures));
      number = c.in_ok-print.ensures.number;
      all_fit = λ fit. subst (AllFit t) (sym c.in_ok-print.ensures.names) fit;
    }
