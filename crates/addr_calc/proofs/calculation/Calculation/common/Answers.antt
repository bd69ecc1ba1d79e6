use Rattle.std.proofs.Common.{◌++◌, ◌∷◌, refl, sym, ap, ◌∙◌, subst}
use Rattle.cyclo_points.specs.Text.{blank, newline}
use Rattle.tile_shape.specs.Views.{address_of}
use Rattle.addr_calc.specs.Calculation.{AllFit}
use Rattle.addr_calc.specs.Printed.{letter, level_text, common_line}
use Rattle.addr_calc.proofs.calculation.Calculation.common.Goals as goal

pub returns-clause-done : goal.returns-clause-done
returns-clause-done c = λ t.
    let level = c.common_level.result in
    let one = c.args.one.number in
    let other = c.args.other.number in
    record {
      printed = common_line one other level;
      does = record {
        address = address_of c.in-Some-Some.first.now;
        bound = sym c.in-Some-Some.ensures;
        second = address_of c.in-Some-Some.second.now;
        second_bound = sym c.in-Some-Some.ensures';
        level = level;
        common = c.common_level.ensures;
        keeps = c.in_ok-print.ensures.names;
        line = refl;
      };
      text = c.in_ok-print.ensures.printed
          ∙ ap (λ line. c.args.self.now.text.items ++ letter one ∷ blank ∷ line)
          (c.put-3.ensures ∙ ap (λ l. l ∷ c.put-2.new.self) c.letter.ensures
          ∙ ap (λ line. letter other ∷ line) (c.put-2.ensures ∙ ap (λ line. blank ∷ line)
          (c.put_level.ensures.level ∙ ap (λ line. level_text level ++ line) (c.put.ensures ∙ ap (λ line. newline ∷ line) c.clear.ensures))));
      number = c.in_ok-print.ensures.number;
      all_fit = λ fit. subst (AllFit t) (sym c.in_ok-print.ensures.names) fit;
    }
