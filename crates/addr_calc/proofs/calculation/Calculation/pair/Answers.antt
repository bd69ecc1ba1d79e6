use Rattle.std.proofs.Common.{◌++◌, ◌∷◌, refl, sym, ap, ◌∙◌, subst}
use Rattle.cyclo_points.specs.Text.{blank, newline}
use Rattle.rule_model.specs.Tiling.{tiling_of}
use Rattle.tile_shape.specs.Views.{address_of}
use Rattle.addr_calc.specs.Calculation.{AllFit}
use Rattle.addr_calc.specs.Printed.{letter, relation_text, pair_line}
use Rattle.addr_calc.specs.Views.{relation_of}
use Rattle.addr_calc.proofs.calculation.Calculation.pair.Goals as goal

pub decide-requires : goal.decide-requires
decide-requires c = record {
  compiled = c.requires.ready.compiled;
  fit = record {
    one = c.requires.ready.all_fit c.args.one.number (address_of c.in-Some-Some.first.now) (sym c.in-Some-Some.ensures);
    other = c.requires.ready.all_fit c.args.other.number (address_of c.in-Some-Some.second.now) (sym c.in-Some-Some.ensures');
  };
}

pub returns-clause-done : goal.returns-clause-done
returns-clause-done c =
    let relation = relation_of c.in_ok-verdict.verdict in
    let one = c.args.one.number in
    let other = c.args.other.number in
    record {
      printed = pair_line one other relation;
      does = record {
        address = address_of c.in-Some-Some.first.now;
        bound = sym c.in-Some-Some.ensures;
        second = address_of c.in-Some-Some.second.now;
        second_bound = sym c.in-Some-Some.ensures';
        relation = relation;
        is_relation = c.in_ok-verdict.ensures.relation;
        keeps = c.in_ok-print.ensures.names;
        line = refl;
      };
      text = c.in_ok-print.ensures.printed
          ∙ ap (λ line. c.args.self.now.text.items ++ letter one ∷ blank ∷ line)
          (c.put-2.ensures ∙ ap (λ l. l ∷ c.put_relation.new.line) c.letter.ensures
          ∙ ap (λ line. letter other ∷ line) (c.put_relation.ensures.relation
          ∙ ap (λ line. relation_text relation ++ line)
          (c.put.ensures ∙ ap (λ line. newline ∷ line) c.clear.ensures)));
      number = c.in_ok-print.ensures.number;
      all_fit = λ fit. subst (AllFit (tiling_of c.args.machine.now)) (sym c.in_ok-print.ensures.names) fit;
    }
