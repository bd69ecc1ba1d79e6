use Rattle.std.proofs.Common.{[], refl, sym, ap, ◌∙◌, subst, append-nil}
use Rattle.rule_model.specs.Tiling.{tiling_of, children}
use Rattle.tile_shape.specs.Accepted.{IsAcceptedAddress}
use Rattle.tile_shape.specs.Views.{address_of}
use Rattle.addr_calc.proofs.Names.{bind_fits}
use Rattle.addr_calc.proofs.calculation.Calculation.bind.Goals as goal

pub returns-in-Ok-clause-done : goal.returns-in-Ok-clause-done
returns-in-Ok-clause-done c =
    let t = tiling_of c.args.machine.now in
    let a = address_of c.in-Ok.address in
    let accepted : IsAcceptedAddress (children t) a =
    subst (λ rows. IsAcceptedAddress rows a) (c.uses.ensures ∙ ap (λ m. children (tiling_of m)) c.checked.ensures.rule) c.in-Ok.ensures.read.0 in
    record {
      printed = [];
      does = record { address = a; accepted = accepted; its_text = c.in-Ok.ensures.read.1; binds = c.bind.ensures; silent = refl };
      text = sym (append-nil c.args.self.now.text.items);
      number = refl;
      all_fit = λ fit. subst (Rattle.addr_calc.specs.Calculation.AllFit t) (sym c.bind.ensures)
          (bind_fits t c.args.self.now.names c.args.name.number a accepted.fits fit);
    }
