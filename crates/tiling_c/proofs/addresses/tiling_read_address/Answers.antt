use Rattle.std.proofs.Common.{inl, inr, refl, sym, ap, ◌∙◌, subst}
use Rattle.rule_model.specs.Tiling.{tiling_of, children}
use Rattle.theory_addresses.specs.Address.{Address, Fits}
use Rattle.c_values.specs.Addresses.{address_in}
use Rattle.tiling_c.proofs.TextGiven.{ok_read, ok_not_refused, refused_not_ok}
use Rattle.tiling_c.proofs.addresses.tiling_read_address.Goals as goal

pub returns-in-Ok-clause-shown : goal.returns-in-Ok-clause-shown
returns-in-Ok-clause-shown c =
    let uses = c.uses.ensures ∙ ap (λ r. children (tiling_of r)) (c.checked.ensures.rule ∙ c.get.ensures) in
    record {
      read = λ _. ok_read _ _ c.args.text.now _ _ uses c.in-Ok.ensures.exact (sym c.write.ensures.its_digits);
      names = λ _. record {
        no_deeper = c.write.ensures.no_deeper;
        fits = subst (λ kinds. Fits kinds (address_in c.write.new.self)) uses
            (subst (λ (a : Address). Fits c.uses.result.now a) (sym c.write.ensures.its_digits) c.in-Ok.ensures.read.0.fits);
      };
      names_none = ok_not_refused _ _ c.args.text.now _ uses c.in-Ok.ensures.exact;
      statuses = inl refl;
    }

pub returns-in-Err-clause-shown : goal.returns-in-Err-clause-shown
returns-in-Err-clause-shown c =
    let uses = c.uses.ensures ∙ ap (λ r. children (tiling_of r)) (c.checked.ensures.rule ∙ c.get.ensures) in
    record {
      read = λ e. absurd (cc e);
      names = λ e. absurd (cc e);
      names_none = refused_not_ok _ _ c.args.text.now _ uses c.in-Err.ensures.exact;
      statuses = inr refl;
    }
