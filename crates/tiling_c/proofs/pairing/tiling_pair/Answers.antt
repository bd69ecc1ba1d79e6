use Rattle.std.proofs.Common.{inl, inr, refl, subst}
use Rattle.rule_model.specs.Tiling.{tiling_of}
use Rattle.c_values.specs.Statuses.{ok, bad_address}
use Rattle.tiling_c.specs.Pairing.{ShowsPair}
use Rattle.tiling_c.proofs.pairing.tiling_pair.Goals as goal

pub returns-in-Some-clause-shown : goal.returns-in-Some-clause-shown
returns-in-Some-clause-shown c =
    subst (λ r. ShowsPair (tiling_of r) c.args.a.now c.args.b.now c.in-Some.relation ok) c.get.ensures (record {
      relation = λ _. c.in-Some.ensures.relation;
      named = (λ _. c.in-Some.ensures.named.0 refl, λ _. refl);
      statuses = inl refl;
    })

pub returns-in-None-clause-shown : goal.returns-in-None-clause-shown
returns-in-None-clause-shown c =
    subst (λ r. ShowsPair (tiling_of r) c.args.a.now c.args.b.now c.args.out.now bad_address) c.get.ensures (record {
      relation = λ e. absurd (cc e);
      named = (λ e. absurd (cc e), λ w. absurd (cc (c.in-None.ensures.named.1 w)));
      statuses = inr refl;
    })
