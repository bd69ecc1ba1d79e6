use Rattle.std.proofs.Common.{inl, inr, refl, subst, arith}
use Rattle.c_values.specs.Outlines.{HoldsOutline}
use Rattle.c_values.specs.Statuses.{ok, bad_words}
use Rattle.tiling_c.specs.Shapes.{ShowsPrototile}
use Rattle.tiling_c.proofs.shapes.tiling_prototile.Goals as goal

pub returns-then-kind-kinds_of-clause-shown : goal.returns-then-kind-kinds_of-clause-shown
returns-then-kind-kinds_of-clause-shown c =
    subst (λ r. ShowsPrototile r c.args.kind c.args.out.now c.args.out.now bad_words) c.get-machine.ensures (record {
      corners = λ e. absurd (cc e);
      not_asked = (λ _ below. absurd (omega (arith, below, c.if-kind-kinds_of.true, c.kinds_of.ensures)), λ _. refl);
      statuses = inr refl;
    })

pub returns-clause-shown : goal.returns-clause-shown
returns-clause-shown c =
    subst (λ r. ShowsPrototile r c.args.kind c.args.out.now c.write.new.self ok) c.get-machine.ensures (record {
      corners = λ _. subst (λ ps. HoldsOutline ps c.args.out.now c.write.new.self) c.prototile.ensures.lists c.write.ensures;
      not_asked = (λ e. absurd (cc e), λ none. absurd (none (omega (arith, c.if-kind-kinds_of.false, c.kinds_of.ensures))));
      statuses = inl refl;
    })
