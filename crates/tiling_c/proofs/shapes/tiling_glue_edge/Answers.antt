use Rattle.std.proofs.Common.{ℕ, inl, inr, refl, subst, arith}
use Rattle.rule_model.specs.Glue.{IsGlueEdge, IsOnlyGlueEdge}
use Rattle.rule_model.specs.Tiling.{tiling_of}
use Rattle.rule_model.specs.Views.{rule_of}
use Rattle.c_values.specs.Statuses.{ok, bad_words, no_edge}
use Rattle.tiling_c.specs.Shapes.{HasKind, ShowsGlueEdge}
use Rattle.tiling_c.proofs.shapes.tiling_glue_edge.Goals as goal

pub returns-then-kind-kinds_of-clause-shown : goal.returns-then-kind-kinds_of-clause-shown
returns-then-kind-kinds_of-clause-shown c =
    let none : ¬ HasKind (tiling_of c.get-machine.result.now) c.args.kind =
    λ below. absurd (omega (arith, below, c.if-kind-kinds_of.true, c.kinds_of.ensures)) in
    subst (λ r. ShowsGlueEdge (tiling_of r) c.args.kind c.args.edge.now bad_words) c.get-machine.ensures (record {
      only = λ e. absurd (cc e);
      lacks_edge = (λ e. absurd (cc e), λ w. absurd (none w.0));
      not_asked = (λ _. none, λ _. refl);
      statuses = inr (inl refl);
    })

pub returns-in-Some-clause-shown : goal.returns-in-Some-clause-shown
returns-in-Some-clause-shown c =
    let only = subst (λ r. IsOnlyGlueEdge (rule_of r) c.args.kind c.in-Some.number) c.checked.ensures.rule c.in-Some.ensures.only in
    subst (λ r. ShowsGlueEdge (tiling_of r) c.args.kind c.in-Some.number ok) c.get-machine.ensures (record {
      only = λ _. only;
      lacks_edge = (λ e. absurd (cc e), λ w. absurd (w.1 c.in-Some.number only.glue_edge));
      not_asked = (λ e. absurd (cc e), λ none. absurd (none (omega (arith, c.if-kind-kinds_of.false, c.kinds_of.ensures))));
      statuses = inl refl;
    })

pub returns-in-None-clause-shown : goal.returns-in-None-clause-shown
returns-in-None-clause-shown c =
    let exists : HasKind (tiling_of c.get-machine.result.now) c.args.kind = omega (arith, c.if-kind-kinds_of.false, c.kinds_of.ensures) in
    let none = subst (λ r. (e : ℕ) → ¬ IsGlueEdge (rule_of r) c.args.kind e) c.checked.ensures.rule (c.in-None.ensures.none.0 refl) in
    subst (λ r. ShowsGlueEdge (tiling_of r) c.args.kind c.args.edge.now no_edge) c.get-machine.ensures (record {
      only = λ e. absurd (cc e);
      lacks_edge = (λ _. (exists, none), λ _. refl);
      not_asked = (λ e. absurd (cc e), λ other. absurd (other exists));
      statuses = inr (inr refl);
    })
