use Rattle.std.proofs.Common.{inl, inr, refl, ap, ◌∙◌, subst, rules, arith}
use Rattle.rule_model.specs.Tiling.{tiling_of}
use Rattle.tile_place.specs.Crossed.{edges_of}
use Rattle.c_values.specs.Statuses.{bad_words}
use Rattle.tiling_c.specs.Shapes.{HasKind, ShowsEdges}
use Rattle.tiling_c.proofs.shapes.tiling_edges.Goals as goal

pub returns-then-kind-kinds_of-clause-shown : goal.returns-then-kind-kinds_of-clause-shown
returns-then-kind-kinds_of-clause-shown c =
    subst (λ r. ShowsEdges (tiling_of r) c.args.kind c.args.count.now bad_words) c.get-machine.ensures (record {
      edges = λ e. absurd (cc e);
      not_asked = (λ _ below. absurd (omega (arith, below, c.if-kind-kinds_of.true, c.kinds_of.ensures)), λ _. refl);
      statuses = inr refl;
    })

pub returns-clause-shown : goal.returns-clause-shown
returns-clause-shown c =
    let m = c.get-machine.result.now in
    let exists : HasKind (tiling_of m) c.args.kind = omega (arith, c.if-kind-kinds_of.false, c.kinds_of.ensures) in
    let each = c.prototile-corners.ensures.each_edge ∙ ap (λ r. edges_of (tiling_of r) c.args.kind) c.get-machine.ensures in
    record {
      edges = λ _. search (rules, each);
      not_asked = (λ e. absurd (cc e), λ none. absurd (none (subst (λ r. HasKind (tiling_of r) c.args.kind) c.get-machine.ensures exists)));
      statuses = inl refl;
    }
