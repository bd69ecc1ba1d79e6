use Rattle.std.proofs.Common.{ap, ◌∙◌, subst}
use Rattle.theory_addresses.specs.Coherent.{IsCoherent}
use Rattle.pair_machine.specs.Verdicts.{IsPairVerdict}
use Rattle.rule_model.specs.declared.rule.Rule.{Rule}
use Rattle.rule_model.specs.Tiling.{tiling_of, contacts}
use Rattle.tile_place.proofs.Plane.{OnlyTilesLaw, IsSettled}
use Rattle.tile_shape.specs.Views.{address_of}
use Rattle.addr_calc.proofs.Related.{related}
use Rattle.addr_calc.proofs.pairs.decide.Goals as goal

pub returns : goal.returns
returns c =
    let m = c.args.machine.now in
    let a = address_of c.args.one.now in
    let b = address_of c.args.other.now in
    let settled : IsSettled m = record {
      accepted = c.checked.ensures.accepted;
      usable = c.checked.ensures.usable;
      same_child_kinds = c.checked.ensures.same_child_kinds;
    } in
    let law = subst OnlyTilesLaw (c.order.ensures.order ∙ ap (λ (r : Rule). r.order) c.checked.ensures.rule) c.across_law.ensures in
    let coherent = subst IsCoherent (c.tables.ensures.contacts
    ∙ ap (λ (r : Rule). contacts (tiling_of r)) c.checked-2.ensures.rule)
    c.kinds-coherent.ensures.coherent in
    related m settled law coherent a b c.requires.fit.one c.requires.fit.other c.decide.result
    (subst (λ t. IsPairVerdict t a b c.decide.result) c.requires.tables c.decide.ensures.verdict)
