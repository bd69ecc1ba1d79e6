use Rattle.std.proofs.Common.{◌∙◌, ap, subst}
use Rattle.rule_model.specs.declared.rule.Rule.{Rule}
use Rattle.tile_place.proofs.Gluing.{GlueLawOf, gluing}
use Rattle.tile_place.proofs.machine.Machine.gluing_law.Goals as goal

pub returns : goal.returns
returns c =
    gluing c.args.self.now (record {
      accepted = c.checked.ensures.accepted;
      usable = c.checked.ensures.usable;
      same_child_kinds = c.checked.ensures.same_child_kinds;
    })
    (subst GlueLawOf (c.order.ensures.order ∙ ap (λ (r : Rule). r.order) c.checked.ensures.rule) c.glue_law.ensures)
