use Rattle.std.proofs.Common.{◌<◌, length, sym, ap, ◌∙◌, subst}
use Rattle.rule_model.specs.declared.rule.Rule.{Rule}
use Rattle.rule_model.specs.Tiling.{tiling_of, children}
use Rattle.rule_model.specs.Views.{rule_of}
use Rattle.tile_shape.specs.Usable.{AreUsable}
use Rattle.theory_walks.proofs.Walks.{whole-fits}
use Rattle.theory_walks.proofs.Ancestors.{kind-same, kind-exists}
use Rattle.lazy_walk.proofs.frame.Frame.kind_of.Goals as goal

pub returns-clause-kind : goal.returns-clause-kind
returns-clause-kind c = kind-same (tiling_of c.args.machine.now) c.args.self.now c.requires.frame c.args.level
    c.kind_at.result c.requires.deep c.kind_at.ensures

pub returns-clause-exists : goal.returns-clause-exists
returns-clause-exists c =
    let m = c.args.machine.now in
    let usable = subst AreUsable (c.uses.ensures ∙ ap (λ (r : Rule). children (tiling_of r)) c.checked.ensures.rule) c.kinds-usable.ensures.limits in
    subst (λ k. k < length (rule_of m).kinds) (sym (returns-clause-kind c))
    (kind-exists (tiling_of m) c.args.self.now c.requires.frame
    (λ base start n h. c.grown_fits_law.ensures (children (tiling_of m)) base start n usable h)
    c.args.level c.requires.deep)

pub returns-clause-frame_fits : goal.returns-clause-frame_fits
returns-clause-frame_fits c =
    let m = c.args.machine.now in
    let usable = subst AreUsable (c.uses.ensures ∙ ap (λ (r : Rule). children (tiling_of r)) c.checked.ensures.rule) c.kinds-usable.ensures.limits in
    whole-fits (tiling_of m) (λ base start n h. c.grown_fits_law.ensures (children (tiling_of m)) base start n
    usable h) c.args.self.now c.requires.frame
