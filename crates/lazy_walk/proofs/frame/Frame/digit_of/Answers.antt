use Rattle.std.proofs.Common.{length, map, sym, ap, ◌∙◌, subst, arith}
use Rattle.std.proofs.lemmas.List.{length-map}
use Rattle.theory_addresses.specs.Address.{Climbs}
use Rattle.rule_model.specs.declared.rule.Rule.{Rule}
use Rattle.rule_model.specs.Tiling.{tiling_of, children}
use Rattle.rule_model.specs.Views.{rule_of}
use Rattle.tile_place.proofs.Children.{digit-listed}
use Rattle.tile_shape.specs.Usable.{AreUsable}
use Rattle.tile_shape.specs.Views.{step_of}
use Rattle.theory_walks.proofs.Walks.{whole-fits}
use Rattle.theory_walks.proofs.Ancestors.{digit-same}
use Rattle.lazy_walk.proofs.frame.Frame.digit_of.Goals as goal

pub returns-clause-digit : goal.returns-clause-digit
returns-clause-digit c =
    digit-same (tiling_of c.args.machine.now) c.args.self.now c.requires.frame c.deref.result.now c.args.level
    _ (ap (map step_of) c.deref.ensures.0 ∙ c.digits.ensures) c.requires.deep

pub returns-clause-step : goal.returns-clause-step
returns-clause-step c =
    let m = c.args.machine.now in
    let usable = subst AreUsable (c.uses.ensures ∙ ap (λ (r : Rule). children (tiling_of r)) c.checked.ensures.rule) c.kinds-usable.ensures.limits in
    let read = ap (map step_of) c.deref.ensures.0 ∙ c.digits.ensures in
    let own = whole-fits (tiling_of m) (λ base start n h. c.grown_fits_law.ensures (children (tiling_of m))
    base start n usable h) c.args.self.now c.requires.frame in
    let listed = digit-listed (rule_of m) c.args.self.now.base.kind c.deref.result.now c.args.level _
    (subst (Climbs (children (tiling_of m)) c.args.self.now.base.kind) (sym read) own.climbs)
    (omega (arith, c.requires.deep, ap length read, length-map c.deref.result.now step_of)) in
    record { parent_exists = listed.0; child_exists = listed.1 }
