use Rattle.std.proofs.Common.{sym, subst}
use Rattle.tile_shape.specs.Usable.{AreUsable}
use Rattle.cyclo_points.specs.Order.{points_of}
use Rattle.rule_model.specs.Views.{rule_of}
use Rattle.rule_model.proofs.EachUse.{has-children, uses-usable}
use Rattle.dissect_check.proofs.child_kinds.uses_of_kinds.Goals as goal

pub of-requires : goal.of-requires
of-requires c =
    let r = c.args.rule.now in
    subst AreUsable (sym c.in_ok-kinds.ensures)
    (uses-usable (rule_of r) (has-children (points_of r.order) (rule_of r) c.requires.usable.numbered)
    c.requires.each_used)
