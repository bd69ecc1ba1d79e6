use Rattle.std.proofs.Common.{List, [], get_or, ap, ◌∙◌}
use Rattle.cyclo_points.specs.declared.point.Point.{Point}
use Rattle.cyclo_points.specs.Point.{point_in}
use Rattle.rule_model.specs.Views.{rule_of}
use Rattle.tile_place.proofs.FactorPowers.{power-read}
use Rattle.window_descent.specs.Rows.{levels_of}
use Rattle.window_descent.proofs.rows.Rows.scale.Goals as goal

pub returns-clause-power : goal.returns-clause-power
returns-clause-power c =
    let m = c.args.machine.now in
    ap (λ (ps : List Point). point_in m.order (get_or ps c.args.level (record { c = [] }))) c.as_slice.ensures.value
    ∙ power-read m.order (rule_of m).factor (levels_of c.args.self.now) c.args.self.now.powers.items c.args.level
    (record { c = [] }) c.requires.rows.powers c.requires.exists
