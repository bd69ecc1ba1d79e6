use Rattle.std.proofs.Common.{arith}
use Rattle.std.proofs.lemmas.Grind.{common_steps}
use Rattle.layer_svg.proofs.svg_layer.SvgLayerLayer.end.Goals as goal

pub returns-clause-seen : goal.returns-clause-seen
returns-clause-seen c = grind (arith, common_steps)

pub returns-clause-begun : goal.returns-clause-begun
returns-clause-begun c = grind (arith, common_steps)

pub returns-clause-ok : goal.returns-clause-ok
returns-clause-ok c = grind (arith, common_steps)

pub returns-clause-err : goal.returns-clause-err
returns-clause-err c = grind (arith, common_steps)

pub returns-clause-form : goal.returns-clause-form
returns-clause-form c = grind (arith, common_steps)
