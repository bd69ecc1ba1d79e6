use Rattle.std.proofs.Common.{◌∙◌}
use Rattle.std.specs.Fmt.{decimal}
use Rattle.std.proofs.lemmas.Result.{IfOk-weaker}
use Rattle.cyclo_points.specs.Point.{point_in}
use Rattle.cyclo_points.specs.Text.{point_text, number_text}
use Rattle.cyclo_points.proofs.Coefficients.{point_text-number, pieces_of_line}
use Rattle.tile_app.proofs.place.place_line.Goals as goal

pub returns : goal.returns
returns c =
    IfOk-weaker c.format.result _ _
    (λ text e. λ order h. e ∙ pieces_of_line (decimal c.args.kind) (decimal c.args.motion.now.turn) (point_text c.args.motion.now.shift)
    (number_text order (point_in order c.args.motion.now.shift))
    (point_text-number order c.args.motion.now.shift h)) c.format.ensures.ok
