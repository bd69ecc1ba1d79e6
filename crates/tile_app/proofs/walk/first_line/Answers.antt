use Rattle.std.proofs.Common.{◌∙◌, ap, codes}
use Rattle.std.specs.Fmt.{decimal}
use Rattle.std.proofs.lemmas.Result.{IfOk-weaker}
use Rattle.cyclo_points.specs.Point.{point_in}
use Rattle.cyclo_points.specs.Text.{point_text, number_text}
use Rattle.cyclo_points.proofs.Coefficients.{point_text-number}
use Rattle.tile_shape.specs.Text.{address_text}
use Rattle.tile_shape.specs.Views.{address_of}
use Rattle.tile_app.proofs.Walking.{pieces_of_walk}
use Rattle.tile_app.proofs.walk.first_line.Goals as goal

pub returns : goal.returns
returns c =
    IfOk-weaker c.format.result _ _
    (λ text e. λ order h kind. e ∙ pieces_of_walk (decimal c.args.tile.now.kind) (decimal c.args.tile.now.addr.kind)
    (decimal c.args.tile.now.motion.turn) (point_text c.args.tile.now.motion.shift)
    (number_text order (point_in order c.args.tile.now.motion.shift))
    (address_text (address_of c.args.tile.now.addr)) (codes "-") (point_text-number order c.args.tile.now.motion.shift h)
    (ap decimal kind)) c.format.ensures.ok
