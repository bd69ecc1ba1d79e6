use Rattle.std.proofs.Common.{◌∷◌, ◌++◌, decimal, ap, ◌∙◌}
use Rattle.cyclo_points.specs.Text.{point_text, blank}
use Rattle.call_notes.proofs.Fields.{two_words}
use Rattle.call_notes.proofs.line.put_motion.Goals as goal

pub returns-clause-motion : goal.returns-clause-motion
returns-clause-motion c =
    two_words c.args.line.now.bytes _ _ (decimal c.args.motion.now.turn) (point_text c.args.motion.now.shift)
    (c.put_number.ensures.number ∙ ap (λ n. c.args.line.now.bytes ++ blank ∷ decimal n) c.from.ensures) c.put_point.ensures.point
