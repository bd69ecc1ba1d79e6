use Rattle.std.proofs.Common.{◌+◌, ◌%◌, ◌∙◌, ap}
use Rattle.theory_substitution.specs.Motion.{moved}
use Rattle.theory_substitution.proofs.Motions.{moved-followed}
use Rattle.cyclo_points.specs.Order.{points_of}
use Rattle.cyclo_points.specs.Motion.{motion_in}
use Rattle.cyclo_points.proofs.OrderLaws.{laws_of}
use Rattle.cyclo_points.proofs.Undoing.{motion_path}
use Rattle.cyclo_points.proofs.movement.compose.Goals as goal

pub returns-clause-followed_by : goal.returns-clause-followed_by
returns-clause-followed_by c = motion_path _ _ (ap (λ n. (c.args.f.now.turn + c.args.g.now.turn) % n) c.n.ensures) c.apply.ensures.is_moved

pub returns-clause-first_g_then_f : goal.returns-clause-first_g_then_f
returns-clause-first_g_then_f c =
    let o = c.args.order in
    λ z. ap (λ m. moved (points_of o) m z) (returns-clause-followed_by c)
    ∙ moved-followed (points_of o) (laws_of o) (motion_in o c.args.g.now) (motion_in o c.args.f.now) z
