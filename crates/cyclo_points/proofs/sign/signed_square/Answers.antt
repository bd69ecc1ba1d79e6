use Rattle.std.specs.Int.{w128}
use Rattle.std.proofs.Common.{◌≡◌, ◌^◌, ◌*◌, ◌*ℤ◌, sym, subst, arith}
use Rattle.cyclo_points.specs.Point.{Within}
use Rattle.cyclo_points.specs.Product.{product_of}
use Rattle.cyclo_points.proofs.Reals.{reading}
use Rattle.cyclo_points.proofs.SignReadings.{read_square, square_within}
use Rattle.cyclo_points.proofs.Witnesses.{signed_square}
use Rattle.cyclo_points.proofs.sign.signed_square.Goals as goal
use Rattle.cyclo_points.proofs.sign.signed_square.Goals.{After-abs}

squared : (c : After-abs) → reading w128 (reading w128 c.args.u *ℤ reading w128 c.abs.result) ≡ signed_square c.args.u
squared c =
    read_square (3 * 2 ^ 61) c.args.u c.abs.result c.ranges.u (record { sfits = c.abs.type_inv })
    c.abs.ensures.value c.requires.u_within (omega arith)

pub returns-clause-value : goal.returns-clause-value
unfolding product_of
returns-clause-value c = squared c

pub returns-clause-bounded : goal.returns-clause-bounded
returns-clause-bounded c = λ n h. subst (Within (n * n)) (sym (squared c)) (square_within n c.args.u h)
