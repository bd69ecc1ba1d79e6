use Rattle.std.proofs.Common.{◌≡◌, ◌∙◌, ℤ, pos, List, [], ◌∷◌, get_or, sym, arith}
use Rattle.std.proofs.lemmas.Int.{ints}
use Rattle.cyclo_points.proofs.Coefficients.{four}
use Rattle.rule_text.proofs.Points.{machine, point-found}
use Rattle.rule_text.proofs.ranges.point_of.Goals as goal

pub returns-then-is_small : goal.returns-then-is_small
returns-then-is_small c =
    let zs = c.args.numbers.now in
    let r0 : machine (get_or zs 0 (pos 0)) ≡ get_or zs 0 (pos 0) = omega (arith, ints) in
    let r1 : machine (get_or zs 1 (pos 0)) ≡ get_or zs 1 (pos 0) = omega (arith, ints) in
    let r2 : machine (get_or zs 2 (pos 0)) ≡ get_or zs 2 (pos 0) = omega (arith, ints) in
    let r3 : machine (get_or zs 3 (pos 0)) ≡ get_or zs 3 (pos 0) = omega (arith, ints) in
    let ms : List ℤ = machine (get_or zs 0 (pos 0)) ∷ machine (get_or zs 1 (pos 0))
    ∷ machine (get_or zs 2 (pos 0)) ∷ machine (get_or zs 3 (pos 0)) ∷ [] in
    let same : ms ≡ zs = cc (four zs c.requires) in
    point-found c.args.order ms zs same (sym c.is_small.ensures ∙ c.if-is_small.true)
