use Rattle.std.specs.Int.{w64}
use Rattle.std.proofs.Common.{arith, ℕ, ℤ, ◌≡◌, ◌^◌, ◌<◌, pos, sym, ◌∙◌, ap, subst}
use Rattle.std.proofs.lemmas.Int.{ints, to_z-of_z}
use Rattle.cyclo_points.specs.Point.{Within}
use Rattle.cyclo_points.specs.Witness.{witness_in}
use Rattle.cyclo_points.proofs.Reals.{reading}
use Rattle.window_descent.proofs.Insides.{limit-small}
use Rattle.window_descent.proofs.bounds.extent_witness.Goals as goal

read_extent : (x : ℤ) (n : ℕ) → x ≡ pos n → n < 2 ^ 16 → reading w64 x ≡ pos n
read_extent x n e f = omega (arith, ints)

pub returns-clause-value : goal.returns-clause-value
returns-clause-value c =
    let few = c.ranges.extent.fits in
    to_z-of_z w64 c.witness.result (record { sfits = c.witness.type_inv }) ∙ c.witness.ensures.value
    ∙ ap (λ z. witness_in c.args.order z (pos 0)) (read_extent c.from.result c.args.extent c.from.ensures few)

pub returns-clause-small : goal.returns-clause-small
returns-clause-small c =
    let few = c.ranges.extent.fits in
    subst (Within (2 ^ 60)) (sym (to_z-of_z w64 c.witness.result (record { sfits = c.witness.type_inv }) ∙ c.witness.ensures.value
    ∙ ap (λ z. witness_in c.args.order z (pos 0)) (read_extent c.from.result c.args.extent c.from.ensures few)))
    (limit-small c.args.order c.args.extent (omega (arith, few)))
