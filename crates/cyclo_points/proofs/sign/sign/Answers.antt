use Rattle.std.specs.Int.{w64}
use Rattle.std.proofs.Common.{pos, int_cmp, sym, ◌∙◌, ap, ap₂, arith}
use Rattle.std.proofs.lemmas.Grind.{common_steps}
use Rattle.std.proofs.lemmas.Int.{to_z-of_z}
use Rattle.cyclo_points.proofs.Reals.{sign_at}
use Rattle.cyclo_points.proofs.Shorts.{cast-is}
use Rattle.cyclo_points.proofs.sign.sign.Goals as goal

pub returns-then-is_short : goal.returns-then-is_short
returns-then-is_short c =
    let r = c.args.r.now in
    let h = c.is_short.ensures.only_short c.if-is_short.true in
    let e = to_z-of_z w64 c.witness.result (record { sfits = c.witness.type_inv }) in
    c.cmp.ensures ∙ ap (λ s. int_cmp s (pos 0)) e ∙ sym c.witness.ensures.same_sign
    ∙ ap₂ (sign_at c.args.order) (cast-is r.a h.at_a) (cast-is r.b h.at_b)

pub returns-else-is_short : goal.returns-else-is_short
returns-else-is_short c = grind (arith, common_steps)
