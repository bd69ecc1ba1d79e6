use Rattle.std.proofs.Common.{◌+◌, [], ◌∷◌, refl, ◌∙◌, arith}
use Rattle.tile_app.proofs.Drilled.{coefficient-at}
use Rattle.tile_app.proofs.drill.next_centre.Goals as goal

-- each word is one further on in the same stream
pub returns-clause-centre : goal.returns-clause-centre
returns-clause-centre c =
    let stream = c.args.growth.now in
    let j = stream.taken in
    let x0 = c.next_coefficient-a0 in
    let x1 = c.next_coefficient-a1 in
    let x2 = c.next_coefficient-a2 in
    let x3 = c.next_coefficient-a3 in
    let s1 = x0.ensures.same_start in
    let s2 = x1.ensures.same_start ∙ s1 in
    let s3 = x2.ensures.same_start ∙ s2 in
    let e0 = coefficient-at stream.start j stream.start j x0.result x0.ensures.number x0.ensures.within refl refl in
    let e1 = coefficient-at stream.start (j + 1) _ _ x1.result x1.ensures.number x1.ensures.within s1 (omega arith) in
    let e2 = coefficient-at stream.start (j + 2) _ _ x2.result x2.ensures.number x2.ensures.within s2 (omega arith) in
    let e3 = coefficient-at stream.start (j + 3) _ _ x3.result x3.ensures.number x3.ensures.within s3 (omega arith) in
    λ i. record { c = e0 i ∷ e1 i ∷ e2 i ∷ e3 i ∷ [] }
