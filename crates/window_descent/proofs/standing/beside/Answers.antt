use Rattle.std.proofs.Common.{◌≡◌, take, subst}
use Rattle.std.proofs.lemmas.List.{take_all}
use Rattle.window_descent.specs.Sides.{AllSides, SomeSides}
use Rattle.window_descent.proofs.Standings.{is-standing}
use Rattle.window_descent.proofs.standing.beside.Goals as goal

pub returns : goal.returns
returns c =
    let o = c.args.order in
    let w = c.args.window.now in
    let ps = c.args.corners.now in
    let whole : take c.loop-corner.corner-index ps ≡ ps = take_all c.loop-corner.corner-index ps c.loop-corner-test.false in
    is-standing o w ps c.loop-corner.every c.loop-corner.some
    (subst (λ xs. AllSides o w xs c.loop-corner.every) whole c.loop-corner.invariant.every)
    (subst (λ xs. SomeSides o w xs c.loop-corner.some) whole c.loop-corner.invariant.some)
    c.standing_of.result c.standing_of.ensures.beyond c.standing_of.ensures.within
