use Rattle.std.proofs.Common.{◌++◌, List, map, length, take, drop, sym, subst}
use Rattle.std.specs.List.{AllZip}
use Rattle.rule_model.specs.Tiling.{tiling_of}
use Rattle.star_walk.specs.declared.corner.Corner.{Corner}
use Rattle.star_walk.specs.Found.{IsRaised}
use Rattle.star_walk.specs.Sought.{IsStarFound}
use Rattle.theory_walks.proofs.Brought.{Brings, brought}
use Rattle.star_walk.specs.StarLaws.{HasStarLaws}
use Rattle.star_walk.proofs.Ended.{star-found}
use Rattle.star_walk.proofs.InTurn.{whole-back}
use Rattle.star_walk.proofs.star.Star.find.Given.{Over}
use Rattle.star_walk.proofs.star.Star.find.Goals.{After-kinds-usable, After-raise_all}
use Rattle.star_walk.proofs.star.Star.find.Goals as goal

-- what the rule and the laws bring
brings : (g : Over) (c : After-kinds-usable g) → Brings HasStarLaws c.args.machine.now
brings g c = brought HasStarLaws c.args.machine.now _ _ _ c.checked-checked.ensures.rule
    c.checked-checked.ensures.accepted c.checked-checked.ensures.usable
    c.checked-checked.ensures.same_child_kinds
    c.uses.ensures c.kinds-usable.ensures.limits c.order.ensures.order c.star_laws.ensures c.grown_fits_law.ensures

-- the corners as they were found, and lifted
lifted : (g : Over) (c : After-raise_all g) → AllZip (IsRaised c.turn.new.frame) c.turn.new.corners.items c.raise_all.new.corners
lifted g c = subst (λ cs. AllZip (IsRaised c.turn.new.frame) cs c.raise_all.new.corners) c.as_mut_slice.ensures.value c.raise_all.ensures.raised

-- the star is in the room of the corners that the turn has put down
pub returns-clause-star : goal.returns-clause-star
returns-clause-star g c =
    let B = brings g ((goal.at.returns-clause-star g c).After-kinds-usable) in
    let raised = lifted g ((goal.at.returns-clause-star g c).After-raise_all) in
    subst (IsStarFound (tiling_of c.args.machine.now) c.args.frame.now c.turn.new.frame c.args.vertex)
    (sym (whole-back (IsRaised c.turn.new.frame) c.turn.new.corners.items c.raise_all.new.corners raised))
    (star-found c.args.machine.now B.settled B.fits B.laws c.args.frame.now c.requires.vertex.frame c.args.vertex
    c.requires.vertex.exists c.turn.new.frame c.turn.new.corners.items c.in_default.ensures.turned
    c.raise_all.new.corners raised)
