use Rattle.std.proofs.Common.{All, map, sym, subst}
use Rattle.rule_model.specs.Tiling.{tiling_of}
use Rattle.tile_place.specs.Searched.{placed_in}
use Rattle.lazy_walk.specs.Standing.{Stands}
use Rattle.window_cover.specs.Causes.{HasCoverCause}
use Rattle.window_cover.specs.InOrder.{AreInOrder}
use Rattle.window_cover.specs.Windows.{AreDrawn, CoverWindow}
use Rattle.window_cover.specs.declared.cover_fault.CoverFault.TheVariants.{NoMemory}
use Rattle.theory_walks.proofs.Outcomes.{if_err-is}
use Rattle.window_cover.proofs.Outcomes.{no_memory-on, only_memory}
use Rattle.window_cover.proofs.HandedOn.{handed_on}
use Rattle.window_cover.proofs.tiles_of_window.covered_tiles.Goals as goal

pub returns-in_err-found-clause-answered : goal.returns-in_err-found-clause-answered
returns-in_err-found-clause-answered c = λ h.
    no_memory-on c.find_tiles.result c.from_residual.result c.in_err-found.field-0.0 c.in_err-found.was
    c.from_residual.ensures.1 (c.find_tiles.ensures.ends.answered h)

pub returns-in_err-found-clause-cause : goal.returns-in_err-found-clause-cause
returns-in_err-found-clause-cause c =
    (handed_on (tiling_of c.args.machine.now) c.args.frame.now c.find_tiles.new.frame c.args.window.now c.find_tiles.result c.from_residual.result
    c.in_err-found.field-0.0 c.in_err-found.was c.from_residual.ensures.1 c.find_tiles.ensures.ends).cause

pub returns-in_err-in_order-clause-answered : goal.returns-in_err-in_order-clause-answered
returns-in_err-in_order-clause-answered c = λ h. only_memory c.from_residual-in_err-in_order.result c.from_residual-in_err-in_order.ensures.1

pub returns-in_err-in_order-clause-cause : goal.returns-in_err-in_order-clause-cause
returns-in_err-in_order-clause-cause c =
    if_err-is (HasCoverCause (tiling_of c.args.machine.now) c.args.frame.now c.find_tiles.new.frame
    c.args.window.now) c.from_residual-in_err-in_order.result NoMemory
    c.from_residual-in_err-in_order.ensures.1 tt

pub returns-clause-drawn : goal.returns-clause-drawn
returns-clause-drawn c =
    let m = c.args.machine.now in
    subst (λ ts. AreDrawn (tiling_of m) c.find_tiles.new.frame c.args.window.now (map (placed_in m.order) ts))
    (sym c.in_ok-in_order.ensures) c.in_ok-found.ensures.found.drawn

pub returns-clause-stand : goal.returns-clause-stand
returns-clause-stand c = subst (All (Stands (tiling_of c.args.machine.now) c.find_tiles.new.frame))
    (sym c.in_ok-in_order.ensures) c.in_ok-found.ensures.found.stand

pub returns-clause-in_order : goal.returns-clause-in_order
returns-clause-in_order c = subst AreInOrder (sym c.in_ok-in_order.ensures) c.in_ok-found.ensures.found.in_order

pub returns-clause-covered : goal.returns-clause-covered
returns-clause-covered c =
    let m = c.args.machine.now in
    subst (λ ts. CoverWindow (tiling_of m) c.find_tiles.new.frame c.args.window.now
    (map (placed_in m.order) ts)) (sym c.in_ok-in_order.ensures) c.in_ok-found.ensures.found.covered
