use Rattle.std.proofs.Common.{All, map, sym, ◌∙◌, subst, arith}
use Rattle.std.proofs.lemmas.Grind.{common_steps}
use Rattle.rule_model.specs.Tiling.{tiling_of}
use Rattle.tile_place.specs.Searched.{placed_in}
use Rattle.lazy_walk.specs.Standing.{Stands}
use Rattle.window_cover.specs.Causes.{HasCoverCause}
use Rattle.window_cover.specs.InOrder.{AreInOrder}
use Rattle.window_cover.specs.Windows.{AreDrawn, CoverWindow}
use Rattle.window_cover.specs.declared.cover_fault.CoverFault.TheVariants.{NoMemory}
use Rattle.theory_walks.proofs.Outcomes.{if_err-is}
use Rattle.window_cover.proofs.Outcomes.{no_memory-on, only_memory}
use Rattle.window_cover.proofs.HandedOn.{handed_on}
use Rattle.window_cover.proofs.tiles_of_window.cover.Goals as goal

pub returns-in_err-found-clause-answered : goal.returns-in_err-found-clause-answered
returns-in_err-found-clause-answered c = λ h.
    no_memory-on c.by_search.result c.from_residual.result c.in_err-found.field-0.0 c.in_err-found.was
    c.from_residual.ensures.1 (c.by_search.ensures.ends.answered h)

pub returns-in_err-found-clause-cause : goal.returns-in_err-found-clause-cause
returns-in_err-found-clause-cause c =
    (handed_on (tiling_of c.args.machine.now) c.args.frame.now c.by_search.new.frame c.args.window.now c.by_search.result c.from_residual.result
    c.in_err-found.field-0.0 c.in_err-found.was c.from_residual.ensures.1 c.by_search.ensures.ends).cause

pub returns-in_err-tiles-clause-answered : goal.returns-in_err-tiles-clause-answered
returns-in_err-tiles-clause-answered c = λ h. only_memory c.from_residual-in_err-tiles.result c.from_residual-in_err-tiles.ensures.1

pub returns-in_err-tiles-clause-cause : goal.returns-in_err-tiles-clause-cause
returns-in_err-tiles-clause-cause c =
    if_err-is (HasCoverCause (tiling_of c.args.machine.now) c.args.frame.now c.by_search.new.frame
    c.args.window.now) c.from_residual-in_err-tiles.result NoMemory
    c.from_residual-in_err-tiles.ensures.1 tt

pub returns-in_err-listed-clause-answered : goal.returns-in_err-listed-clause-answered
returns-in_err-listed-clause-answered c = λ h. only_memory c.from_residual-in_err-listed.result c.from_residual-in_err-listed.ensures.1

pub returns-in_err-listed-clause-cause : goal.returns-in_err-listed-clause-cause
returns-in_err-listed-clause-cause c =
    if_err-is (HasCoverCause (tiling_of c.args.machine.now) c.args.frame.now c.by_search.new.frame
    c.args.window.now) c.from_residual-in_err-listed.result NoMemory
    c.from_residual-in_err-listed.ensures.1 tt

pub returns-clause-drawn : goal.returns-clause-drawn
returns-clause-drawn c =
    let m = c.args.machine.now in
    subst (λ ts. AreDrawn (tiling_of m) c.by_search.new.frame c.args.window.now (map (placed_in m.order) ts))
    (sym (c.in_ok-listed.ensures ∙ c.in_ok-tiles.ensures)) c.in_ok-found.ensures.found.drawn

pub returns-clause-stand : goal.returns-clause-stand
returns-clause-stand c = subst (All (Stands (tiling_of c.args.machine.now) c.by_search.new.frame))
    (sym (c.in_ok-listed.ensures ∙ c.in_ok-tiles.ensures)) c.in_ok-found.ensures.found.stand

pub returns-clause-covered : goal.returns-clause-covered
returns-clause-covered c =
    let m = c.args.machine.now in
    subst (λ ts. CoverWindow (tiling_of m) c.by_search.new.frame c.args.window.now
    (map (placed_in m.order) ts)) (sym (c.in_ok-listed.ensures ∙ c.in_ok-tiles.ensures)) c.in_ok-found.ensures.found.covered

pub by_search-requires-clause-frame : goal.by_search-requires-clause-frame
by_search-requires-clause-frame c = grind (arith, common_steps)

pub by_search-requires-clause-window_fits : goal.by_search-requires-clause-window_fits
by_search-requires-clause-window_fits c = grind (arith, common_steps)

pub listed-requires : goal.listed-requires
listed-requires c = grind (arith, common_steps)

pub returns-clause-in_order : goal.returns-clause-in_order
returns-clause-in_order c = subst AreInOrder (sym (c.in_ok-listed.ensures ∙ c.in_ok-tiles.ensures)) c.in_ok-found.ensures.found.in_order

pub returns-clause-least : goal.returns-clause-least
returns-clause-least c = grind (arith, common_steps)

pub returns-clause-not_beyond : goal.returns-clause-not_beyond
returns-clause-not_beyond c = grind (arith, common_steps)

pub returns-clause-answered : goal.returns-clause-answered
returns-clause-answered c = grind (arith, common_steps)

pub returns-clause-cause : goal.returns-clause-cause
returns-clause-cause c = grind (arith, common_steps)
