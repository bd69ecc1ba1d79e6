use Rattle.std.proofs.Common.{◌≡◌, map, ap, ◌∙◌, subst, arith}
use Rattle.std.proofs.lemmas.Grind.{common_steps}
use Rattle.std.proofs.lemmas.Result.{IfOk-from_err}
use Rattle.cyclo_points.specs.Order.{points_of}
use Rattle.rule_model.specs.declared.rule.Rule.{Rule}
use Rattle.rule_model.specs.Tiling.{tiling_of}
use Rattle.tile_place.specs.Searched.{placed_in}
use Rattle.theory_windows.specs.FrameCover.{FrameEndsLaw}
use Rattle.theory_windows.specs.FrameWindow.{LeastLaw}
use Rattle.window_cover.specs.Windows.{AreDrawn, CoverWindow}
use Rattle.window_cover.proofs.Arranged.{right-lifted}
use Rattle.window_cover.proofs.Ended.{not-beyond, ended-least, ended-within}
use Rattle.window_cover.proofs.Finished.{laws_of}
use Rattle.window_cover.specs.Packed.{packed}
use Rattle.window_cover.specs.Working.{working}
use Rattle.window_cover.proofs.Works.{works}
use Rattle.window_cover.proofs.HandedOn.{handed_on, out_of_memory, came_to}
use Rattle.window_cover.proofs.Searches.{checked_of}
use Rattle.window_cover.proofs.tiles_of_window.by_search.Goals as goal

pub arranged-requires-clause-no_deeper : goal.arranged-requires-clause-no_deeper
arranged-requires-clause-no_deeper c = right-lifted (tiling_of c.args.machine.now) c.searched.new.frame
    c.in_ok-cover.cover c.in_ok-cover.ensures.ended.right

pub returns-in_err-cover-clause-ends : goal.returns-in_err-cover-clause-ends
returns-in_err-cover-clause-ends c = handed_on (tiling_of c.args.machine.now) c.args.frame.now c.searched.new.frame c.args.window.now
    c.searched.result c.from_residual.result c.in_err-cover.field-0.0 c.in_err-cover.was c.from_residual.ensures.1 c.searched.ensures.ends

pub returns-in_err-arranged-clause-ends : goal.returns-in_err-arranged-clause-ends
returns-in_err-arranged-clause-ends c = out_of_memory (tiling_of c.args.machine.now) c.args.frame.now c.searched.new.frame c.args.window.now
    c.from_residual-in_err-arranged.result c.from_residual-in_err-arranged.ensures.1 c.searched.ensures.ends.frame
    c.searched.ensures.ends.not_beyond

pub returns-clause-ends : goal.returns-clause-ends
returns-clause-ends c = came_to (tiling_of c.args.machine.now) c.args.frame.now c.searched.new.frame c.args.window.now c.in_ok-arranged.field-0
    c.searched.ensures.ends.frame c.searched.ensures.ends.not_beyond

pub returns-in_err-cover-clause-found : goal.returns-in_err-cover-clause-found
returns-in_err-cover-clause-found c = IfOk-from_err c.from_residual.result _ c.from_residual.ensures.0

pub returns-in_err-arranged-clause-found : goal.returns-in_err-arranged-clause-found
returns-in_err-arranged-clause-found c = IfOk-from_err c.from_residual-in_err-arranged.result _ c.from_residual-in_err-arranged.ensures.0

pub returns-clause-found : goal.returns-clause-found
returns-clause-found c =
    let m = c.args.machine.now in
    let f = c.args.frame.now in
    let g = c.searched.new.frame in
    let w = c.args.window.now in
    let ended = c.in_ok-cover.ensures.ended in
    let checked = checked_of m _ _ c.checked-checked.ensures.rule c.checked-checked.ensures.accepted
    c.checked-checked.ensures.usable c.checked-checked.ensures.same_child_kinds c.uses.ensures
    c.kinds-usable.ensures.limits in
    let laws = laws_of m checked c.end_laws.ensures.points c.end_laws.ensures.patch c.end_laws.ensures.known
    c.end_laws.ensures.open_test c.end_laws.ensures.finish c.grown_fits_law.ensures in
    let same : c.order-order.result ≡ m.order = c.order-order.ensures.order ∙ ap (λ (r : Rule). r.order) c.checked-checked.ensures.rule in
    let least : LeastLaw (points_of m.order) = subst (λ o. LeastLaw (points_of o)) same c.frame_window_law.ensures.least in
    let ends : FrameEndsLaw (points_of m.order) = subst (λ o. FrameEndsLaw (points_of o)) same c.frame_limits_law.ensures.end in
    let state = working c.in_ok-cover.cover in
    let work = works (tiling_of m) laws.open_test g c.in_ok-cover.cover ended.right in
    let none_open = ap (map packed) ended.none_open in
    let search = c.searched.ensures.ends in
    let beyond = not-beyond m laws least f g search.frame w state work search.not_beyond c.requires.frame.at_most_64 in
    record {
      drawn = subst (λ w. AreDrawn (tiling_of m) g w (map (placed_in m.order) c.in_ok-arranged.field-0)) ended.begun.its_window
          (c.in_ok-arranged.ensures.drawn m checked ended.right);
      stand = c.in_ok-arranged.ensures.stand m checked ended.right;
      in_order = c.in_ok-arranged.ensures.in_order m checked ended.right;
      covered = subst (λ w. CoverWindow (tiling_of m) g w (map (placed_in m.order) c.in_ok-arranged.field-0)) ended.begun.its_window
          (c.in_ok-arranged.ensures.covered m checked ended.right);
      least = ended-least m laws f g c.searched.ensures.ends.frame w state work ended.begun.its_window none_open beyond c.requires.frame.at_most_64;
      within = record {
        centre_found = ended.begun.centre_found;
        drawn_within = ended-within m laws f g c.searched.ensures.ends.frame w state work ended.begun.its_window none_open beyond
            c.requires.frame.at_most_64 ends;
      };
    }

-- ---- the rest is plain, and stands here since the records are large
pub end_laws-requires : goal.end_laws-requires
end_laws-requires c = grind (arith, common_steps)

pub grown_fits_law-requires : goal.grown_fits_law-requires
grown_fits_law-requires c = grind (arith, common_steps)

pub order-order-requires : goal.order-order-requires
order-order-requires c = grind (arith, common_steps)

pub frame_limits_law-requires : goal.frame_limits_law-requires
frame_limits_law-requires c = grind (arith, common_steps)

pub frame_window_law-requires : goal.frame_window_law-requires
frame_window_law-requires c = grind (arith, common_steps)

pub uses-requires : goal.uses-requires
uses-requires c = grind (arith, common_steps)

pub kinds-usable-requires : goal.kinds-usable-requires
kinds-usable-requires c = grind (arith, common_steps)

pub searched-requires-clause-name : goal.searched-requires-clause-name
searched-requires-clause-name c = grind (arith, common_steps)

pub searched-requires-clause-parts : goal.searched-requires-clause-parts
searched-requires-clause-parts c = grind (arith, common_steps)

pub searched-requires-clause-some : goal.searched-requires-clause-some
searched-requires-clause-some c = grind (arith, common_steps)

pub searched-requires-clause-frame : goal.searched-requires-clause-frame
searched-requires-clause-frame c = grind (arith, common_steps)

pub searched-requires-clause-window_fits : goal.searched-requires-clause-window_fits
searched-requires-clause-window_fits c = grind (arith, common_steps)

pub arranged-requires-clause-none_open : goal.arranged-requires-clause-none_open
arranged-requires-clause-none_open c = grind (arith, common_steps)
