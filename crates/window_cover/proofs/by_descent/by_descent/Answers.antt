use Rattle.std.proofs.Common.{◌^◌, IfSome, length, ◌∙◌, subst, lit≤}
use Rattle.theory_addresses.specs.Address.{Address}
use Rattle.cyclo_points.proofs.Within.{point_wider}
use Rattle.rule_model.specs.Tiling.{tiling_of, children}
use Rattle.tile_place.proofs.Plane.{IsSettled}
use Rattle.theory_walks.specs.Ancestors.{full}
use Rattle.theory_walks.specs.Frames.{GrowsTo}
use Rattle.theory_walks.proofs.Ancestors.{full-later}
use Rattle.theory_walks.proofs.Walks.{StillFits, GrowsTo-then}
use Rattle.window_descent.specs.Climbing.{IsClimbedTo}
use Rattle.window_cover.specs.Answered.{IsFoundBelow}
use Rattle.window_cover.specs.Checked.{IsCheckedRule}
use Rattle.window_cover.specs.Gathering.{gathered}
use Rattle.window_cover.specs.Runs.{AreRuns}
use Rattle.window_cover.proofs.Arranged.{are-lifted, are-distinct}
use Rattle.window_cover.proofs.Descended.{can-be-lifted, answered}
use Rattle.window_cover.proofs.Searches.{checked_of}
use Rattle.window_cover.proofs.by_descent.by_descent.Goals as goal

pub climb-requires-clause-centre_within : goal.climb-requires-clause-centre_within
climb-requires-clause-centre_within c = point_wider (2 ^ 22) (2 ^ 25) _ (lit≤ tt) c.requires.window_fits.centre_within

pub arranged-requires-clause-no_deeper : goal.arranged-requires-clause-no_deeper
arranged-requires-clause-no_deeper c =
    let m = c.args.machine.now in
    let t = tiling_of m in
    let f = c.args.frame.now in
    let g = c.climb.new.frame in
    let w = c.args.window.now in
    let checked : IsCheckedRule m = checked_of m _ _ c.checked-checked.ensures.rule
    c.checked-checked.ensures.accepted c.checked-checked.ensures.usable
    c.checked-checked.ensures.same_child_kinds c.uses.ensures c.kinds-usable.ensures.limits in
    let settled : IsSettled m = record { accepted = checked.accepted; usable = checked.usable; same_child_kinds = checked.same_child_kinds } in
    let fits : StillFits (children t) = λ base start n h. c.grown_fits_law.ensures (children t) base start n checked.uses_usable h in
    let grows : GrowsTo t f g = GrowsTo-then t f c.is_contained.new.frame g c.is_contained.ensures.frame c.climb.ensures.frame in
    let first : IsClimbedTo t (full t f) w (length f.digits) (length g.digits) =
    subst (λ n. IsClimbedTo t (full t f) w (length f.digits) n) (c.if-top-depth.false ∙ c.depth.ensures.digits)
    (subst (λ n. IsClimbedTo t (full t f) w n c.in-Some.top.level) c.depth-from.ensures.digits
    (subst (λ (a : Address). IsClimbedTo t a w c.depth-from.result c.in-Some.top.level)
    (full-later t f c.is_contained.new.frame c.is_contained.ensures.frame) c.in-Some.ensures.first)) in
    let found = subst (λ x. IfSome x (λ runs. AreRuns runs × IsFoundBelow t g w (gathered runs))) c.in-Some-2.is c.in_ok-runs.ensures in
    can-be-lifted m settled fits f g grows w c.requires.window_fits (gathered c.in-Some-2.runs) found.1 first

pub returns-in-Some-2-clause-answered : goal.returns-in-Some-2-clause-answered
returns-in-Some-2-clause-answered c =
    let m = c.args.machine.now in
    let t = tiling_of m in
    let f = c.args.frame.now in
    let g = c.climb.new.frame in
    let w = c.args.window.now in
    let checked : IsCheckedRule m = checked_of m _ _ c.checked-checked.ensures.rule
    c.checked-checked.ensures.accepted c.checked-checked.ensures.usable
    c.checked-checked.ensures.same_child_kinds c.uses.ensures c.kinds-usable.ensures.limits in
    let settled : IsSettled m = record { accepted = checked.accepted; usable = checked.usable; same_child_kinds = checked.same_child_kinds } in
    let fits : StillFits (children t) = λ base start n h. c.grown_fits_law.ensures (children t) base start n checked.uses_usable h in
    let grows : GrowsTo t f g = GrowsTo-then t f c.is_contained.new.frame g c.is_contained.ensures.frame c.climb.ensures.frame in
    let first : IsClimbedTo t (full t f) w (length f.digits) (length g.digits) =
    subst (λ n. IsClimbedTo t (full t f) w (length f.digits) n) (c.if-top-depth.false ∙ c.depth.ensures.digits)
    (subst (λ n. IsClimbedTo t (full t f) w n c.in-Some.top.level) c.depth-from.ensures.digits
    (subst (λ (a : Address). IsClimbedTo t a w c.depth-from.result c.in-Some.top.level)
    (full-later t f c.is_contained.new.frame c.is_contained.ensures.frame) c.in-Some.ensures.first)) in
    let found = subst (λ x. IfSome x (λ runs. AreRuns runs × IsFoundBelow t g w (gathered runs))) c.in-Some-2.is c.in_ok-runs.ensures in
    let own = gathered c.in-Some-2.runs in
    let can = can-be-lifted m settled fits f g grows w c.requires.window_fits own found.1 first in
    let tiles = c.arranged.result in
    answered m settled fits f g grows w c.requires.window_fits own found.1 first tiles (are-lifted g own can tiles c.arranged.ensures)
    (are-distinct g own can tiles c.arranged.ensures)
    (c.is_contained.ensures.found c.if-not-is_contained.false)

pub arranged-requires-clause-runs : goal.arranged-requires-clause-runs
arranged-requires-clause-runs c =
    (subst (λ x. IfSome x (λ runs. AreRuns runs × IsFoundBelow (tiling_of c.args.machine.now) c.climb.new.frame c.args.window.now (gathered runs)))
    c.in-Some-2.is c.in_ok-runs.ensures).0
