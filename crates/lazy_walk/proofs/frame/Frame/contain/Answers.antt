use Rattle.std.proofs.Common.{◌∙◌, arith}
use Rattle.std.proofs.lemmas.Grind.{common_steps, elements}
use Rattle.std.proofs.lemmas.Result.{IfOk-weaker}
use Rattle.cyclo_points.specs.Point.{point_in}
use Rattle.rule_model.specs.Tiling.{tiling_of}
use Rattle.tile_place.proofs.Ahead.{handed_on}
use Rattle.theory_walks.specs.Ancestors.{full}
use Rattle.theory_walks.proofs.Walks.{GrowsTo-then}
use Rattle.lazy_walk.proofs.Aheads.{refused_exactly}
use Rattle.lazy_walk.proofs.Searching.{ancestors_of, at_start, ancestor-now, ancestor-in, few, vertex_is, not_yet, not_next, inside_refused, inside_exactly, next_is, one_out}
use Rattle.lazy_walk.proofs.frame.Frame.contain.Goals as goal

pub is_inside-requires-clause-ancestor : goal.is_inside-requires-clause-ancestor
is_inside-requires-clause-ancestor c = ancestor-in c.loop-self.invariant

pub tile_in-requires-clause-ancestor : goal.tile_in-requires-clause-ancestor
tile_in-requires-clause-ancestor c = ancestor-in c.loop-self.invariant

pub next_out-requires-clause-ancestor : goal.next_out-requires-clause-ancestor
next_out-requires-clause-ancestor c = ancestor-now c.loop-self.invariant

pub next_out-requires-clause-more : goal.next_out-requires-clause-more
next_out-requires-clause-more c = few c.loop-self.invariant c.checked.ensures.accepted

-- ---- a vertex is refused
pub returns-in_err-is_inside-clause-limit : goal.returns-in_err-is_inside-clause-limit
returns-in_err-is_inside-clause-limit c =
    handed_on c.from_residual.result c.in_err-is_inside.field-0.0 _ c.from_residual.ensures.1
    (record {
      first = vertex_is c.loop-self.invariant _ c.in_err-is_inside.ensures.visits.limit.first;
      in_order = c.in_err-is_inside.ensures.visits.limit.in_order;
    })

pub returns-in_err-is_inside-clause-found_exactly : goal.returns-in_err-is_inside-clause-found_exactly
returns-in_err-is_inside-clause-found_exactly c =
    refused_exactly c.from_residual.result _ c.in_err-is_inside.field-0.0 _ c.from_residual.ensures.1
    (vertex_is c.loop-self.invariant _ c.in_err-is_inside.ensures.visits.limit.first)

pub returns-in_err-is_inside-clause-least : goal.returns-in_err-is_inside-clause-least
returns-in_err-is_inside-clause-least c =
    not_yet c.loop-self.invariant c.requires.frame
    (ancestors_of _ _ _ c.order.ensures.order c.checked.ensures.rule c.checked.ensures.usable c.ancestor_law.ensures)

-- ---- the ancestor holds the point
pub returns-then-branch-clause-least : goal.returns-then-branch-clause-least
returns-then-branch-clause-least c =
    not_yet c.loop-self.invariant c.requires.frame
    (ancestors_of _ _ _ c.order.ensures.order c.checked.ensures.rule c.checked.ensures.usable c.ancestor_law.ensures)

pub returns-then-branch-clause-found_exactly : goal.returns-then-branch-clause-found_exactly
returns-then-branch-clause-found_exactly c =
    inside_exactly c.loop-self.invariant c.in_ok-is_inside.ensures.visits.none_refused
    (c.in_ok-is_inside.ensures.holds ∙ c.if-branch.true) c.tile_in.result c.tile_in.ensures.visits

pub returns-then-branch-clause-limit : goal.returns-then-branch-clause-limit
returns-then-branch-clause-limit c =
    inside_refused c.loop-self.invariant c.in_ok-is_inside.ensures.visits.none_refused
    (c.in_ok-is_inside.ensures.holds ∙ c.if-branch.true) c.tile_in.result c.tile_in.ensures.visits

pub returns-then-branch-clause-only_tile : goal.returns-then-branch-clause-only_tile
returns-then-branch-clause-only_tile c = IfOk-weaker c.tile_in.result _ _ (λ tile h. h.only_tile) c.tile_in.ensures.contained

pub returns-then-branch-clause-stands : goal.returns-then-branch-clause-stands
returns-then-branch-clause-stands c = IfOk-weaker c.tile_in.result _ _ (λ tile h. h.stands) c.tile_in.ensures.contained

pub returns-then-branch-clause-shift_within : goal.returns-then-branch-clause-shift_within
returns-then-branch-clause-shift_within c = IfOk-weaker c.tile_in.result _ _ (λ tile h. h.shift_within) c.tile_in.ensures.contained

pub returns-then-branch-clause-held : goal.returns-then-branch-clause-held
returns-then-branch-clause-held c = IfOk-weaker c.tile_in.result _ _ (λ tile h. h.held) c.tile_in.ensures.contained

-- ---- the next power or shift is refused
pub returns-in_err-ancestor-clause-frame : goal.returns-in_err-ancestor-clause-frame
returns-in_err-ancestor-clause-frame c =
    GrowsTo-then _ _ c.loop-self.self _ c.loop-self.invariant.grown c.next_out.ensures.frame

pub returns-in_err-ancestor-clause-limit : goal.returns-in_err-ancestor-clause-limit
returns-in_err-ancestor-clause-limit c =
    handed_on c.from_residual-in_err-ancestor.result c.in_err-ancestor.field-0.0 _ c.from_residual-in_err-ancestor.ensures.1
    (record {
      first = next_is c.loop-self.invariant c.in_ok-is_inside.ensures.visits.none_refused
          (c.in_ok-is_inside.ensures.holds ∙ c.if-branch.false) c.checked.ensures.accepted _ c.in_err-ancestor.ensures.limit;
      in_order = c.in_err-ancestor.ensures.limit_in_order;
    })

pub returns-in_err-ancestor-clause-found_exactly : goal.returns-in_err-ancestor-clause-found_exactly
returns-in_err-ancestor-clause-found_exactly c =
    refused_exactly c.from_residual-in_err-ancestor.result _ c.in_err-ancestor.field-0.0 _ c.from_residual-in_err-ancestor.ensures.1
    (next_is c.loop-self.invariant c.in_ok-is_inside.ensures.visits.none_refused
    (c.in_ok-is_inside.ensures.holds ∙ c.if-branch.false) c.checked.ensures.accepted _ c.in_err-ancestor.ensures.limit)

pub returns-in_err-ancestor-clause-least : goal.returns-in_err-ancestor-clause-least
returns-in_err-ancestor-clause-least c =
    not_next c.loop-self.invariant c.requires.frame
    (ancestors_of _ _ _ c.order.ensures.order c.checked.ensures.rule c.checked.ensures.usable c.ancestor_law.ensures) c.checked.ensures.accepted
    (c.in_ok-is_inside.ensures.holds ∙ c.if-branch.false) c.next_out.new.self c.next_out.ensures.no_deeper

-- ---- the loop
pub loop-self-init : goal.loop-self-init
loop-self-init c =
    at_start c.args.machine.now c.args.self.now (point_in c.args.machine.now.order c.args.point.now) c.base-ancestor.result
    c.base-ancestor.ensures.level
    (c.base-ancestor.ensures.base (tiling_of c.args.machine.now) (full (tiling_of c.args.machine.now) c.args.self.now)) c.requires.frame

pub loop-self-preserved : goal.loop-self-preserved
loop-self-preserved c =
    one_out c.loop-self.invariant c.in_ok-is_inside.ensures.visits.none_refused
    (c.in_ok-is_inside.ensures.holds ∙ c.if-branch.false) c.checked.ensures.accepted c.next_out.new.self c.in_ok-ancestor.ancestor
    c.next_out.ensures.frame c.in_ok-ancestor.ensures.next

pub tile_in-requires-clause-holds : goal.tile_in-requires-clause-holds
tile_in-requires-clause-holds c = grind (arith, common_steps)

pub returns-in_err-ancestor-clause-only_tile : goal.returns-in_err-ancestor-clause-only_tile
returns-in_err-ancestor-clause-only_tile c = grind (arith, elements)

pub returns-in_err-ancestor-clause-shift_within : goal.returns-in_err-ancestor-clause-shift_within
returns-in_err-ancestor-clause-shift_within c = grind (arith, elements)

pub returns-in_err-ancestor-clause-held : goal.returns-in_err-ancestor-clause-held
returns-in_err-ancestor-clause-held c = grind (arith, elements)
