use Rattle.std.proofs.Common.{◌*◌, ◌^◌, ◌<◌, ◌≤◌, List, [], ◌∷◌, ◌++◌, length, refl, sym, ap, ◌∙◌, subst, arith, length-append}
use Rattle.cyclo_points.proofs.Within.{point_wider}
use Rattle.rule_model.specs.Tiling.{tiling_of}
use Rattle.star_walk.specs.declared.corner.Corner.{Corner}
use Rattle.star_walk.specs.declared.star_fault.StarFault.TheVariants.{DepthLimit}
use Rattle.star_walk.specs.Causes.{HasStarCause}
use Rattle.star_walk.specs.Found.{IsOnTheWay}
use Rattle.theory_walks.proofs.Brought.{Brings, brought}
use Rattle.star_walk.specs.StarLaws.{HasStarLaws}
use Rattle.theory_walks.proofs.Outcomes.{if_err-is}
use Rattle.theory_walks.proofs.Walks.{GrowsTo-then}
use Rattle.star_walk.proofs.Beyond.{not_beyond-way, not_beyond-turned, never-enough}
use Rattle.star_walk.proofs.Turning.{started, last-exists}
use Rattle.star_walk.proofs.Stepped.{ended, stepped}
use Rattle.star_walk.proofs.TooMany.{too_big, not_too_big}
use Rattle.star_walk.proofs.AtLimit.{limited, not_limited}
use Rattle.star_walk.proofs.turn.turn.Given.{Over}
use Rattle.star_walk.proofs.turn.turn.Goals.{After-base_tile, After-push}
use Rattle.star_walk.proofs.turn.turn.Goals as goal

-- what the rule and the laws bring
brings : (g : Over) (c : After-base_tile g) → Brings HasStarLaws c.args.machine.now
brings g c = brought HasStarLaws c.args.machine.now _ _ _ c.checked-checked.ensures.rule
    c.checked-checked.ensures.accepted c.checked-checked.ensures.usable
    c.checked-checked.ensures.same_child_kinds
    c.uses.ensures c.kinds-usable.ensures.limits c.order.ensures.order c.star_laws.ensures c.grown_fits_law.ensures

-- the turn on its way, with the corner put down
way : (g : Over) (c : After-push g) → IsOnTheWay (tiling_of c.args.machine.now) c.args.frame.now
    c.loop-frame.frame c.args.vertex c.push.new.self.items c.loop-frame.corner
way g c =
    subst (λ cs. IsOnTheWay (tiling_of c.args.machine.now) c.args.frame.now c.loop-frame.frame c.args.vertex cs c.loop-frame.corner)
    (sym (c.push.ensures.items ∙ ap (λ (k : Corner). c.loop-frame.corners.items ++ k ∷ []) c.copy.ensures)) c.loop-frame.invariant.0

count : (g : Over) (c : After-push g) → length c.push.new.self.items ≤ 64
count g c =
    let more = ap length c.push.ensures.items ∙ length-append c.loop-frame.corners.items (c.copy.result ∷ []) in
    let below = c.loop-frame.invariant.1 in
    omega arith

pub loop-frame-init : goal.loop-frame-init
loop-frame-init g c =
    let B = brings g c in
    let none = c.requires.none_yet in
    let corner : Corner = record { tile = c.base_tile.result; vertex = c.args.vertex } in (
      subst (λ cs. IsOnTheWay (tiling_of c.args.machine.now) c.args.frame.now c.args.frame.now c.args.vertex (cs ++ corner ∷ []) corner) (sym none)
          (started c.args.machine.now B.settled B.fits B.laws c.args.frame.now c.requires.vertex.frame c.args.vertex
          c.requires.vertex.exists c.base_tile.result c.base_tile.ensures.base c.base_tile.ensures.stands
          c.base_tile.ensures.at_origin),
      subst (λ (cs : List Corner). length cs < 64) (sym none) (omega arith),
    )

pub step_round-requires-clause-vertex_exists : goal.step_round-requires-clause-vertex_exists
step_round-requires-clause-vertex_exists g c =
    let p = (goal.at.step_round-requires-clause-vertex_exists g c).After-push in
    let B = brings g ((goal.at.step_round-requires-clause-vertex_exists g c).After-base_tile) in
    last-exists c.args.machine.now B.settled B.fits B.laws c.args.frame.now c.requires.vertex.frame c.args.vertex
    c.requires.vertex.exists c.loop-frame.frame c.push.new.self.items c.loop-frame.corner (way g p)

pub step_round-requires-clause-tile : goal.step_round-requires-clause-tile
step_round-requires-clause-tile g c =
    let p = (goal.at.step_round-requires-clause-tile g c).After-push in
    let w = way g p in
    let few = count g p in
    let last = w.last_found in
    record {
      its_kind = last.its_kind;
      of_frame = last.of_frame;
      motion = record {
        turn_below = last.turn_below;
        within = point_wider (2 ^ 8 * length c.push.new.self.items) (2 ^ 24) _ (omega arith) last.shift_within;
        in_order = last.in_order;
      };
    }

pub returns-in_err-step_round-clause-ended : goal.returns-in_err-step_round-clause-ended
returns-in_err-step_round-clause-ended g c =
    let p = (goal.at.returns-in_err-step_round-clause-ended g c).After-push in
    let B = brings g ((goal.at.returns-in_err-step_round-clause-ended g c).After-base_tile) in
    let w = way g p in
    let h = c.in_err-step_round.ensures.frame in
    let limit = c.in_err-step_round.field-0.0 in
    let deepest = c.in_err-step_round.ensures.limit.deepest in
    let on = c.in_err-step_round.ensures.limit_exactly.0 refl in
    record {
      frame = GrowsTo-then (tiling_of c.args.machine.now) c.args.frame.now c.loop-frame.frame c.step_round.new.frame w.grows h;
      not_beyond = λ n enough. absurd (never-enough c.args.machine.now B.settled B.fits B.laws c.args.frame.now
          c.requires.vertex.frame c.args.vertex c.requires.vertex.exists c.loop-frame.frame c.push.new.self.items
          c.loop-frame.corner w c.step_round.new.frame h deepest on n enough);
      cause = if_err-is (HasStarCause (tiling_of c.args.machine.now) c.step_round.new.frame c.args.vertex)
          c.from_residual.result (DepthLimit limit.addr limit.edge) c.from_residual.ensures.1
          (limited c.args.machine.now B.settled B.fits B.laws c.args.frame.now c.requires.vertex.frame c.args.vertex
          c.requires.vertex.exists c.loop-frame.frame c.push.new.self.items c.loop-frame.corner w c.step_round.new.frame h
          deepest on limit.addr limit.edge c.in_err-step_round.ensures.limit.tile c.in_err-step_round.ensures.limit.edge);
      answered = λ limits. absurd (not_limited c.args.machine.now B.settled B.fits B.laws c.args.frame.now
          c.requires.vertex.frame c.args.vertex c.requires.vertex.exists c.loop-frame.frame c.push.new.self.items
          c.loop-frame.corner w c.step_round.new.frame h deepest on limits);
    }

pub returns-then-is_base-clause-ended : goal.returns-then-is_base-clause-ended
returns-then-is_base-clause-ended g c =
    let p = (goal.at.returns-then-is_base-clause-ended g c).After-push in
    let B = brings g ((goal.at.returns-then-is_base-clause-ended g c).After-base_tile) in
    let turned = ended c.args.machine.now B.settled B.fits B.laws c.args.frame.now c.requires.vertex.frame c.args.vertex
    c.requires.vertex.exists c.loop-frame.frame c.push.new.self.items c.loop-frame.corner (way g p)
    c.step_round.new.frame c.in_ok-step_round.ensures.frame c.step_round.new.corner
    c.in_ok-step_round.ensures.crossed (c.is_base.ensures.0 c.if-is_base.true) (count g p) in
    record {
      frame = turned.grows;
      not_beyond = not_beyond-turned c.args.machine.now B.settled B.fits B.laws c.args.frame.now
          c.requires.vertex.frame c.args.vertex c.requires.vertex.exists c.step_round.new.frame c.push.new.self.items turned;
      cause = tt;
      answered = λ limits. refl;
    }

pub returns-then-is_base-clause-turned : goal.returns-then-is_base-clause-turned
returns-then-is_base-clause-turned g c =
    let p = (goal.at.returns-then-is_base-clause-turned g c).After-push in
    let B = brings g ((goal.at.returns-then-is_base-clause-turned g c).After-base_tile) in
    ended c.args.machine.now B.settled B.fits B.laws c.args.frame.now c.requires.vertex.frame c.args.vertex
    c.requires.vertex.exists c.loop-frame.frame c.push.new.self.items c.loop-frame.corner (way g p)
    c.step_round.new.frame c.in_ok-step_round.ensures.frame c.step_round.new.corner
    c.in_ok-step_round.ensures.crossed (c.is_base.ensures.0 c.if-is_base.true) (count g p)

pub returns-then-len-eq64-clause-ended : goal.returns-then-len-eq64-clause-ended
returns-then-len-eq64-clause-ended g c =
    let p = (goal.at.returns-then-len-eq64-clause-ended g c).After-push in
    let B = brings g ((goal.at.returns-then-len-eq64-clause-ended g c).After-base_tile) in
    let h = c.in_ok-step_round.ensures.frame in
    let crossed = c.in_ok-step_round.ensures.crossed in
    let full = sym c.len.ensures.value ∙ c.if-len-eq64.true in
    record {
      frame = GrowsTo-then (tiling_of c.args.machine.now) c.args.frame.now c.loop-frame.frame c.step_round.new.frame (way g p).grows h;
      not_beyond = not_beyond-way c.args.machine.now B.settled B.fits B.laws c.args.frame.now
          c.requires.vertex.frame c.args.vertex c.requires.vertex.exists c.step_round.new.frame
          (c.push.new.self.items ++ c.step_round.new.corner ∷ []) c.step_round.new.corner
          (stepped c.args.machine.now B.settled B.fits B.laws c.args.frame.now
          c.requires.vertex.frame c.args.vertex c.requires.vertex.exists c.loop-frame.frame c.push.new.self.items
          c.loop-frame.corner (way g p) c.step_round.new.frame h c.step_round.new.corner crossed
          (λ e. absurd (cc (sym c.if-is_base.false ∙ c.is_base.ensures.1 e))));
      cause = too_big c.args.machine.now B.settled B.fits B.laws c.args.frame.now c.requires.vertex.frame c.args.vertex
          c.requires.vertex.exists c.loop-frame.frame c.push.new.self.items c.loop-frame.corner (way g p)
          c.step_round.new.frame h c.step_round.new.corner crossed
          (λ e. absurd (cc (sym c.if-is_base.false ∙ c.is_base.ensures.1 e))) full;
      answered = λ limits. absurd (not_too_big c.args.machine.now B.settled B.fits B.laws c.args.frame.now
          c.requires.vertex.frame c.args.vertex c.requires.vertex.exists c.loop-frame.frame c.push.new.self.items
          c.loop-frame.corner (way g p) c.step_round.new.frame h c.step_round.new.corner crossed
          (λ e. absurd (cc (sym c.if-is_base.false ∙ c.is_base.ensures.1 e))) full limits);
    }

pub loop-frame-preserved : goal.loop-frame-preserved
loop-frame-preserved g c =
    let p = (goal.at.loop-frame-preserved g c).After-push in
    let B = brings g ((goal.at.loop-frame-preserved g c).After-base_tile) in
    let few = count g p in
    let same = c.len.ensures.value in
    let full = c.if-len-eq64.false in (
      stepped c.args.machine.now B.settled B.fits B.laws c.args.frame.now c.requires.vertex.frame c.args.vertex
          c.requires.vertex.exists c.loop-frame.frame c.push.new.self.items c.loop-frame.corner (way g p)
          c.step_round.new.frame c.in_ok-step_round.ensures.frame c.step_round.new.corner
          c.in_ok-step_round.ensures.crossed (λ e. absurd
          (cc (sym c.if-is_base.false ∙ c.is_base.ensures.1 e))),
      omega arith,
    )
