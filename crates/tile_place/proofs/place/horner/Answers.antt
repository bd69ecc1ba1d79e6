use Rattle.std.proofs.Common.{◌≡◌, ◌-◌, ◌∙◌, drop, length, map, pos, refl, sym, ap, arith}
use Rattle.std.proofs.lemmas.Grind.{common_steps}
use Rattle.std.proofs.lemmas.List.{length-map}
use Rattle.theory_substitution.specs.Motion.{still}
use Rattle.theory_substitution.specs.Placement.{placement}
use Rattle.cyclo_points.specs.Order.{points_of}
use Rattle.cyclo_points.specs.Motion.{motion_in}
use Rattle.tile_shape.specs.Views.{step_of}
use Rattle.tile_place.specs.Placing.{first_refused}
use Rattle.tile_place.proofs.Children.{digit-listed}
use Rattle.tile_place.proofs.Start.{IsOrigin, start-still, near-unrefused}
use Rattle.tile_place.proofs.Descent.{start, Goes, Goes-finer}
use Rattle.tile_place.proofs.place.horner.Goals as goal

pub returns-then-level-eq0-clause-placed : goal.returns-then-level-eq0-clause-placed
returns-then-level-eq0-clause-placed g c =
    let t = g.P.Placing.tiling c.args.rule.now in
    let m = c.default.result in
    let xs = c.args.digits.now in
    let default = c.default.ensures in
    let origin : IsOrigin m.shift = record {
      at_0 = default.1.at 0 (pos 0) (omega arith);
      at_1 = default.1.at 1 (pos 0) (omega arith);
      at_2 = default.1.at 2 (pos 0) (omega arith);
      at_3 = default.1.at 3 (pos 0) (omega arith);
    } in
    (start t.order t.rule (map step_of xs) 0 (motion_in t.order m)
    (omega (arith, length-map xs step_of, c.if-level-eq0.true)) (start-still t.order m default.0 origin)).motion

pub returns-then-level-eq0-clause-moves : goal.returns-then-level-eq0-clause-moves
returns-then-level-eq0-clause-moves g c = record {
  turn_below = grind (arith, common_steps);
  within = grind (arith, common_steps);
  in_order = grind (arith, common_steps);
}

pub returns-then-level-eq0-clause-visits : goal.returns-then-level-eq0-clause-visits
returns-then-level-eq0-clause-visits g c = record { none_refused = grind (arith, common_steps); limit = tt }

pub coarsest-motion-requires-clause-step : goal.coarsest-motion-requires-clause-step
coarsest-motion-requires-clause-step g c =
    let t = g.P.Placing.tiling c.args.rule.now in
    let listed = digit-listed t.rule c.requires.climbs.0 c.args.digits.now (length c.args.digits.now - 1) _ c.requires.climbs.1
    (omega (arith, c.if-level-eq0.false)) in record { parent_exists = listed.0; child_exists = listed.1 }

pub loop-level-init : goal.loop-level-init
loop-level-init g c =
    let t = g.P.Placing.tiling c.args.rule.now in
    let m = c.coarsest-motion.result in
    let xs = c.args.digits.now in
    let begun = start t.order t.rule (map step_of xs) (length xs) (still (points_of t.order))
    (omega (arith, length-map xs step_of)) refl in
    let goes : Goes t.order t.rule xs (length xs - 1) (motion_in t.order m) =
    Goes-finer t.order t.rule xs (length xs) (length xs - 1) _ (still (points_of t.order)) (motion_in t.order m)
    (omega (arith, c.if-level-eq0.false)) (omega arith) begun c.coarsest-motion.ensures.moved in
    record {
      level = omega (arith, c.if-level-eq0.false);
      descends = goes.on (near-unrefused t.order m.shift c.coarsest-motion.ensures.moves.in_order c.coarsest-motion.ensures.moves.within);
      moves = c.coarsest-motion.ensures.moves;
    }

pub finer-motion-requires-clause-step : goal.finer-motion-requires-clause-step
finer-motion-requires-clause-step g c =
    let t = g.P.Placing.tiling c.args.rule.now in
    let listed = digit-listed t.rule c.requires.climbs.0 c.args.digits.now (c.loop-level.level - 1) _ c.requires.climbs.1 (omega arith) in
    record { parent_exists = listed.0; child_exists = listed.1 }

pub loop-level-preserved : goal.loop-level-preserved
loop-level-preserved g c =
    let t = g.P.Placing.tiling c.args.rule.now in
    let goes : Goes t.order t.rule c.args.digits.now (c.loop-level.level - 1) (motion_in t.order c.finer-motion.result) =
    Goes-finer t.order t.rule c.args.digits.now c.loop-level.level (c.loop-level.level - 1) _
    (motion_in t.order c.loop-level.motion) (motion_in t.order c.finer-motion.result)
    (omega arith) c.loop-level.invariant.level c.loop-level.invariant.descends c.finer-motion.ensures.moved in
    record {
      level = omega arith;
      descends = goes.on (sym (c.refused.ensures.in_order t.order c.finer-motion.ensures.in_order) ∙ c.if-refused.false);
      moves = record {
        turn_below = c.finer-motion.ensures.turn_below;
        within = c.refused.ensures.within c.if-refused.false;
        in_order = c.finer-motion.ensures.in_order;
      };
    }

pub returns-then-refused-clause-visits : goal.returns-then-refused-clause-visits
returns-then-refused-clause-visits g c =
    let t = g.P.Placing.tiling c.args.rule.now in
    let goes : Goes t.order t.rule c.args.digits.now (c.loop-level.level - 1) (motion_in t.order c.finer-motion.result) =
    Goes-finer t.order t.rule c.args.digits.now c.loop-level.level (c.loop-level.level - 1) _
    (motion_in t.order c.loop-level.motion) (motion_in t.order c.finer-motion.result)
    (omega arith) c.loop-level.invariant.level c.loop-level.invariant.descends c.finer-motion.ensures.moved in
    record {
      none_refused = tt;
      limit = record {
        first = goes.out (sym (c.refused.ensures.in_order t.order c.finer-motion.ensures.in_order) ∙ c.if-refused.true);
        in_order = c.finer-motion.ensures.in_order;
      };
    }

pub returns-clause-placed : goal.returns-clause-placed
returns-clause-placed g c =
    let t = g.P.Placing.tiling c.args.rule.now in
    let at_the_fine_end : c.loop-level.level ≡ 0 = omega arith in
    c.loop-level.invariant.descends.motion ∙ ap (λ i. placement (points_of t.order) t.rule (drop i (map step_of c.args.digits.now))) at_the_fine_end

pub returns-clause-visits : goal.returns-clause-visits
returns-clause-visits g c =
    let t = g.P.Placing.tiling c.args.rule.now in
    let at_the_fine_end : c.loop-level.level ≡ 0 = omega arith in
    record {
      none_refused = sym (ap (λ i. first_refused t (drop i (map step_of c.args.digits.now))) at_the_fine_end) ∙ c.loop-level.invariant.descends.none;
      limit = tt;
    }
