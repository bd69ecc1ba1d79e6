use Rattle.std.proofs.Common.{◌+◌, ◌^◌, refl, sym, ap, ◌∙◌, subst, arith}
use Rattle.theory_frames.proofs.Frames.{IsWhole}
use Rattle.cyclo_points.specs.Order.{PointsLaw, points_of}
use Rattle.cyclo_points.specs.Motion.{motion_in}
use Rattle.rule_model.specs.Views.{rule_of}
use Rattle.theory_frames.specs.Frame.{StandsInFrame}
use Rattle.tile_place.specs.Glued.{Meets, Glues}
use Rattle.cyclo_points.proofs.Within.{point_wider}
use Rattle.rule_model.specs.declared.rule.Rule.{Rule}
use Rattle.rule_model.specs.Tiling.{tiling_of, children}
use Rattle.tile_shape.specs.Views.{address_of}
use Rattle.theory_walks.specs.Frames.{whole}
use Rattle.theory_walks.proofs.Walked.{whole-tile_of, tile_of-whole}
use Rattle.theory_walks.proofs.Standing.{across-is_whole, stands-across}
use Rattle.lazy_walk.proofs.frame.Frame.step.Goals as goal

pub returns-in_err-back-clause-within : goal.returns-in_err-back-clause-within
returns-in_err-back-clause-within g c = λ k h. point_wider k (k + 512) _ (omega arith) h

pub motion_across-tile-requires-clause-meets : goal.motion_across-tile-requires-clause-meets
motion_across-tile-requires-clause-meets g c =
    subst (λ k. Meets (tiling_of c.args.machine.now) k c.args.edge c.cross_in_place.new.addr.kind c.in_ok-back.back) (sym c.requires.stands.its_kind)
    (c.gluing_law.ensures (address_of c.args.tile.now.addr) (address_of c.cross_in_place.new.addr) c.args.edge
    c.in_ok-back.back c.requires.stands.of_frame.fits c.requires.edge_exists
    c.in_ok-back.ensures.only_tile_across).0

pub returns-clause-stands : goal.returns-clause-stands
returns-clause-stands g c =
    let m = c.args.machine.now in
    let f = whole c.args.self.now in
    let a = address_of c.args.tile.now.addr in
    let b = address_of c.cross_in_place.new.addr in
    let own : IsWhole (children (tiling_of m)) f a = tile_of-whole (children (tiling_of m)) f a
    c.requires.stands.of_frame c.requires.stands.at_depth in
    let across : IsWhole (children (tiling_of m)) f b = across-is_whole (tiling_of m) f a b c.args.edge
    c.in_ok-back.back own c.in_ok-back.ensures.crossing.crossing.across c.in_ok-back.ensures.answer_fits in
    let laws : PointsLaw m.order = subst PointsLaw
    (c.order.ensures.order ∙ ap (λ (r : Rule). r.order) c.checked-checked.ensures.rule)
    c.points_law.ensures in
    let moved = c.motion_across-tile.ensures.across in
    let glued = subst (λ k. Glues (tiling_of m) k c.args.edge b.kind c.in_ok-back.back moved.glue) c.requires.stands.its_kind moved.glues in
    let beyond = (c.gluing_law.ensures a b c.args.edge c.in_ok-back.back c.requires.stands.of_frame.fits
    c.requires.edge_exists c.in_ok-back.ensures.only_tile_across).2 moved.glue glued in
    record {
      its_kind = refl;
      of_frame = whole-tile_of (children (tiling_of m)) f b across;
      at_depth = across.same_depth;
      in_frame = subst (StandsInFrame (points_of m.order) (rule_of m) f b) (sym moved.motion_is)
          (stands-across (tiling_of m) laws f a b (motion_in m.order c.args.tile.now.motion) moved.glue own across c.requires.stands.in_frame beyond);
      turn_below = c.motion_across-tile.ensures.turn_below;
      in_order = c.motion_across-tile.ensures.in_order;
    }

pub returns-clause-within : goal.returns-clause-within
returns-clause-within g c = λ k h. point_wider (k + 2 ^ 8) (k + 512) _ (omega arith) (c.motion_across-tile.ensures.bounded k h)
