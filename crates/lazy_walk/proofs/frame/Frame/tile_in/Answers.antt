use Rattle.std.proofs.Common.{◌≡◌, ◌^◌, Some, find, refl, sym, ap, ap₂, ◌∙◌, subst, lit≤}
use Rattle.theory_addresses.specs.Address.{Address, depth}
use Rattle.cyclo_points.specs.Order.{PointsLaw, points_of, is_refused}
use Rattle.cyclo_points.specs.Point.{point_in}
use Rattle.cyclo_points.specs.Motion.{motion_in}
use Rattle.cyclo_points.proofs.Within.{point_wider}
use Rattle.theory_dissection.specs.Laws.{DissectionLaw}
use Rattle.theory_frames.specs.Frame.{StandsInFrame, IsTileOf}
use Rattle.theory_frames.specs.Laws.{FoundTileLaw}
use Rattle.theory_frames.specs.Looked.{values_looked_at}
use Rattle.rule_model.specs.declared.rule.Rule.{Rule}
use Rattle.rule_model.specs.Tiling.{tiling_of, children}
use Rattle.rule_model.specs.Views.{rule_of}
use Rattle.tile_place.specs.Located.{IsCauseOf}
use Rattle.tile_place.specs.Searched.{placed_in}
use Rattle.tile_place.proofs.Plane.{IsSettled}
use Rattle.theory_walks.specs.Containing.{IsOnlyHolder}
use Rattle.theory_walks.specs.Frames.{whole}
use Rattle.theory_walks.proofs.Ancestors.{found_at}
use Rattle.lazy_walk.proofs.Holders.{found-whole, found-stands, frame_too, only_holder}
use Rattle.theory_walks.proofs.Walked.{whole-tile_of}
use Rattle.lazy_walk.proofs.frame.Frame.tile_in.Goals as goal

pub locate-requires-clause-point_within : goal.locate-requires-clause-point_within
locate-requires-clause-point_within c = point_wider (2 ^ 22) (2 ^ 24) _ (lit≤ tt) c.requires.point_within

pub returns-in-Ok-clause-contained : goal.returns-in-Ok-clause-contained
returns-in-Ok-clause-contained c =
    let m = c.args.machine.now in
    let f = c.args.self.now in
    let level = c.args.ancestor.now.level in
    let p = point_in m.order c.args.point.now in
    let same : c.order-order.result ≡ m.order = c.order-order.ensures.order ∙ ap (λ (r : Rule). r.order) c.checked.ensures.rule in
    let settled : IsSettled m = record {
      accepted = c.checked.ensures.accepted;
      usable = c.checked.ensures.usable;
      same_child_kinds = c.checked.ensures.same_child_kinds;
    } in
    let points : PointsLaw m.order = subst PointsLaw same c.points_law.ensures in
    let dissected : DissectionLaw (points_of m.order) = subst (λ o. DissectionLaw (points_of o)) same c.dissection_law.ensures in
    let found_tile : FoundTileLaw (points_of m.order) = subst (λ o. FoundTileLaw (points_of o)) same c.found_tile_law.ensures in
    let tile = placed_in m.order c.in-Ok.tile in
    let motion = motion_in m.order c.in-Ok.tile.motion in
    let fits = c.kind_of-kind.ensures.frame_fits in
    let found = found_at (tiling_of m) f c.requires.ancestor.frame level p c.kind_of-kind.result
    (motion_in m.order c.args.ancestor.now.motion) (Some tile) c.requires.ancestor.deep c.kind_of-kind.ensures.kind
    c.requires.ancestor.is_ancestor.motion_is c.in-Ok.ensures.by_descent in
    let holds = c.in-Ok.ensures.only_tile.here.holds in
    let own = found-whole m settled points dissected f fits level c.requires.ancestor.deep p tile found in
    let lifted = sym c.raise.ensures in
    record {
      only_tile = subst (λ a. IsOnlyHolder (tiling_of m) f p (record { address = a; motion = motion })) lifted
          (only_holder m settled points dissected f fits level c.requires.ancestor.deep p tile found found_tile holds);
      stands = record {
        its_kind = c.in-Ok.ensures.of_supertile.its_kind ∙ sym (ap (λ (a : Address). a.kind) c.raise.ensures);
        of_frame = subst (IsTileOf (children (tiling_of m)) (whole f)) lifted (whole-tile_of (children (tiling_of m)) (whole f) _ own);
        at_depth = ap depth c.raise.ensures ∙ own.same_depth;
        in_frame = subst (λ a. StandsInFrame (points_of m.order) (rule_of m) (whole f) a motion) lifted
            (found-stands m settled points dissected f fits level c.requires.ancestor.deep p tile found found_tile);
        turn_below = c.in-Ok.ensures.of_supertile.moves.turn_below;
        in_order = c.in-Ok.ensures.of_supertile.moves.in_order;
      };
      shift_within = c.in-Ok.ensures.of_supertile.moves.within;
      held = frame_too m settled points dissected f fits level c.requires.ancestor.deep p tile found found_tile holds;
    }

pub returns-in-Ok-clause-visits : goal.returns-in-Ok-clause-visits
returns-in-Ok-clause-visits c =
    let m = c.args.machine.now in
    let level = c.args.ancestor.now.level in
    let p = point_in m.order c.args.point.now in
    record {
      none_refused =
          ap₂ (λ k g. find (is_refused m.order) (values_looked_at (points_of m.order) (rule_of m) k level g p))
          (sym c.kind_of-kind.ensures.kind) (sym c.requires.ancestor.is_ancestor.motion_is)
          ∙ (c.in-Ok.ensures.found_exactly.0 refl).0;
      limit = tt;
    }

pub returns-in-Err-CoordLimit-clause-visits : goal.returns-in-Err-CoordLimit-clause-visits
returns-in-Err-CoordLimit-clause-visits c =
    let m = c.args.machine.now in
    let level = c.args.ancestor.now.level in
    let p = point_in m.order c.args.point.now in
    let cause = subst (IsCauseOf (tiling_of m) c.kind_of-kind.result level
    (motion_in m.order c.args.ancestor.now.motion) p) c.in-Err-CoordLimit.field-0-is
    c.in-Err-CoordLimit.ensures.fault in
    record {
      none_refused = tt;
      limit = record {
        first =
            ap₂ (λ k g. find (is_refused m.order) (values_looked_at (points_of m.order) (rule_of m) k level g p))
            (sym c.kind_of-kind.ensures.kind) (sym c.requires.ancestor.is_ancestor.motion_is)
            ∙ cause.0;
        in_order = cause.1;
      };
    }
