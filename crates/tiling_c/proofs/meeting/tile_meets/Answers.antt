use Rattle.std.proofs.Common.{◌≡◌, ◌^◌, All, List, sym, ap, ◌∙◌, subst, lit≤}
use Rattle.std.proofs.lemmas.Bool.{false≢true}
use Rattle.cyclo_points.specs.declared.order.Order.{Order}
use Rattle.cyclo_points.specs.declared.point.Point.{Point}
use Rattle.cyclo_points.specs.Point.{IsWithin}
use Rattle.cyclo_points.proofs.Within.{point_wider}
use Rattle.plane_geom.specs.Spots.{reals_of, spots_of}
use Rattle.rule_model.specs.declared.rule.Rule.{Rule}
use Rattle.rule_model.specs.Tiling.{tiling_of}
use Rattle.tile_place.proofs.Plane.{IsSettled}
use Rattle.theory_descents.specs.Insets.{IsBeyondBox}
use Rattle.theory_descents.specs.MeetingTest.{polygon_meets}
use Rattle.window_descent.specs.Standing.{window_box}
use Rattle.c_values.specs.Tiles.{motion_of}
use Rattle.tiling_c.proofs.Meets.{beyond_window, corners_within, meets_window}
use Rattle.tiling_c.proofs.meeting.tile_meets.Goals as goal

pub beside-requires-clause-within : goal.beside-requires-clause-within
beside-requires-clause-within c =
    subst (All (IsWithin (2 ^ 25))) (sym c.as_slice-corners.ensures.value)
    (corners_within (tiling_of c.args.machine.now) c.args.tile.now.kind (motion_of c.args.tile.now)
    c.put_corners.new.corners.items c.put_corners.ensures.corners)

pub beside-requires-clause-centre_within : goal.beside-requires-clause-centre_within
beside-requires-clause-centre_within c = point_wider (2 ^ 22) (2 ^ 25) _ (lit≤ tt) c.requires.window_fits.centre_within

pub meets-requires-clause-within : goal.meets-requires-clause-within
meets-requires-clause-within c =
    subst (All (IsWithin (2 ^ 25))) (sym c.as_slice-corners.ensures.value)
    (corners_within (tiling_of c.args.machine.now) c.args.tile.now.kind (motion_of c.args.tile.now)
    c.put_corners.new.corners.items c.put_corners.ensures.corners)

pub meets-requires-clause-centre_within : goal.meets-requires-clause-centre_within
meets-requires-clause-centre_within c = point_wider (2 ^ 22) (2 ^ 25) _ (lit≤ tt) c.requires.window_fits.centre_within

pub returns-in-Beyond : goal.returns-in-Beyond
returns-in-Beyond c =
    let m = c.args.machine.now in
    let w = c.args.window.now in
    let o = c.order-order.result in
    let corners = c.put_corners.new.corners.items in
    let same : o ≡ m.order = c.order-order.ensures.order ∙ ap (λ (r : Rule). r.order) c.checked.ensures.rule in
    let settled : IsSettled m = record {
      accepted = c.checked.ensures.accepted;
      usable = c.checked.ensures.usable;
      same_child_kinds = c.checked.ensures.same_child_kinds;
    } in
    let beyond = subst (λ (q : Order). IsBeyondBox (reals_of q) (window_box q w) (spots_of q corners)) same
    (subst (λ (ps : List Point). IsBeyondBox (reals_of o) (window_box o w) (spots_of o ps))
    c.as_slice-corners.ensures.value c.in-Beyond.ensures) in (
      λ h. absurd (false≢true h),
      λ h. absurd (beyond_window m settled c.args.tile.now c.requires.is_tile.kind_exists corners c.put_corners.ensures.corners w beyond h),
    )

pub returns-in-Within : goal.returns-in-Within
returns-in-Within c =
    let m = c.args.machine.now in
    let w = c.args.window.now in
    let corners = c.put_corners.new.corners.items in
    let o = c.order-order.result in
    let same : o ≡ m.order = c.order-order.ensures.order ∙ ap (λ (r : Rule). r.order) c.checked.ensures.rule in
    let settled : IsSettled m = record {
      accepted = c.checked.ensures.accepted;
      usable = c.checked.ensures.usable;
      same_child_kinds = c.checked.ensures.same_child_kinds;
    } in
    let test : c.meets.result ≡ polygon_meets (reals_of m.order) (window_box m.order w) (spots_of m.order corners) =
    subst (λ (q : Order). c.meets.result ≡ polygon_meets (reals_of q) (window_box q w) (spots_of q corners)) same
    (subst (λ (ps : List Point). c.meets.result ≡ polygon_meets (reals_of o) (window_box o w) (spots_of o ps))
    c.as_slice-corners.ensures.value c.meets.ensures) in
    meets_window m settled c.args.tile.now c.requires.is_tile.kind_exists corners c.put_corners.ensures.corners w
    c.requires.window_fits.some_width c.requires.window_fits.some_height c.meets.result test
