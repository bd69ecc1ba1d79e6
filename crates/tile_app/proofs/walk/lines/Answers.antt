use Rattle.std.proofs.Common.{rules, ◌≡◌, ◌+◌, ◌*◌, ◌^◌, ◌++◌, [], get_or, take, drop, None, Some, string_bytes, refl, sym, ap, ◌∙◌, subst, arith, append_assoc, append-nil}
use Rattle.std.proofs.lemmas.List.{take_more}
use Rattle.theory_addresses.specs.Address.{Address}
use Rattle.cyclo_points.specs.Motion.{motion_in}
use Rattle.cyclo_points.proofs.Within.{point_wider}
use Rattle.theory_walks.specs.Frames.{whole}
use Rattle.theory_walks.specs.Paths.{CanBeWalked, Leads}
use Rattle.rule_model.specs.Tiling.{tiling_of}
use Rattle.tile_place.specs.Crossed.{IsOnlyAcross}
use Rattle.tile_place.proofs.OneAcross.{one_across}
use Rattle.tile_shape.specs.Views.{address_of}
use Rattle.tile_app.specs.TileLine.{tile_line}
use Rattle.tile_app.specs.Walk.{IsWalkLine, AreLines}
use Rattle.tile_app.proofs.Walking.{one_line, ok_inside, of_ok, ahead_at}
use Rattle.tile_app.proofs.walk.lines.Goals as goal

pub loop-edge-init : goal.loop-edge-init
loop-edge-init g c =
    let m = c.args.machine.now in
    let tile = c.base_tile-tile.result in
    let stands = c.base_tile-tile.ensures.stands in
    let same : c.into_bytes-text.result.items ≡ string_bytes c.in_ok-first_line.field-0 = search rules in
    record {
      first = string_bytes c.in_ok-first_line.field-0;
      after = [];
      base = subst (λ (a : Address). IsWalkLine (tiling_of m) (whole c.args.frame.now) a None
          (string_bytes c.in_ok-first_line.field-0)) c.base_tile-tile.ensures.base
          (record {
            motion = motion_in m.order tile.motion;
            stands = stands.in_frame;
            is_line = c.in_ok-first_line.ensures m.order stands.in_order stands.its_kind;
          });
      along = (c.base_tile-tile.ensures.base, refl);
      is_text = same ∙ sym (append-nil (string_bytes c.in_ok-first_line.field-0));
      stands = stands;
      within = c.base_tile-tile.ensures.at_origin;
      ahead = subst (λ (a : Address). CanBeWalked (tiling_of m) a c.args.path.now) (sym c.base_tile-tile.ensures.base) c.requires.walked;
    }

pub step-requires-clause-within : goal.step-requires-clause-within
step-requires-clause-within g c = point_wider (512 * c.loop-edge.edge-index) (2 ^ 24) c.loop-edge.tile.motion.shift
    (omega (arith, c.loop-edge-test.true, c.requires.at_most_1000)) c.loop-edge.invariant.within

pub unwrap-back-requires : goal.unwrap-back-requires
unwrap-back-requires g c =
    let ahead = ahead_at (tiling_of c.args.machine.now)
    (address_of c.loop-edge.tile.addr) c.loop-edge.invariant.ahead.0 c.args.path.now c.loop-edge.edge-index
    c.loop-edge-test.true c.loop-edge.invariant.ahead.1 in
    ok_inside (tiling_of c.args.machine.now) (address_of c.loop-edge.tile.addr) ahead.0
    (get_or c.args.path.now c.loop-edge.edge-index 0) ahead.1 c.step.result c.step.ensures.outside_on_boundary ahead.2

pub loop-edge-preserved : goal.loop-edge-preserved
loop-edge-preserved g c =
    let m = c.args.machine.now in
    let t = tiling_of c.args.machine.now in
    let a = address_of c.loop-edge.tile.addr in
    let x = address_of c.step.new.tile.addr in
    let e = get_or c.args.path.now c.loop-edge.edge-index 0 in
    let inv = c.loop-edge.invariant in
    let across : IsOnlyAcross t a e x c.unwrap-back.result = of_ok c.step.result c.unwrap-back.result
    (λ back. IsOnlyAcross t a e x back) c.unwrap-back.ensures c.step.ensures.only_tile_across in
    let stands = c.step.ensures.stands in
    let ahead = ahead_at t a inv.ahead.0 c.args.path.now c.loop-edge.edge-index c.loop-edge-test.true inv.ahead.1 in
    let line = tile_line m.order x (motion_in m.order c.step.new.tile.motion) (Some c.unwrap-back.result) in
    record {
      first = inv.first;
      after = inv.after ++ line;
      base = inv.base;
      along = subst (λ p. AreLines t (whole c.args.frame.now) (whole c.args.frame.now) p x (inv.after ++ line))
          (sym (take_more c.args.path.now c.loop-edge.edge-index 0 c.loop-edge-test.true))
          (one_line t (whole c.args.frame.now) (whole c.args.frame.now) a x
          (take c.loop-edge.edge-index c.args.path.now) inv.after line e c.unwrap-back.result inv.along across
          (record { motion = motion_in m.order c.step.new.tile.motion; stands = stands.in_frame; is_line = refl }));
      is_text = c.in_ok-write_line.ensures m.order stands.in_order stands.its_kind ∙ ap (λ xs. xs ++ line) inv.is_text
          ∙ append_assoc inv.first inv.after line;
      stands = stands;
      within = point_wider (512 * c.loop-edge.edge-index + 512) (512 * (c.loop-edge.edge-index + 1)) c.step.new.tile.motion.shift (omega arith)
          (c.step.ensures.within (512 * c.loop-edge.edge-index) inv.within);
      ahead = (
        inv.ahead.0,
        subst (λ y. Leads t y (drop (c.loop-edge.edge-index + 1) c.args.path.now) inv.ahead.0)
            (one_across t a ahead.0 x e ahead.1 c.unwrap-back.result ahead.2.across across).0 ahead.3,
      );
    }
