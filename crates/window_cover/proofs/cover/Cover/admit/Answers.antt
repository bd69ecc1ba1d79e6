use Rattle.std.proofs.Common.{rules, ◌≡◌, ℕ, ◌^◌, ◌<◌, ◌≤◌, List, [], ◌∷◌, ◌++◌, length, get_or, refl, sym, ap, ap₂, ◌∙◌, subst, arith, lit≤}
use Rattle.cyclo_points.specs.declared.point.Point.{Point}
use Rattle.cyclo_points.specs.Point.{IsWithin}
use Rattle.cyclo_points.proofs.Within.{point_wider}
use Rattle.rule_model.specs.declared.rule.Rule.{Rule}
use Rattle.rule_model.specs.Tiling.{tiling_of}
use Rattle.std.proofs.Math.ListN.{length-map}
use Rattle.std.proofs.lemmas.List.{get_or_default}
use Rattle.std.proofs.lemmas.Result.{IfOk-from_err}
use Rattle.cyclo_points.specs.declared.order.Order.{Order}
use Rattle.rule_model.specs.Usable.{origin}
use Rattle.window_cover.specs.declared.found_tile.FoundTile.{FoundTile}
use Rattle.window_cover.specs.Admitted.{IsNotAdmitted, found_as}
use Rattle.window_cover.specs.Found.{CoverValue}
use Rattle.window_cover.specs.Kept.{found_in, IsKept}
use Rattle.tile_place.specs.Keys.{FitsKey}
use Rattle.window_cover.specs.NewEdges.{AreNew, left_open, opened}
use Rattle.window_cover.specs.declared.cover_fault.CoverFault.TheVariants.{NoMemory}
use Rattle.tile_place.proofs.EachOrder.{order-fits}
use Rattle.theory_walks.proofs.Outcomes.{if_err-is}
use Rattle.window_cover.proofs.Keeping.{kept-more, kept-one_more, found-one_more}
use Rattle.window_cover.specs.Working.{Working, working}
use Rattle.window_cover.proofs.Unpacked.{words-again, points-again}
use Rattle.window_cover.proofs.cover.Cover.admit.Goals as goal

pub returns-then-refused-clause-cause : goal.returns-then-refused-clause-cause
returns-then-refused-clause-cause c = (refl, sym (c.refused.ensures.in_order c.args.machine.now.order c.requires.in_order) ∙ c.if-refused.true)

pub returns-then-number-ge-MOST_TILES-clause-cause : goal.returns-then-number-ge-MOST_TILES-clause-cause
returns-then-number-ge-MOST_TILES-clause-cause c =
    let held = c.self.inside.found.ok in
    let count : c.len-number.result ≡ length c.self.inside.found.items = omega (arith, held, c.len-number.ensures) in
    let seen : length c.args.self.now.found ≡ length c.self.inside.found.items = ap
    (λ (v : CoverValue). length v.found) (sym c.self.view_is) ∙ length-map c.self.inside.found.items _ in (
      omega (arith, count, seen, c.if-number-ge-MOST_TILES.true),
      sym
          (c.refused.ensures.in_order c.args.machine.now.order c.requires.in_order) ∙ c.if-refused.false,
    )

pub returns-in_err-extend_from_slice-clause-admitted : goal.returns-in_err-extend_from_slice-clause-admitted
returns-in_err-extend_from_slice-clause-admitted c = IfOk-from_err c.from_residual.result _ c.from_residual.ensures.0

pub returns-in_err-extend_from_slice-clause-cause : goal.returns-in_err-extend_from_slice-clause-cause
returns-in_err-extend_from_slice-clause-cause c = if_err-is
    (IsNotAdmitted (tiling_of c.args.machine.now) (working c.args.self.now) c.args.tile.now)
    c.from_residual.result NoMemory c.from_residual.ensures.1 tt

pub returns-in_err-push-clause-admitted : goal.returns-in_err-push-clause-admitted
returns-in_err-push-clause-admitted c = IfOk-from_err c.from_residual-in_err-push.result _ c.from_residual-in_err-push.ensures.0

pub returns-in_err-push-clause-cause : goal.returns-in_err-push-clause-cause
returns-in_err-push-clause-cause c = if_err-is
    (IsNotAdmitted (tiling_of c.args.machine.now) (working c.args.self.now) c.args.tile.now)
    c.from_residual-in_err-push.result NoMemory c.from_residual-in_err-push.ensures.1 tt

pub returns-in_err-meet_edges-clause-admitted : goal.returns-in_err-meet_edges-clause-admitted
returns-in_err-meet_edges-clause-admitted c = IfOk-from_err c.from_residual-in_err-meet_edges.result _ c.from_residual-in_err-meet_edges.ensures.0

pub returns-in_err-meet_edges-clause-cause : goal.returns-in_err-meet_edges-clause-cause
returns-in_err-meet_edges-clause-cause c = if_err-is
    (IsNotAdmitted (tiling_of c.args.machine.now) (working c.args.self.now) c.args.tile.now)
    c.from_residual-in_err-meet_edges.result NoMemory c.from_residual-in_err-meet_edges.ensures.1 tt

pub as_slice-requires : goal.as_slice-requires
as_slice-requires c = search rules

pub as_slice-requires-2 : goal.as_slice-requires-2
as_slice-requires-2 c = search rules

pub overflow_cast-number : goal.overflow_cast-number
overflow_cast-number c = search rules

pub put_corners-requires-clause-exists : goal.put_corners-requires-clause-exists
put_corners-requires-clause-exists c = c.requires.exists

pub put_corners-requires-clause-turn_below : goal.put_corners-requires-clause-turn_below
put_corners-requires-clause-turn_below c = c.requires.turn_below

pub put_corners-requires-clause-shift_within : goal.put_corners-requires-clause-shift_within
put_corners-requires-clause-shift_within c = c.refused.ensures.within c.if-refused.false

pub put_corners-requires-clause-in_order : goal.put_corners-requires-clause-in_order
put_corners-requires-clause-in_order c = c.requires.in_order

pub invariant_of-self : goal.invariant_of-self
invariant_of-self c = subst (λ ds. IsKept ds c.self.inside.found.items c.self.inside.border)
    (sym c.in_err-extend_from_slice.ensures.items) c.self.invariant

pub invariant_of-self-in_err-push : goal.invariant_of-self-in_err-push
invariant_of-self-in_err-push c =
    subst (λ xs. IsKept c.extend_from_slice.new.self.items xs c.self.inside.border) (sym c.in_err-push.ensures.items)
    (kept-more c.self.inside.digits.items c.extend_from_slice.new.self.items c.as_slice.result.now
    c.in_ok-extend_from_slice.ensures.items c.self.inside.found.items c.self.inside.border
    c.self.invariant)

pub meet_edges-requires-clause-at_most_12 : goal.meet_edges-requires-clause-at_most_12
meet_edges-requires-clause-at_most_12 c = subst (λ ps. length ps ≤ 12) (sym c.as_slice-2.ensures.value) c.put_corners.ensures.at_most_12

pub meet_edges-requires-clause-within : goal.meet_edges-requires-clause-within
meet_edges-requires-clause-within c =
    subst (λ (ps : List Point). (k : ℕ) (d : Point) → k < length ps → IsWithin (2 ^ 25) (get_or ps k d)) (sym c.as_slice-2.ensures.value)
    (λ k d h. subst (IsWithin (2 ^ 25)) (get_or_default c.put_corners.new.corners.items k origin d h) (c.put_corners.ensures.corners.each k h).within)

pub meet_edges-requires-clause-centre_within : goal.meet_edges-requires-clause-centre_within
meet_edges-requires-clause-centre_within c =
    point_wider (2 ^ 22) (2 ^ 25) _ (lit≤ tt) (subst (λ (v : CoverValue). IsWithin (2 ^ 22) v.window.centre)
    (sym c.self.view_is) c.requires.window.centre_within)

pub meet_edges-requires-clause-new : goal.meet_edges-requires-clause-new
meet_edges-requires-clause-new c =
    subst (λ ps. AreNew ps c.self.inside.border) (sym c.as_slice-2.ensures.value)
    (subst (λ ws. AreNew c.put_corners.new.corners.items ws) (words-again c.self.inside.border)
    (subst (λ (v : CoverValue). AreNew c.put_corners.new.corners.items (working v).border)
    (sym c.self.view_is) (c.requires.new c.put_corners.new.corners.items c.put_corners.ensures.corners)))

pub invariant_of-self-in_err-meet_edges : goal.invariant_of-self-in_err-meet_edges
invariant_of-self-in_err-meet_edges c =
    let held = c.self.inside.found.ok in
    let count : c.len-number.result ≡ length c.self.inside.found.items = omega (arith, held, c.len-number.ensures) in
    let digits = c.self.inside.digits.ok in
    let first : c.len-first.result ≡ length c.self.inside.digits.items = omega (arith, digits, c.len-first.ensures) in
    let own = c.args.tile.now.addr.digits.items in
    let tile : FoundTile = record {
      motion = c.args.tile.now.motion;
      first = c.len-first.result;
      kind = c.args.tile.now.kind;
      depth = c.depth.result;
    } in
    let more = c.in_ok-extend_from_slice.ensures.items ∙ ap (λ l. c.self.inside.digits.items ++ l) c.as_slice.ensures.value in
    let turn = c.requires.turn_below in
    let turns = order-fits c.args.machine.now.order in
    let key : FitsKey c.args.tile.now.motion c.args.tile.now.kind = record {
      within = c.refused.ensures.within c.if-refused.false;
      turn_fits = omega (arith, turn, turns);
      kind_fits = search rules;
    } in
    kept-one_more c.self.inside.digits.items c.extend_from_slice.new.self.items own more tile first
    c.depth.ensures.digits c.depth.ensures.at_most_64 c.self.inside.found.items c.push.new.self.items
    c.in_ok-push.ensures.items
    key c.self.inside.border c.meet_edges.new.border c.self.invariant
    (omega (arith, count, c.if-number-ge-MOST_TILES.false)) c.meet_edges.ensures.at_most_12_more

pub invariant_of-self-2 : goal.invariant_of-self-2
invariant_of-self-2 c =
    let held = c.self.inside.found.ok in
    let count : c.len-number.result ≡ length c.self.inside.found.items = omega (arith, held, c.len-number.ensures) in
    let digits = c.self.inside.digits.ok in
    let first : c.len-first.result ≡ length c.self.inside.digits.items = omega (arith, digits, c.len-first.ensures) in
    let own = c.args.tile.now.addr.digits.items in
    let tile : FoundTile = record {
      motion = c.args.tile.now.motion;
      first = c.len-first.result;
      kind = c.args.tile.now.kind;
      depth = c.depth.result;
    } in
    let more = c.in_ok-extend_from_slice.ensures.items ∙ ap (λ l. c.self.inside.digits.items ++ l) c.as_slice.ensures.value in
    let turn = c.requires.turn_below in
    let turns = order-fits c.args.machine.now.order in
    let key : FitsKey c.args.tile.now.motion c.args.tile.now.kind = record {
      within = c.refused.ensures.within c.if-refused.false;
      turn_fits = omega (arith, turn, turns);
      kind_fits = search rules;
    } in
    kept-one_more c.self.inside.digits.items c.extend_from_slice.new.self.items own more tile first
    c.depth.ensures.digits c.depth.ensures.at_most_64 c.self.inside.found.items c.push.new.self.items
    c.in_ok-push.ensures.items
    key c.self.inside.border c.meet_edges.new.border c.self.invariant
    (omega (arith, count, c.if-number-ge-MOST_TILES.false)) c.meet_edges.ensures.at_most_12_more

pub returns-clause-admitted : goal.returns-clause-admitted
returns-clause-admitted c =
    let held = c.self.inside.found.ok in
    let count : c.len-number.result ≡ length c.self.inside.found.items = omega (arith, held, c.len-number.ensures) in
    let seen : length c.args.self.now.found ≡ length c.self.inside.found.items = ap
    (λ (v : CoverValue). length v.found) (sym c.self.view_is) ∙ length-map c.self.inside.found.items _ in
    let digits = c.self.inside.digits.ok in
    let first : c.len-first.result ≡ length c.self.inside.digits.items = omega (arith, digits, c.len-first.ensures) in
    let own = c.args.tile.now.addr.digits.items in
    let tile : FoundTile = record {
      motion = c.args.tile.now.motion;
      first = c.len-first.result;
      kind = c.args.tile.now.kind;
      depth = c.depth.result;
    } in
    let more = c.in_ok-extend_from_slice.ensures.items ∙ ap (λ l. c.self.inside.digits.items ++ l) c.as_slice.ensures.value in
    let o = c.args.machine.now.order in
    let w = c.self.inside.window in
    let ps = c.put_corners.new.corners.items in
    let after = λ (v : Working) (cs : List Point) (i : ℕ) (b : Order). left_open cs (length cs) v.border
    ++ opened b v.window i cs (length cs) v.border in
    let inside : Working = record {
      window = w;
      found = found_in c.self.inside.digits.items c.self.inside.found.items;
      border = c.self.inside.border;
    } in
    let kept : inside ≡ working c.args.self.now
    = ap (λ ws. record {
      window = w;
      found = found_in c.self.inside.digits.items c.self.inside.found.items;
      border = ws;
    }) (sym (words-again c.self.inside.border)) ∙ ap working c.self.view_is in
    record {
      unrefused = sym (c.refused.ensures.in_order o c.requires.in_order) ∙ c.if-refused.false;
      shift_within = c.refused.ensures.within c.if-refused.false;
      room = omega (arith, count, seen, c.if-number-ge-MOST_TILES.false);
      same_window = ap (λ (v : CoverValue). v.window) c.self.view_is;
      found = found-one_more c.self.inside.digits.items c.extend_from_slice.new.self.items own more tile first
          c.depth.ensures.digits c.depth.ensures.at_most_64 c.self.inside.found.items c.push.new.self.items
          c.in_ok-push.ensures.items c.self.invariant.spans
          ∙ ap (λ (v : CoverValue). v.found ++ found_as c.args.tile.now ∷ []) c.self.view_is;
      corners = ps;
      are_corners = c.put_corners.ensures.corners;
      border = words-again c.meet_edges.new.border ∙ c.in_ok-meet_edges.ensures.met
          ∙ ap₂ (λ cs b. after inside cs c.len-number.result b) c.as_slice-2.ensures.value
          (c.order-order.ensures.order ∙ ap (λ (r : Rule). r.order) c.checked.ensures.rule)
          ∙ ap (λ i. after inside ps i o) (count ∙ sym seen)
          ∙ ap (λ (v : Working). after v ps (length c.args.self.now.found) o) kept;
    }

pub returns-clause-same_ends : goal.returns-clause-same_ends
returns-clause-same_ends c = points-again c.meet_edges.new.border

pub returns-in_err-extend_from_slice-clause-same_ends : goal.returns-in_err-extend_from_slice-clause-same_ends
returns-in_err-extend_from_slice-clause-same_ends c = IfOk-from_err c.from_residual.result _ c.from_residual.ensures.0

pub returns-in_err-push-clause-same_ends : goal.returns-in_err-push-clause-same_ends
returns-in_err-push-clause-same_ends c = IfOk-from_err c.from_residual-in_err-push.result _ c.from_residual-in_err-push.ensures.0

pub returns-in_err-meet_edges-clause-same_ends : goal.returns-in_err-meet_edges-clause-same_ends
returns-in_err-meet_edges-clause-same_ends c = IfOk-from_err c.from_residual-in_err-meet_edges.result _ c.from_residual-in_err-meet_edges.ensures.0
