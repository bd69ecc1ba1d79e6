use Rattle.std.proofs.Common.{◌≡◌, ◌+◌, ◌*◌, ◌<◌, ◌≤◌, ◌/◌, ◌%◌, [], ◌∷◌, length, sym, ap, ap₂, ◌∙◌, subst, arith, length-append}
use Rattle.std.proofs.Math.ListN.{length-map}
use Rattle.rule_model.specs.Tiling.{tiling_of}
use Rattle.theory_substitution.specs.RuleParts.{edge_count}
use Rattle.tile_place.specs.EdgeTurns.{EdgeTable}
use Rattle.tile_place.proofs.Rows.{in-row}
use Rattle.tile_place.proofs.TurnedPlaces.{IsEdgeTurn, one_more-edge}
use Rattle.tile_place.proofs.edge_turns.EdgeTurns.new.Goals as goal

pub loop-place-preserved : goal.loop-place-preserved
loop-place-preserved c =
    let t = tiling_of c.args.checked.now in
    let sides = c.sides-sides.result in
    let place = c.loop-place.place in
    let x : EdgeTable = record { sides = sides; turns = c.loop-place.turns.items } in
    let same = c.sides-sides.ensures in
    let first = c.from-in-loop-place.result in
    let turn = c.turn_if_edge.result in
    let last = subst (λ a. place % sides < edge_count t.rule (place / a) → IsEdgeTurn t (place / a) (place % sides) turn) c.from-in-loop-place.ensures
    (subst (λ b. place % b < edge_count t.rule (place / first)
    → IsEdgeTurn t (place / first) (place % b) turn) c.from-in-loop-place-2.ensures
    c.turn_if_edge.ensures) in
    record {
      count = ap length c.in_ok-push.ensures.items
          ∙ length-append c.loop-place.turns.items (c.turn_if_edge.result ∷ [])
          ∙ ap (λ n. n + 1) c.loop-place.invariant.count;
      each = one_more-edge t x (λ k h. subst (λ n. edge_count t.rule k ≤ n) (sym same)
          (c.requires.vertices.hold k h)) c.push.new.self.items c.turn_if_edge.result place
          c.loop-place.invariant.count c.in_ok-push.ensures.items last c.loop-place.invariant.each;
    }

pub returns : goal.returns
returns c =
    let t = tiling_of c.args.checked.now in
    let sides = c.sides-sides.result in
    let same = c.sides-sides.ensures in
    let kinds : c.kinds.result ≡ length t.rule.kinds = c.kinds.ensures.kinds ∙ ap length c.uses.ensures ∙ length-map t.rule.kinds _ in
    let all : c.loop-place.place ≡ c.from.result * c.from-2.result = omega (arith, c.loop-place-test.false, c.loop-place.auto.place-end) in
    let total : c.loop-place.place ≡ length t.rule.kinds * sides = all ∙ ap₂ (λ a b. a * b) (c.from.ensures ∙ kinds) c.from-2.ensures in
    record {
      hold = λ k h. subst (λ n. edge_count t.rule k ≤ n) (sym same) (c.requires.vertices.hold k h);
      count = c.loop-place.invariant.count ∙ total;
      each = λ k e hk he.
          let some = c.requires.vertices.hold k hk in
          c.loop-place.invariant.each k e hk he (subst (λ n. k * sides + e < n) (sym total)
          (in-row sides k e (length t.rule.kinds) hk (omega (arith, he, some, same))));
    }

pub nonzero_div-kind : goal.nonzero_div-kind
nonzero_div-kind c = grind arith

pub overflow_cast-kind : goal.overflow_cast-kind
overflow_cast-kind c = grind arith

pub nonzero_rem-edge : goal.nonzero_rem-edge
nonzero_rem-edge c = grind arith
