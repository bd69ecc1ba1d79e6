use Rattle.std.proofs.Common.{◌≡◌, ◌+◌, ◌*◌, ◌<◌, [], ◌∷◌, ◌++◌, map, length, sym, ap, ap₂, ◌∙◌, subst, arith, length-append}
use Rattle.std.proofs.Math.ListN.{length-map}
use Rattle.std.proofs.lemmas.List.{map-append}
use Rattle.std.proofs.lemmas.Nat.{div_below}
use Rattle.cyclo_points.specs.Order.{points_of}
use Rattle.rule_model.specs.Tiling.{tiling_of}
use Rattle.tile_place.specs.TurnedVertices.{TurnedTable, widened, place_of}
use Rattle.tile_place.proofs.GreatestTurns.{some_order}
use Rattle.tile_place.proofs.TurnedPlaces.{AreTurnedBelow, row-vertex, one_more-vertex, vertex-below}
use Rattle.tile_place.proofs.turned_vertices.push_rows.Goals as goal

pub overflow_cast-row : goal.overflow_cast-row
overflow_cast-row c =
    let o = c.args.order in
    let turns : c.from-turns.result ≡ (points_of o).order = c.from-turns.ensures ∙ c.n.ensures in
    let some : 0 < c.from-turns.result = subst (λ n. 0 < n) (sym turns) (some_order o) in
    let below = div_below c.loop-row.row c.from-turns.result c.from.result some c.loop-row-test.true in
    omega (arith, below, c.from.ensures)

pub loop-number-preserved : goal.loop-number-preserved
loop-number-preserved c =
    let m = c.args.checked.now in
    let t = tiling_of m in
    let o = c.args.order in
    let sides = c.args.sides in
    let items = c.loop-number.points.items in
    let turns : c.from-turns.result ≡ (points_of o).order = c.from-turns.ensures ∙ c.n.ensures in
    let x : TurnedTable = record { sides = sides; turns = (points_of o).order; points = map widened items } in
    let at = c.loop-row.row * sides + c.loop-number.number in
    let next : at + 1 ≡ c.loop-row.row * sides + (c.loop-number.number + 1) = omega arith in
    let more : map widened c.push.new.self.items ≡ map widened items ++ c.turned_point.result ∷ [] =
    ap (map widened) c.in_ok-push.ensures.items ∙ map-append widened items (c.of.result ∷ []) ∙ ap (λ p. map widened items ++ p ∷ []) c.of.ensures in
    let each = one_more-vertex t x c.requires.hold (map widened c.push.new.self.items) c.turned_point.result c.loop-row.row c.loop-number.number
    (omega (arith, c.loop-number-test.true, c.from-number-end.ensures)) (length-map items widened ∙ c.loop-number.invariant.count) more
    (row-vertex m o c.vertices-vertices.result.now c.loop-row.row (points_of o).order c.from-turns.result
    c.from-turns.result c.loop-number.number c.turned_point.result
    c.requires.order turns turns c.vertices-vertices.ensures.numbers c.vertices-vertices.ensures.each_edge
    c.turned_point.ensures.turned (λ h. c.turned_point.ensures.within) c.turned_point.ensures.in_order)
    c.loop-number.invariant.each in
    record {
      count = ap length c.in_ok-push.ensures.items ∙ length-append items (c.of.result ∷ []) ∙ ap (λ n. n + 1) c.loop-number.invariant.count ∙ next;
      each = subst (AreTurnedBelow t (record { sides = sides; turns = (points_of o).order; points = map widened c.push.new.self.items })) next each;
    }

pub returns : goal.returns
returns c =
    let t = tiling_of c.args.checked.now in
    let o = c.args.order in
    let sides = c.args.sides in
    let items = c.loop-row.points.items in
    let x : TurnedTable = record { sides = sides; turns = (points_of o).order; points = map widened items } in
    let kinds : c.from.result ≡ length t.rule.kinds = c.from.ensures ∙ c.kinds.ensures.kinds ∙ ap length c.uses.ensures ∙ length-map t.rule.kinds _ in
    let all : c.loop-row.row ≡ c.from.result * c.from-turns.result = omega (arith, c.loop-row-test.false, c.loop-row.auto.row-end) in
    let total : c.loop-row.row * sides ≡ length t.rule.kinds * (points_of o).order * sides = ap (λ n. n * sides)
    (all ∙ ap₂ (λ a b. a * b) kinds (c.from-turns.ensures ∙ c.n.ensures)) in
    record {
      hold = λ k h. c.requires.hold k;
      turns = ap (λ o. (points_of o).order) c.requires.order;
      count = length-map items widened ∙ c.loop-row.invariant.count ∙ total;
      each = λ k s e hk hs he.
          let some = c.requires.hold k in
          c.loop-row.invariant.each k s e hk hs he
          (subst (λ n. place_of x k s e < n) (sym total)
          (vertex-below t x k s e hk hs (omega (arith, he, some))));
    }

pub loop-row-init : goal.loop-row-init
loop-row-init c = grind arith

pub nonzero_rem-steps : goal.nonzero_rem-steps
nonzero_rem-steps c = grind arith

pub overflow_cast-steps : goal.overflow_cast-steps
overflow_cast-steps c = grind arith

pub turned_point-requires-clause-turn_below : goal.turned_point-requires-clause-turn_below
turned_point-requires-clause-turn_below c = grind arith
