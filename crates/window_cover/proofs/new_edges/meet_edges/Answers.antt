use Rattle.std.proofs.Common.{rules, ◌≡◌, ◌+◌, ◌^◌, ◌<◌, ◌++◌, ◌∷◌, [], ◌&&◌, cond, not, List, length, get_or, sym, ap, ap₂, ◌∙◌, subst, arith, append-nil, add-one}
use Rattle.std.proofs.lemmas.List.{get_or_default}
use Rattle.std.proofs.lemmas.Result.{IfOk-from_err}
use Rattle.cyclo_points.specs.declared.point.Point.{Point}
use Rattle.cyclo_points.specs.Point.{IsWithin}
use Rattle.rule_model.specs.Usable.{origin}
use Rattle.window_cover.specs.Border.{Waiting, has_ends}
use Rattle.window_cover.specs.Packed.{ends_of}
use Rattle.window_cover.specs.NewEdges.{meets_window, closes, without, left_open, opened, start_at, end_at, ends_at}
use Rattle.window_cover.proofs.NewEdges.{fresh-still, next-met, end-next, end-last, left-none}
use Rattle.window_cover.proofs.new_edges.meet_edges.Goals as goal
use Rattle.window_cover.proofs.new_edges.meet_edges.Goals.{then-edge-corners, else-edge-corners}

pub loop-edge-init : goal.loop-edge-init
loop-edge-init c = record {
  met = sym (append-nil (left_open c.args.corners.now 0 c.args.border.now)
      ∙ left-none c.args.corners.now c.args.border.now);
  few = omega arith;
}

pub offset_bounds-corners-edge : goal.offset_bounds-corners-edge
offset_bounds-corners-edge c = search rules

pub bounds-corners-edge : goal.bounds-corners-edge
bounds-corners-edge c = search rules

pub overflow_add-edge : goal.overflow_add-edge
overflow_add-edge c = search rules

pub overflow_add-end : goal.overflow_add-end
overflow_add-end c = search rules

pub offset_bounds-corners-edge-then-edge-corners : goal.offset_bounds-corners-edge-then-edge-corners
offset_bounds-corners-edge-then-edge-corners c = search rules

pub bounds-corners-edge-then-edge-corners : goal.bounds-corners-edge-then-edge-corners
bounds-corners-edge-then-edge-corners c = search rules

pub bounds-corners-0 : goal.bounds-corners-0
bounds-corners-0 c = search rules

pub overflow_cast-mine : goal.overflow_cast-mine
overflow_cast-mine c = search rules

pub meet_edge-requires-clause-start_within : goal.meet_edge-requires-clause-start_within
meet_edge-requires-clause-start_within c = c.requires.within c.loop-edge.edge _ c.loop-edge-test.true

pub meet_edge-requires-clause-end_within : goal.meet_edge-requires-clause-end_within
meet_edge-requires-clause-end_within c =
    let below : c.loop-edge.edge < length c.args.corners.now = c.loop-edge-test.true in
    elim c.if-edge-corners.branch [
      | then-edge-corners w ↦ subst (IsWithin (2 ^ 25)) (sym (ap (λ r. r.now) w.end-is))
          (c.requires.within (c.loop-edge.edge + 1) _ (omega (arith, w.if-edge-corners.true)))
      | else-edge-corners w ↦ subst (IsWithin (2 ^ 25)) (sym (ap (λ r. r.now) w.end-is)) (c.requires.within 0 _ (omega (arith, below)))
    ]

pub meet_edge-requires-clause-centre_within : goal.meet_edge-requires-clause-centre_within
meet_edge-requires-clause-centre_within c = c.requires.centre_within

pub meet_edge-requires-clause-fresh : goal.meet_edge-requires-clause-fresh
meet_edge-requires-clause-fresh c =
    let below : c.loop-edge.edge < length c.args.corners.now = c.loop-edge-test.true in
    let its_end : c.if-edge-corners.end.now ≡ end_at c.args.corners.now c.loop-edge.edge = elim c.if-edge-corners.branch [
      | then-edge-corners w ↦ end-next c.args.corners.now c.loop-edge.edge _ (record { c = [] })
          (omega (arith, w.if-edge-corners.true)) (ap (λ r. r.now) w.end-is)
      | else-edge-corners w ↦ end-last c.args.corners.now c.loop-edge.edge _ (record { c = [] })
          (omega (arith, w.if-edge-corners.false)) (omega (arith, below)) (ap (λ r. r.now) w.end-is)
    ] in
    let its_start : get_or c.args.corners.now c.loop-edge.edge (record { c = [] }) ≡ start_at
    c.args.corners.now c.loop-edge.edge = get_or_default c.args.corners.now c.loop-edge.edge _ origin
    below in
    ap₂ (λ s e. has_ends (ends_of s e) c.loop-edge.border) its_start its_end
    ∙ ap (has_ends (ends_at c.args.corners.now c.loop-edge.edge)) c.loop-edge.invariant.met
    ∙ fresh-still c.args.order c.args.window.now c.args.tile c.args.corners.now c.args.border.now c.requires.new c.loop-edge.edge below

pub returns-in_err-meet_edge-clause-met : goal.returns-in_err-meet_edge-clause-met
returns-in_err-meet_edge-clause-met c = IfOk-from_err c.from_residual.result _ c.from_residual.ensures.0

pub returns-in_err-meet_edge-clause-at_most_12_more : goal.returns-in_err-meet_edge-clause-at_most_12_more
returns-in_err-meet_edge-clause-at_most_12_more c = omega (
  arith,
  c.meet_edge.ensures.one_more,
  c.loop-edge.invariant.few,
  c.loop-edge-test.true,
  c.requires.at_most_12,
)

pub loop-edge-preserved : goal.loop-edge-preserved
loop-edge-preserved c =
    let below : c.loop-edge.edge < length c.args.corners.now = c.loop-edge-test.true in
    let its_end : c.if-edge-corners.end.now ≡ end_at c.args.corners.now c.loop-edge.edge = elim c.if-edge-corners.branch [
      | then-edge-corners w ↦ end-next c.args.corners.now c.loop-edge.edge _ (record { c = [] })
          (omega (arith, w.if-edge-corners.true)) (ap (λ r. r.now) w.end-is)
      | else-edge-corners w ↦ end-last c.args.corners.now c.loop-edge.edge _ (record { c = [] })
          (omega (arith, w.if-edge-corners.false)) (omega (arith, below)) (ap (λ r. r.now) w.end-is)
    ] in
    let its_start : get_or c.args.corners.now c.loop-edge.edge (record { c = [] }) ≡ start_at
    c.args.corners.now c.loop-edge.edge = get_or_default c.args.corners.now c.loop-edge.edge _ origin
    below in
    let o = c.args.order in
    let w = c.args.window.now in
    let step = λ (s e : Point) (ws : List Waiting). without (ends_of s e) ws
    ++ cond (meets_window o w s e && not (closes (ends_of s e) ws))
    (record { ends = ends_of s e; edge = record { tile = c.args.tile; edge = c.loop-edge.edge } } ∷ [])
    [] in
    let met = c.in_ok-meet_edge.ensures.met ∙ ap₂ (λ s e. step s e c.loop-edge.border) its_start its_end
    ∙ ap (step (start_at c.args.corners.now c.loop-edge.edge) (end_at c.args.corners.now c.loop-edge.edge)) c.loop-edge.invariant.met in
    let next = next-met o w c.args.tile c.args.corners.now c.args.border.now c.requires.new c.loop-edge.edge below c.meet_edge.new.border met in
    record {
      met = next ∙ ap (λ n. left_open c.args.corners.now n c.args.border.now
          ++ opened o w c.args.tile c.args.corners.now n c.args.border.now) (sym (add-one c.loop-edge.edge));
      few = omega (arith, c.in_ok-meet_edge.ensures.one_more, c.loop-edge.invariant.few);
    }

pub returns-clause-met : goal.returns-clause-met
returns-clause-met c =
    let all : c.loop-edge.edge ≡ length c.args.corners.now = omega (arith, c.loop-edge.auto.edge-end, c.loop-edge-test.false) in
    c.loop-edge.invariant.met ∙ ap (λ n. left_open c.args.corners.now n c.args.border.now
    ++ opened c.args.order c.args.window.now c.args.tile c.args.corners.now n c.args.border.now) all

pub returns-clause-at_most_12_more : goal.returns-clause-at_most_12_more
returns-clause-at_most_12_more c = omega (arith, c.loop-edge.invariant.few, c.loop-edge.auto.edge-end, c.requires.at_most_12)
