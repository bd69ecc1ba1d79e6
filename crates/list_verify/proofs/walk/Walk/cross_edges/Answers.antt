use Rattle.std.proofs.Common.{◌+◌, ◌<◌, ◌^◌, ℕ, List, length, get_or, refl, sym, subst, arith, lit≤}
use Rattle.cyclo_points.specs.declared.point.Point.{Point}
use Rattle.cyclo_points.specs.Point.{IsWithin}
use Rattle.cyclo_points.proofs.Within.{point_wider}
use Rattle.theory_walks.specs.Frames.{FrameValue}
use Rattle.rule_model.specs.Usable.{origin}
use Rattle.list_verify.specs.declared.found_lines.FoundLines.{FoundLines}
use Rattle.list_verify.specs.FoundLines.{AreCrossedOver}
use Rattle.list_verify.specs.Walk.{tiling_in}
use Rattle.list_verify.proofs.Chains.{get_or-default}
use Rattle.list_verify.proofs.EachEdge as each
use Rattle.list_verify.proofs.EachEdge.{HasCrossed}
use Rattle.list_verify.proofs.OneCrossing.{its-place}
use Rattle.list_verify.proofs.Onward.{stands, now, stopped}
use Rattle.list_verify.proofs.walk.Walk.cross_edges.Goals.{then-is_left+in-Ok, else-is_left}
use Rattle.list_verify.proofs.walk.Walk.cross_edges.Goals as goal

pub bounds-self-line : goal.bounds-self-line
bounds-self-line g c = (its-place c.args.self.now c.walk_laws.ensures c.args.frame.now c.args.found.now
    c.requires.at_line.under_way c.args.line c.requires.at_line.line_found).below

pub put_corners-requires-clause-exists : goal.put_corners-requires-clause-exists
put_corners-requires-clause-exists g c = each.kind-there c.args.self.now c.walk_laws.ensures c.args.frame.now
    c.args.found.now c.requires.at_line.under_way c.args.line c.requires.at_line.line_found _ c.index-self-line.result refl

pub put_corners-requires-clause-turn_below : goal.put_corners-requires-clause-turn_below
put_corners-requires-clause-turn_below g c = each.turn-below c.args.self.now c.walk_laws.ensures c.args.frame.now
    c.args.found.now c.requires.at_line.under_way c.args.line c.requires.at_line.line_found _ c.index-self-line.result refl

pub put_corners-requires-clause-shift_within : goal.put_corners-requires-clause-shift_within
put_corners-requires-clause-shift_within g c = each.shift-within c.args.self.now c.walk_laws.ensures c.args.frame.now
    c.args.found.now c.requires.at_line.under_way c.args.line c.requires.at_line.line_found _ c.index-self-line.result refl

pub put_corners-requires-clause-in_order : goal.put_corners-requires-clause-in_order
put_corners-requires-clause-in_order g c = each.in-order c.args.self.now c.walk_laws.ensures c.args.frame.now
    c.args.found.now c.requires.at_line.under_way c.args.line c.requires.at_line.line_found _ c.index-self-line.result refl

pub loop-edge-init : goal.loop-edge-init
loop-edge-init g c = (stands c.args.self.now c.args.frame.now c.args.found.now c.requires.at_line.under_way, λ e l. absurd (none_below e l))
  where
    none_below : (e : ℕ) → e < 0 → ⊥
    none_below e h = omega arith

-- ---- an edge
pub is_left-requires-clause-within : goal.is_left-requires-clause-within
is_left-requires-clause-within g c =
    subst (λ (ps : List Point). (k : ℕ) (d : Point) → k < length ps → IsWithin (2 ^ 25) (get_or ps k d)) (sym c.as_slice.ensures.value)
    (λ k d h. subst (IsWithin (2 ^ 25)) (get_or-default c.put_corners.new.corners.items k origin d h) (c.put_corners.ensures.corners.each k h).within)

pub is_left-requires-clause-centre_within : goal.is_left-requires-clause-centre_within
is_left-requires-clause-centre_within g c = point_wider (2 ^ 22) (2 ^ 25) _ (lit≤ tt) c.requires.at_line.under_way.on_frame.window_fits.centre_within

pub is_left-requires-clause-marked : goal.is_left-requires-clause-marked
is_left-requires-clause-marked g c =
    let below = c.loop-edge-test.true in
    each.mark-there c.args.self.now c.walk_laws.ensures c.args.frame.now c.args.found.now c.requires.at_line.under_way
    c.args.line c.requires.at_line.line_found _ c.index-self-line.result refl c.put_corners.new.corners.items
    c.put_corners.ensures.corners c.put_corners.ensures.at_most_12
    c.loop-edge.frame c.loop-edge.found c.loop-edge.invariant.0 c.loop-edge.edge (omega (arith, below))

pub cross_edge-requires-clause-at_line : goal.cross_edge-requires-clause-at_line
cross_edge-requires-clause-at_line g c =
    let below = c.loop-edge-test.true in record {
      under_way = now c.args.self.now c.args.frame.now c.loop-edge.frame c.args.found.now c.loop-edge.found c.loop-edge.invariant.0;
      line_found = each.still-found c.args.self.now c.walk_laws.ensures c.args.frame.now c.args.found.now c.requires.at_line.under_way
          c.args.line c.requires.at_line.line_found _ c.index-self-line.result refl c.put_corners.new.corners.items
          c.put_corners.ensures.corners c.put_corners.ensures.at_most_12
          c.loop-edge.frame c.loop-edge.found c.loop-edge.invariant.0 c.loop-edge.edge (omega (arith, below));
    }

pub cross_edge-requires-clause-edge_exists : goal.cross_edge-requires-clause-edge_exists
cross_edge-requires-clause-edge_exists g c =
    let below = c.loop-edge-test.true in
    each.edge-exists c.args.self.now c.walk_laws.ensures c.args.frame.now c.args.found.now c.requires.at_line.under_way
    c.args.line c.requires.at_line.line_found _ c.index-self-line.result refl c.put_corners.new.corners.items
    c.put_corners.ensures.corners c.put_corners.ensures.at_most_12
    c.loop-edge.frame c.loop-edge.found c.loop-edge.invariant.0 c.loop-edge.edge (omega (arith, below))

pub cross_edge-requires-clause-edge_meets : goal.cross_edge-requires-clause-edge_meets
cross_edge-requires-clause-edge_meets g c =
    let below = c.loop-edge-test.true in
    each.edge-meets c.args.self.now c.walk_laws.ensures c.args.frame.now c.args.found.now c.requires.at_line.under_way
    c.args.line c.requires.at_line.line_found _ c.index-self-line.result refl c.put_corners.new.corners.items
    c.put_corners.ensures.corners c.put_corners.ensures.at_most_12
    c.loop-edge.frame c.loop-edge.found c.loop-edge.invariant.0 c.loop-edge.edge
    (omega (arith, below)) c.args.self.now.machine.now.order refl c.as_slice.result.now c.as_slice.ensures.value
    (c.is_left.ensures.meets c.if-is_left.true)

pub loop-edge-preserved : goal.loop-edge-preserved
loop-edge-preserved g c =
    let below = c.loop-edge-test.true in
    let within : c.loop-edge.edge < length c.put_corners.new.corners.items = omega (arith, below) in
    elim c.if-is_left.branch [
      | then-is_left+in-Ok w ↦ subst (λ (k : FrameValue). HasCrossed c.args.self.now c.args.frame.now k
          c.args.found.now c.if-is_left.found c.args.line (c.loop-edge.edge + 1)) (sym w.frame-is)
          (subst (λ (o : FoundLines). HasCrossed c.args.self.now c.args.frame.now w.cross_edge.new.frame
          c.args.found.now o c.args.line (c.loop-edge.edge + 1)) (sym w.found-is)
          (each.crossed c.args.self.now c.walk_laws.ensures c.args.frame.now c.args.found.now c.requires.at_line.under_way
          c.args.line c.requires.at_line.line_found _ c.index-self-line.result refl c.put_corners.new.corners.items
          c.put_corners.ensures.corners c.put_corners.ensures.at_most_12
          c.loop-edge.frame c.loop-edge.found c.loop-edge.invariant.0 c.loop-edge.edge
          within w.cross_edge.new.frame w.cross_edge.new.found w.in-Ok.ensures.step.goes_on c.loop-edge.invariant.1
          w.in-Ok.ensures.crossed))
      | else-is_left w ↦ subst (λ (k : FrameValue). HasCrossed c.args.self.now c.args.frame.now k
          c.args.found.now c.if-is_left.found c.args.line (c.loop-edge.edge + 1)) (sym w.frame-is)
          (subst (λ (o : FoundLines). HasCrossed c.args.self.now c.args.frame.now c.loop-edge.frame
          c.args.found.now o c.args.line (c.loop-edge.edge + 1)) (sym w.found-is)
          (each.passed c.args.self.now c.walk_laws.ensures c.args.frame.now c.args.found.now c.requires.at_line.under_way
          c.args.line c.requires.at_line.line_found _ c.index-self-line.result refl c.put_corners.new.corners.items
          c.put_corners.ensures.corners c.put_corners.ensures.at_most_12
          c.loop-edge.frame c.loop-edge.found c.loop-edge.invariant.0 c.loop-edge.edge
          within c.args.self.now.machine.now.order refl c.as_slice.result.now c.as_slice.ensures.value c.loop-edge.invariant.1
          (c.is_left.ensures.over w.if-is_left.false)))
    ]

pub returns-clause-crossed : goal.returns-clause-crossed
returns-clause-crossed g c =
    let over = c.loop-edge-test.false in
    subst (AreCrossedOver (tiling_in c.args.self.now) c.args.frame.now c.args.self.now.window.now c.args.self.now.lines.now
    c.loop-edge.found.lines.items c.args.line)
    (each.many c.args.self.now c.walk_laws.ensures c.args.frame.now c.args.found.now c.requires.at_line.under_way
    c.args.line c.requires.at_line.line_found _ c.index-self-line.result refl c.put_corners.new.corners.items c.put_corners.ensures.corners)
    (λ e l. c.loop-edge.invariant.1 e (omega (arith, l, over)))

pub returns-in-Err-clause-step : goal.returns-in-Err-clause-step
returns-in-Err-clause-step g c = record {
  goes_on = tt;
  fault = stopped c.args.self.now c.args.frame.now c.loop-edge.frame c.args.found.now c.loop-edge.found c.loop-edge.invariant.0
      c.cross_edge.new.frame c.in-Err.fault c.in-Err.ensures.step.fault;
}

pub returns-clause-step : goal.returns-clause-step
returns-clause-step g c = record {
  goes_on = c.loop-edge.invariant.0;
  fault = tt;
}
