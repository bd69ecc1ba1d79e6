use Rattle.std.proofs.Common.{◌≡◌, ◌-◌, length, Some, refl, ap, subst, arith}
use Rattle.transducer_core.proofs.KindCells.{Below, top_down, stops_at_the_top, down, stops}
use Rattle.transducer_core.proofs.flat_table.FlatTable.last_below.Goals.{then-level-eq1+in_ok-last-2, else-level-eq1}
use Rattle.transducer_core.proofs.flat_table.FlatTable.last_below.Goals as goal

pub returns-in_err-last : goal.returns-in_err-last
returns-in_err-last c = λ kind. (
  λ e. absurd (cc (e, c.from_residual.ensures)),
  λ climbs. absurd (stops_at_the_top c.args.self.now c.child_kinds-kinds.result.now c.coherent.ensures
      c.child_kinds-kinds.ensures.spread c.child_kinds-kinds.ensures.filled c.args.digits.now
      (length c.args.digits.now - 1) (omega (arith, c.requires.some)) (c.in_err-last.ensures.none refl) kind climbs),
)

pub last_of_child-requires : goal.last_of_child-requires
last_of_child-requires c = record {
  row = (top_down c.args.self.now c.child_kinds-kinds.result.now c.coherent.ensures
      c.child_kinds-kinds.ensures.spread c.child_kinds-kinds.ensures.filled c.args.digits.now
      (length c.args.digits.now - 1) c.in_ok-last.last (omega (arith, c.requires.some)) (omega arith)
      c.in_ok-last.ensures.small c.in_ok-last.ensures.there).row;
}

pub returns-in_err-last-2 : goal.returns-in_err-last-2
returns-in_err-last-2 c = λ kind. (
  λ e. absurd (cc (e, c.from_residual-in_err-last-2.ensures)),
  λ climbs.
      let top = top_down c.args.self.now c.child_kinds-kinds.result.now c.coherent.ensures
      c.child_kinds-kinds.ensures.spread c.child_kinds-kinds.ensures.filled c.args.digits.now
      (length c.args.digits.now - 1) c.in_ok-last.last (omega (arith, c.requires.some)) (omega arith)
      c.in_ok-last.ensures.small c.in_ok-last.ensures.there in
      absurd (stops c.args.self.now c.child_kinds-kinds.result.now c.coherent.ensures
      c.child_kinds-kinds.ensures.spread c.child_kinds-kinds.ensures.filled c.args.digits.now
      (length c.args.digits.now - 1 - 1) (length c.args.digits.now - 1) c.in_ok-last.last
      (omega (arith, c.if-level-eq1.true)) (omega (arith, c.requires.some)) top (c.in_err-last-2.ensures.none refl) kind climbs),
)

pub loop-level-init : goal.loop-level-init
loop-level-init c =
    let top = top_down c.args.self.now c.child_kinds-kinds.result.now c.coherent.ensures
    c.child_kinds-kinds.ensures.spread c.child_kinds-kinds.ensures.filled c.args.digits.now
    (length c.args.digits.now - 1) c.in_ok-last.last (omega (arith, c.requires.some)) (omega arith)
    c.in_ok-last.ensures.small c.in_ok-last.ensures.there in
    elim c.if-level-eq1.branch [
      | then-level-eq1+in_ok-last-2 w ↦
          rw (w.last-is, w.level-is)
          (record {
            even = omega (arith, w.if-level-eq1.true);
            inside = omega (arith, c.requires.some);
            below = down c.args.self.now c.child_kinds-kinds.result.now c.coherent.ensures
                c.child_kinds-kinds.ensures.spread c.child_kinds-kinds.ensures.filled c.args.digits.now
                (length c.args.digits.now - 1 - 1) (length c.args.digits.now - 1) c.in_ok-last.last
                w.in_ok-last-2.last (omega (arith, w.if-level-eq1.true)) (omega (arith, c.requires.some))
                w.in_ok-last-2.ensures.small top w.in_ok-last-2.ensures.there.0 w.in_ok-last-2.ensures.there.1;
          })
      | else-level-eq1 w ↦
          rw (w.last-is, w.level-is)
          (record {
            even = omega (arith, w.if-level-eq1.false);
            inside = omega (arith, c.requires.some);
            below = top;
          })
    ]

pub returns-in_err-next : goal.returns-in_err-next
returns-in_err-next c = λ kind. (
  λ e. absurd (cc (e, c.from_residual-in_err-next.ensures)),
  λ climbs. absurd (stops c.args.self.now c.child_kinds-kinds.result.now c.coherent.ensures
      c.child_kinds-kinds.ensures.spread c.child_kinds-kinds.ensures.filled c.args.digits.now
      (c.loop-level.level - 1) c.loop-level.level c.loop-level.last
      (omega (arith, c.loop-level-test.true)) (omega (arith, c.loop-level.invariant.inside))
      c.loop-level.invariant.below (c.in_err-next.ensures.none refl) kind climbs),
)

pub last_of_child-requires-in-loop-level-2 : goal.last_of_child-requires-in-loop-level-2
last_of_child-requires-in-loop-level-2 c = record {
  row = (down c.args.self.now c.child_kinds-kinds.result.now c.coherent.ensures
      c.child_kinds-kinds.ensures.spread c.child_kinds-kinds.ensures.filled c.args.digits.now
      (c.loop-level.level - 1) c.loop-level.level c.loop-level.last c.in_ok-next.next
      (omega (arith, c.loop-level-test.true)) (omega (arith, c.loop-level.invariant.inside))
      c.in_ok-next.ensures.small c.loop-level.invariant.below c.in_ok-next.ensures.there.0
      c.in_ok-next.ensures.there.1).row;
}

pub returns-in_err-last-3 : goal.returns-in_err-last-3
returns-in_err-last-3 c = λ kind. (
  λ e. absurd (cc (e, c.from_residual-in_err-last-3.ensures)),
  λ climbs.
      let next = down c.args.self.now c.child_kinds-kinds.result.now c.coherent.ensures
      c.child_kinds-kinds.ensures.spread c.child_kinds-kinds.ensures.filled c.args.digits.now
      (c.loop-level.level - 1) c.loop-level.level c.loop-level.last c.in_ok-next.next
      (omega (arith, c.loop-level-test.true)) (omega (arith, c.loop-level.invariant.inside))
      c.in_ok-next.ensures.small c.loop-level.invariant.below c.in_ok-next.ensures.there.0
      c.in_ok-next.ensures.there.1 in
      absurd (stops c.args.self.now c.child_kinds-kinds.result.now c.coherent.ensures
      c.child_kinds-kinds.ensures.spread c.child_kinds-kinds.ensures.filled c.args.digits.now
      (c.loop-level.level - 2) (c.loop-level.level - 1) c.in_ok-next.next
      (omega (arith, c.loop-level-test.true, c.loop-level.invariant.even))
      (omega (arith, c.loop-level.invariant.inside)) next (c.in_err-last-3.ensures.none refl) kind climbs),
)

pub loop-level-preserved : goal.loop-level-preserved
loop-level-preserved c =
    let next = down c.args.self.now c.child_kinds-kinds.result.now c.coherent.ensures
    c.child_kinds-kinds.ensures.spread c.child_kinds-kinds.ensures.filled c.args.digits.now
    (c.loop-level.level - 1) c.loop-level.level c.loop-level.last c.in_ok-next.next
    (omega (arith, c.loop-level-test.true)) (omega (arith, c.loop-level.invariant.inside))
    c.in_ok-next.ensures.small c.loop-level.invariant.below c.in_ok-next.ensures.there.0
    c.in_ok-next.ensures.there.1 in
    record {
      even = omega (arith, c.loop-level.invariant.even);
      inside = omega (arith, c.loop-level.invariant.inside);
      below = down c.args.self.now c.child_kinds-kinds.result.now c.coherent.ensures
          c.child_kinds-kinds.ensures.spread c.child_kinds-kinds.ensures.filled c.args.digits.now
          (c.loop-level.level - 2) (c.loop-level.level - 1) c.in_ok-next.next c.in_ok-last-3.last
          (omega (arith, c.loop-level-test.true, c.loop-level.invariant.even))
          (omega (arith, c.loop-level.invariant.inside)) c.in_ok-last-3.ensures.small next
          c.in_ok-last-3.ensures.there.0 c.in_ok-last-3.ensures.there.1;
    }

pub returns : goal.returns
returns c = λ kind.
    let fine : c.loop-level.level ≡ 0 = omega (arith, c.loop-level-test.false) in
    let below : Below c.args.self.now c.child_kinds-kinds.result.now c.args.digits.now 0 c.loop-level.last = subst
    (λ i. Below c.args.self.now c.child_kinds-kinds.result.now c.args.digits.now i c.loop-level.last) fine
    c.loop-level.invariant.below in
    (λ e. below.only kind (cc e), λ climbs. ap Some (below.is kind climbs))
