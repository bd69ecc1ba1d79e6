use Rattle.std.proofs.Common.{◌≡◌, true, false, [], ◌∷◌, ◌++◌, length, sym, ap, ◌∙◌, subst, arith, length-append}
use Rattle.std.proofs.lemmas.Result.{IfOk-from_err}
use Rattle.window_cover.specs.Packed.{ends_of}
use Rattle.window_cover.specs.declared.ends.Ends.{Ends}
use Rattle.window_cover.specs.Border.{has_ends}
use Rattle.window_cover.specs.NewEdges.{reversed, meets_window}
use Rattle.window_cover.proofs.NewEdges.{stays_fresh, met-opened, met-closed, met-passed, no_longer}
use Rattle.window_cover.proofs.new_edges.meet_edge.Goals as goal
use Rattle.window_cover.proofs.new_edges.meet_edge.Goals.{else-not-close-via-then-not-close+else-meets, else-not-close-via-else-not-close}

pub of-ends-requires-clause-start_within : goal.of-ends-requires-clause-start_within
of-ends-requires-clause-start_within c = c.requires.start_within

pub of-ends-requires-clause-end_within : goal.of-ends-requires-clause-end_within
of-ends-requires-clause-end_within c = c.requires.end_within

pub add-requires : goal.add-requires
add-requires c = record {
  fresh = stays_fresh c.of-ends.result c.reversed.result c.args.edge c.args.border.now c.close.new.self c.close.result true
      c.reversed.ensures c.close.ensures.found c.close.ensures.closed
      (subst (λ k. has_ends k c.args.border.now ≡ false) (sym c.of-ends.ensures) c.requires.fresh);
}

pub returns-in_err-add-clause-met : goal.returns-in_err-add-clause-met
returns-in_err-add-clause-met c = IfOk-from_err c.from_residual.result _ c.from_residual.ensures.0

pub returns-in_err-add-clause-one_more : goal.returns-in_err-add-clause-one_more
returns-in_err-add-clause-one_more c =
    let shorter = no_longer c.of-ends.result c.reversed.result c.args.edge c.args.border.now c.close.new.self
    c.close.result true c.reversed.ensures c.close.ensures.found c.close.ensures.closed in
    let same : length c.add.new.self ≡ length c.close.new.self = ap length c.in_err-add.ensures.kept in
    omega (arith, shorter, same)

pub returns-in_ok-add-clause-met : goal.returns-in_ok-add-clause-met
returns-in_ok-add-clause-met c =
    met-opened _ c.reversed.result c.args.edge c.args.border.now c.close.new.self c.close.result
    (meets_window c.args.order c.args.window.now c.args.start.now c.args.end.now)
    (c.reversed.ensures ∙ ap reversed c.of-ends.ensures) c.close.ensures.found c.close.ensures.closed c.add.new.self
    c.if-not-close.true (sym c.meets.ensures ∙ c.if-meets.true)
    (c.in_ok-add.ensures.added ∙ ap (λ (k : Ends). c.close.new.self ++ record { ends = k; edge = c.args.edge } ∷ []) c.of-ends.ensures)

pub returns-in_ok-add-clause-one_more : goal.returns-in_ok-add-clause-one_more
returns-in_ok-add-clause-one_more c =
    let shorter = no_longer c.of-ends.result c.reversed.result c.args.edge c.args.border.now c.close.new.self
    c.close.result true c.reversed.ensures c.close.ensures.found c.close.ensures.closed in
    let same = ap length c.in_ok-add.ensures.added ∙ length-append c.close.new.self (record { ends = c.of-ends.result; edge = c.args.edge } ∷ []) in
    omega (arith, shorter, same)

pub returns-else-not-close-clause-met : goal.returns-else-not-close-clause-met
returns-else-not-close-clause-met c =
    let k = c.reversed.ensures ∙ ap reversed c.of-ends.ensures in
    let meets = meets_window c.args.order c.args.window.now c.args.start.now c.args.end.now in
    let n = ends_of c.args.start.now c.args.end.now in
    elim c.else-not-close.branch [
      | else-not-close-via-then-not-close+else-meets w ↦
          met-passed n c.reversed.result c.args.edge c.args.border.now c.close.new.self c.close.result meets k
          c.close.ensures.found c.close.ensures.closed (sym w.meets.ensures ∙ w.if-meets.false)
      | else-not-close-via-else-not-close w ↦
          met-closed n c.reversed.result c.args.edge c.args.border.now c.close.new.self c.close.result meets k
          c.close.ensures.found c.close.ensures.closed w.if-not-close.false
    ]

pub returns-else-not-close-clause-one_more : goal.returns-else-not-close-clause-one_more
returns-else-not-close-clause-one_more c =
    let shorter = no_longer c.of-ends.result c.reversed.result c.args.edge c.args.border.now c.close.new.self
    c.close.result true c.reversed.ensures c.close.ensures.found c.close.ensures.closed in
    omega (arith, shorter)
