use Rattle.std.proofs.Common.{◌∙◌, sym, ap}
use Rattle.cyclo_points.specs.Order.{points_of}
use Rattle.dissect_check.specs.Few.{one_more}
use Rattle.dissect_check.specs.Views.{line_in}
use Rattle.dissect_check.proofs.LieAmong.{along_one_more, along_no_more}
use Rattle.dissect_check.proofs.lying.wholes_along.Goals as goal
use Rattle.dissect_check.proofs.lying.wholes_along.Goals.{then-lies_along, else-lies_along}

pub loop-number-preserved : goal.loop-number-preserved
loop-number-preserved c =
    let o = c.args.order in
    elim c.if-lies_along.branch [
      | then-lies_along w ↦
          w.found-is ∙ w.more-found.ensures ∙ ap (λ f. one_more f c.loop-number.number) c.loop-number.invariant
          ∙ along_one_more (points_of o) (line_in o c.args.edge.now) (line_in o) c.args.wholes.now
          c.loop-number.number _ c.loop-number-test.true (sym c.lies_along.ensures ∙ w.if-lies_along.true)
      | else-lies_along w ↦
          w.found-is ∙ c.loop-number.invariant
          ∙ along_no_more (points_of o) (line_in o c.args.edge.now) (line_in o) c.args.wholes.now
          c.loop-number.number _ c.loop-number-test.true
          (sym c.lies_along.ensures ∙ w.if-lies_along.false)
    ]
