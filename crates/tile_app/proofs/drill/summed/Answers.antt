use Rattle.std.proofs.Common.{ap, ◌∙◌, arith}
use Rattle.rule_model.specs.declared.rule.Rule.{Rule}
use Rattle.rule_model.specs.Tiling.{tiling_of}
use Rattle.tile_app.proofs.Drilled.{window-is, one_more}
use Rattle.tile_app.proofs.drill.summed.Goals as goal

pub loop-number-preserved : goal.loop-number-preserved
loop-number-preserved c =
    let before = c.loop-number.invariant in
    let i = c.loop-number._number in
    let machine = c.args.machine.now in
    let window = c.next_window-window in
    let added = c.in_ok-add_window.ensures in
    let same = c.order-order.ensures.order ∙ ap (λ (r : Rule). r.order) c.checked.ensures.rule in
    record {
      summary = one_more (tiling_of machine) c.args.start i c.fresh_frame-frame.result window.result
          c.loop-number.summary c.add_window.new.summary before.summary c.fresh_frame-frame.ensures.fresh
          (window-is c.order-order.result machine.order c.args.start c.loop-number.growth.start
          c.loop-number.growth.taken i window.result window.ensures.window same before.same_start
          before.six_words)
          added.adds;
      six_words = omega (arith, window.ensures.six_words, before.six_words);
      same_start = window.ensures.same_start ∙ before.same_start;
      few_tiles = omega (arith, added.most_tiles_more, before.few_tiles);
      few_refused = omega (arith, added.one_refused_more, before.few_refused);
    }
