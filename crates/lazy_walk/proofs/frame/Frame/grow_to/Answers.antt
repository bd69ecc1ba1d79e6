use Rattle.std.proofs.Common.{◌≡◌, ◌+◌, length, ap, ◌∙◌, arith}
use Rattle.rule_model.specs.Tiling.{tiling_of}
use Rattle.theory_walks.specs.Frames.{FrameValue}
use Rattle.theory_walks.proofs.Walks.{GrowsTo-self, GrowsTo-then, at_depth-depth, on_ok}
use Rattle.lazy_walk.proofs.frame.Frame.grow_to.Goals as goal

pub loop-self-init : goal.loop-self-init
loop-self-init c = record { grown = GrowsTo-self (tiling_of c.args.machine.now) c.args.self.now c.requires.frame; within = omega arith }

pub loop-self-smaller : goal.loop-self-smaller
loop-self-smaller c =
    let more = on_ok c.grow.result _ (c.grow.ensures.room.1
    (omega (arith, c.depth.ensures.digits, c.loop-self-test.true, c.requires.at_most_64)))
    c.grow.ensures.one_more in
    let longer : length c.grow.new.self.digits ≡ length c.loop-self.self.digits + 1 =
    ap (λ (f : FrameValue). length f.digits) more
    ∙ at_depth-depth (tiling_of c.args.machine.now) c.loop-self.self (length c.loop-self.self.digits + 1)
    (omega (arith, c.loop-self.invariant.grown.is_frame.holds_base)) in
    omega (arith, longer, c.depth.ensures.digits, c.loop-self-test.true)

pub loop-self-preserved : goal.loop-self-preserved
loop-self-preserved c =
    let more = on_ok c.grow.result _ (c.grow.ensures.room.1
    (omega (arith, c.depth.ensures.digits, c.loop-self-test.true, c.requires.at_most_64)))
    c.grow.ensures.one_more in
    let longer : length c.grow.new.self.digits ≡ length c.loop-self.self.digits + 1 =
    ap (λ (f : FrameValue). length f.digits) more
    ∙ at_depth-depth (tiling_of c.args.machine.now) c.loop-self.self (length c.loop-self.self.digits + 1)
    (omega (arith, c.loop-self.invariant.grown.is_frame.holds_base)) in
    record {
      grown = GrowsTo-then (tiling_of c.args.machine.now) c.args.self.now c.loop-self.self c.grow.new.self
          c.loop-self.invariant.grown c.grow.ensures.frame;
      within = omega (arith, longer, c.depth.ensures.digits, c.loop-self-test.true, c.loop-self.invariant.within);
    }
