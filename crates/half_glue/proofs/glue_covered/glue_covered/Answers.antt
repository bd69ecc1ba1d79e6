use Rattle.rule_model.specs.Tiling.{tiling_of}
use Rattle.half_glue.proofs.HandedOn.{handed-on, well-ended, full-ended}
use Rattle.half_glue.proofs.glue_covered.glue_covered.Goals as goal

pub returns-clause-ends : goal.returns-clause-ends
returns-clause-ends c =
    well-ended (tiling_of c.args.machine.now) c.args.frame.now c.glued.new.frame c.args.tiles c.in_ok-made.made _ c.in_ok-made.ensures.ends

pub returns-in_err-made-clause-ends : goal.returns-in_err-made-clause-ends
returns-in_err-made-clause-ends c =
    handed-on (tiling_of c.args.machine.now) c.args.frame.now c.glued.new.frame c.args.tiles c.in_err-made.field-0.0
    c.from_residual.result c.from_residual.ensures.1 c.in_err-made.ensures.ends

pub returns-in_err-grown-clause-ends : goal.returns-in_err-grown-clause-ends
returns-in_err-grown-clause-ends c =
    full-ended (tiling_of c.args.machine.now) c.args.frame.now c.glued.new.frame c.args.tiles c.in_ok-made.made
    c.from_residual-in_err-grown.result c.from_residual-in_err-grown.ensures.1 c.in_ok-made.ensures.ends
