use Rattle.std.proofs.Common.{length, ap, ◌∙◌, arith}
use Rattle.layer_svg.proofs.Keeping.{text_before}
use Rattle.layer_svg.proofs.path.put_and_keep.Goals as goal

pub returns-clause-kept : goal.returns-clause-kept
returns-clause-kept c =
    c.keep.ensures c.args.view.now c.requires.kept
    (text_before c.as_bytes-after.result.now c.args.line.now _ _
    (c.as_bytes-after.ensures ∙ c.put_vertex.ensures.vertex)
    (omega (arith, ap length c.as_bytes-before.ensures)))
