use Rattle.std.proofs.Common.{length, ap, arith}
use Rattle.layer_api.proofs.Figures.{two_numbers, text_before}
use Rattle.layer_api.proofs.line.Line.put_and_keep.Goals as goal

pub keep-requires-clause-text : goal.keep-requires-clause-text
keep-requires-clause-text c =
    text_before c.as_bytes-line.result.now c.args.self.now _ _
    (two_numbers _ _ c.args.self.now _ _ _ _ _ c.put.ensures c.put_signed.ensures.number c.put-2.ensures
    c.put_signed-2.ensures.number c.as_bytes-line.ensures)
    (omega (arith, ap length c.as_bytes-before.ensures))
