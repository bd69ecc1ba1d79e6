use Rattle.std.proofs.Common.{◌∙◌, ◌*◌, ℕ, ap, arith}
use Rattle.pair_machine.proofs.node.width.Goals as goal

pub returns : goal.returns
returns c = record {
  width = ap (λ (n : ℕ). n * 12) (c.from.ensures ∙ c.kinds.ensures.count);
  few = omega (arith, c.from.ensures, c.kinds.ensures.count, c.kinds.ensures.coherent.at_most_16_kinds);
  coherent = c.kinds.ensures.coherent;
}
