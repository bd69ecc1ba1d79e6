use Rattle.std.proofs.Common.{◌∙◌, sym}
use Rattle.pair_machine.proofs.RowKeys.{edges-one, one-edges}
use Rattle.pair_machine.proofs.alike.are_same.Goals as goal

pub returns : goal.returns
returns c = (λ yes. edges-one c.args.a.now c.args.b.now (sym c.eq.ensures ∙ yes), λ same. c.eq.ensures ∙ one-edges c.args.a.now c.args.b.now same)
