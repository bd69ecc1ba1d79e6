use Rattle.std.proofs.Common.{◌∙◌}
use Rattle.std.proofs.lemmas.Result.{IfOk-weaker}
use Rattle.tile_app.proofs.Drilled.{summary_text_of}
use Rattle.tile_app.proofs.drill.summary_text.Goals as goal

pub returns : goal.returns
returns c = IfOk-weaker c.format.result _ _ (λ text e. e ∙ summary_text_of c.args.count c.args.summary.now) c.format.ensures.ok
